use mathlib.Core.Path.{refl}
use Rattle.egg.specs.Pairs.{pair_code}
use Rattle.egg.proofs.inner.pair_code.Goals as goal

pub returns : goal.returns
unfolding pair_code
returns c = refl
