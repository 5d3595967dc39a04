use Rattle.egg.specs.Pairs.{pair_count}
use Rattle.egg.proofs.Laws.{pair_product}
use mathlib.Core.Path.{refl}
use borrow.Author.Rules.{rules}
use Rattle.egg.proofs.inner.pair_count.Goals as goal

pub returns-then-n-eq0 : goal.returns-then-n-eq0
unfolding pair_count
returns-then-n-eq0 c = rw c.if-n-eq0.true

pub overflow_mul-result : goal.overflow_mul-result
overflow_mul-result c = record { fits = pair_product _ (search rules) }

pub returns : goal.returns
unfolding pair_count
returns c = refl
