-- Four buffers are cleared.
use mathlib.Core.Path.{refl}
use lib.ListN.{take}
use Rattle.subgroup_predicate_choices.proofs.Choices.{ninth_is}
use Rattle.subgroup_predicate_choices.proofs.inner.ninth.Goals as goal

pub returns : goal.returns
returns c = (ninth_is (take c.args.p.generators c.args.p.chosen) c.args.t.now c.args.w.now c.args.inn.now c.args.outw.now c.clear.ensures c.clear-2.ensures c.clear-3.ensures c.clear-4.ensures, (refl, refl))
