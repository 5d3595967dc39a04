-- The verdict of `admit` decides.
use Rattle.egg.proofs.Refusing.{handed_on}
use Prim.Native.Nat.{◌<◌}
use mathlib.Core.Path.{◌∙◌}
use native.Mathlib.Omega.{arith}
use lib.ListN.{length}
use Rattle.factor.proofs.Admits.{reach_refused, reach_fine}
use Rattle.subgroup.specs.Questions.{generator_answer}
use Rattle.subgroup_sides.proofs.SideLaws.{asks_by}
use Rattle.subgroup.proofs.Outlines.{measured, admits_told}
use borrow.Author.Rules.{rules}
use Rattle.subgroup.proofs.generator.Goals as goal

pub admit-requires : goal.admit-requires
admit-requires c = let k : c.args.s.factor.elements < 4294967296 = search rules in measured (length c.args.from.now) (length c.args.table.now) c.args.s c.outlined-o.ensures (omega (arith, k))

pub generator_over-requires : goal.generator_over-requires
generator_over-requires c = let A = asks_by (length c.args.from.now) (length c.args.table.now) c.args.s (length c.args.outw.now) c.args.s.factor.elements c.args.g.0 _ (admits_told (length c.args.from.now) (length c.args.table.now) c.args.s c.outlined-o.ensures (length c.args.outw.now) c.args.s.factor.elements c.args.g.0 c.sub_generators-k.ensures c.admit.ensures) c.in_ok-admit.was in ((A.fits, A.limited), c.outlined-o.ensures)

pub returns-in_err-admit : goal.returns-in_err-admit
unfolding generator_answer
returns-in_err-admit c = handed_on c.from_residual.ensures ∙ reach_refused (admits_told (length c.args.from.now) (length c.args.table.now) c.args.s c.outlined-o.ensures (length c.args.outw.now) c.args.s.factor.elements c.args.g.0 c.sub_generators-k.ensures c.admit.ensures) _ c.in_err-admit.was

pub returns : goal.returns
unfolding generator_answer
returns c = c.generator_over.ensures ∙ reach_fine (admits_told (length c.args.from.now) (length c.args.table.now) c.args.s c.outlined-o.ensures (length c.args.outw.now) c.args.s.factor.elements c.args.g.0 c.sub_generators-k.ensures c.admit.ensures) _ c.in_ok-admit.was
