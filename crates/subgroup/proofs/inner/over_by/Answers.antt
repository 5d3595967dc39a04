-- The verdict of `admit` decides.
use Rattle.egg.proofs.Refusing.{handed_on}
use Prim.Native.Nat.{ℕ}
use mathlib.Core.Path.{ap, ◌∙◌}
use lib.ListN.{length}
use Rattle.factor.proofs.Admits.{reach_refused, reach_fine}
use Rattle.subgroup.specs.Outline.{admits_outline, over_by_outline}
use Rattle.subgroup.proofs.Outlines.{over_goes}
use Rattle.subgroup.proofs.inner.over_by.Goals as goal

pub carry_over-requires : goal.carry_over-requires
carry_over-requires c = over_goes c.args.o (length c.args.outw.now) c.args.o.within c.args.e.0 c.admit.ensures c.in_ok-admit.was c.measure-n.ensures

pub returns-in_err-admit : goal.returns-in_err-admit
unfolding over_by_outline
returns-in_err-admit c = handed_on c.from_residual.ensures ∙ reach_refused (c.admit.ensures ∙ ap (λ (l : ℕ). admits_outline c.args.o (length c.args.outw.now) c.args.o.within c.args.e.0 l) c.measure-n.ensures) _ c.in_err-admit.was

pub returns : goal.returns
unfolding over_by_outline
returns c = c.carry_over.ensures ∙ reach_fine (c.admit.ensures ∙ ap (λ (l : ℕ). admits_outline c.args.o (length c.args.outw.now) c.args.o.within c.args.e.0 l) c.measure-n.ensures) _ c.in_ok-admit.was
