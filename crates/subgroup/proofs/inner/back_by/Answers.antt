-- The verdict of `admit` decides.
use Rattle.egg.proofs.Refusing.{handed_on}
use Prim.Native.Nat.{ℕ}
use mathlib.Core.Path.{ap, ◌∙◌}
use lib.ListN.{length}
use Rattle.subgroup.specs.Outline.{admits_outline, back_by_outline}
use Rattle.subgroup.proofs.Outlines.{back_goes, within_refused, within_fine}
use Rattle.subgroup.proofs.inner.back_by.Goals as goal

pub carry_back-requires : goal.carry_back-requires
carry_back-requires c = back_goes c.args.o (length c.args.inn.now) c.args.o.over c.args.x.0 c.admit.ensures c.in_ok-admit.was c.measure-m.ensures

pub returns-in_err-admit : goal.returns-in_err-admit
unfolding back_by_outline
returns-in_err-admit c = handed_on c.from_residual.ensures ∙ within_refused (c.admit.ensures ∙ ap (λ (l : ℕ). admits_outline c.args.o (length c.args.inn.now) c.args.o.over c.args.x.0 l) c.measure-m.ensures) _ c.in_err-admit.was

pub returns : goal.returns
unfolding back_by_outline
returns c = c.carry_back.ensures ∙ within_fine (c.admit.ensures ∙ ap (λ (l : ℕ). admits_outline c.args.o (length c.args.inn.now) c.args.o.over c.args.x.0 l) c.measure-m.ensures) _ c.in_ok-admit.was
