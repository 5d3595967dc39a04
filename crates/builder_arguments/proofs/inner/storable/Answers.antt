-- One law for each answer, from what `place_step` ensures and the step that was read.
use Rattle.egg.proofs.Refusing.{handed_on}
use mathlib.Core.Path.{sym, ◌∙◌, subst}
use Prim.Native.Nat.{ℕ, ◌<◌, ◌≤◌}
use lib.ListN.{length}
use Rattle.builder_arguments.proofs.Places.{end_fits, store_refused, store_altered, store_fine, step_read_lem}
use Rattle.builder_arguments.proofs.inner.storable.Goals as goal

pub returns-in_err-place_step : goal.returns-in_err-place_step
returns-in_err-place_step c = let a = c.args in
    handed_on c.from_residual.ensures ∙ sym c.in_err-place_step.was ∙ store_refused a.table.now a.f a.e a.g a.r c.place_step.ensures c.in_err-place_step.was

pub part-s-requires : goal.part-s-requires
part-s-requires c = let a = c.args in
    end_fits (length a.table.now) a.f a.e a.g a.r c.place_step.ensures c.in_ok-place_step.was

pub returns-then-f-old : goal.returns-then-f-old
returns-then-f-old c = let a = c.args in
    let old = step_read_lem a.table.now a.f a.e a.g a.r c.part-s.ensures c.successor_at.ensures c.get-old.ensures in
    store_altered a.table.now a.f a.e a.g a.r c.place_step.ensures c.in_ok-place_step.was (subst (λ (x : ℕ). a.f.elements < x) old c.if-f-old.true)

pub returns : goal.returns
returns c = let a = c.args in
    let old = step_read_lem a.table.now a.f a.e a.g a.r c.part-s.ensures c.successor_at.ensures c.get-old.ensures in
    store_fine a.table.now a.f a.e a.g a.r c.place_step.ensures c.in_ok-place_step.was (subst (λ (x : ℕ). x ≤ a.f.elements) old c.if-f-old.false)
