-- One law for each answer, from what `place` ensures and the last test.
use Rattle.egg.proofs.Refusing.{handed_on}
use mathlib.Core.Path.{sym, ◌∙◌}
use lib.ListN.{length}
use Rattle.builder_arguments.proofs.Places.{end_refused, end_out, end_fine}
use borrow.Author.Rules.{rules}
use Rattle.builder_arguments.proofs.inner.place_step.Goals as goal

pub returns-in_err-place : goal.returns-in_err-place
returns-in_err-place c = let a = c.args in
    handed_on c.from_residual.ensures ∙ sym c.in_err-place.was ∙ end_refused (length a.table.now) a.f a.e a.g a.r c.place.ensures c.in_err-place.was

pub returns-then-f-r : goal.returns-then-f-r
returns-then-f-r c = let a = c.args in
    end_out (length a.table.now) a.f a.e a.g a.r c.place.ensures c.in_ok-place.was (search rules)

pub returns : goal.returns
returns c = let a = c.args in
    end_fine (length a.table.now) a.f a.e a.g a.r c.place.ensures c.in_ok-place.was c.if-f-r.false
