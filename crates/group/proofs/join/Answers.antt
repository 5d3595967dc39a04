-- One law for each answer.
use Rattle.egg.proofs.Refusing.{handed_on}
use lib.ListN.{length}
use mathlib.Core.Path.{◌∙◌, sym, ap}
use borrow.Author.Tests.{not-true, not-false}
use Rattle.group_handles.proofs.Admitted.{seen_fit}
use Rattle.group.proofs.Calls.{join_handle, join_bad, join_good}
use Rattle.group_handles.specs.Handles.{handles}
use Rattle.group_handles.proofs.Lists.{positive}
use Rattle.group_handles.specs.declared.inner.Seen.{Seen}
use Rattle.group.proofs.join.Goals as goal

pub returns-then-not-seen : goal.returns-then-not-seen
returns-then-not-seen c = join_handle c.args.table.now c.args.g c.args.digits.now (seen_fit (length c.args.table.now) c.args.g c.look-seen.ensures.0 (not-true _ c.if-not-seen.true))

pub join_in-requires : goal.join_in-requires
join_in-requires c = (positive (length c.args.table.now) (handles c.args.g) (seen_fit (length c.args.table.now) c.args.g c.look-seen.ensures.0 (not-false _ c.if-not-seen.false)), (ap (λ (s : Seen). s.elements) c.look-seen.ensures.0, sym c.digits_right.ensures ∙ c.in_ok-digits_right.was))

pub returns-in_err-digits_right : goal.returns-in_err-digits_right
returns-in_err-digits_right c = handed_on c.from_residual.ensures ∙ join_bad c.args.table.now c.args.g c.args.digits.now (seen_fit (length c.args.table.now) c.args.g c.look-seen.ensures.0 (not-false _ c.if-not-seen.false)) c.digits_right.ensures c.in_err-digits_right.was

pub returns : goal.returns
returns c = join_good c.args.table.now c.args.g c.args.digits.now (seen_fit (length c.args.table.now) c.args.g c.look-seen.ensures.0 (not-false _ c.if-not-seen.false)) c.digits_right.ensures c.in_ok-digits_right.was c.join_in.ensures
