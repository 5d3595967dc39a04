-- What the look showed decides as the handles do.
use lib.ListN.{length}
use Rattle.group_handles.specs.Handles.{handles}
use Rattle.group_handles.proofs.Admitted.{same_limit, looked, admits_seen_lem}
use borrow.Author.Rules.{rules}
use Rattle.group_handles.proofs.inner.admit.Goals as goal

pub returns : goal.returns
returns c = admits_seen_lem (c.args.g) (looked _ (handles (c.args.g)) (c.look-s.ensures.0)) (c.args.a) (c.args.la) _ (c.args.b) (c.args.lb) _ (c.admit_seen.ensures) (λ f. same_limit (length (c.args.table.now)) (handles (c.args.g)) (c.look-s.ensures.0) (search rules) (c.args.la)) (λ f. same_limit (length (c.args.table.now)) (handles (c.args.g)) (c.look-s.ensures.0) (search rules) (c.args.lb))
