-- What the look showed decides as the product does.
use Rattle.group_handles.specs.Handles.{handles}
use Rattle.group_handles.proofs.Admitted.{looked}
use Rattle.capi_handles.specs.Product.{product_of}
use Rattle.capi_handles.proofs.Admitting.{two_elements_lem}
use borrow.Author.Rules.{rules}
use Rattle.capi_handles_compose.proofs.inner.admit.Goals as goal

pub returns : goal.returns
returns c = two_elements_lem c.args.l.now c.args.count (looked _ (handles (product_of c.args.l.now c.args.count)) c.look_at-s.ensures) (search rules) (search rules) c.admit_seen.ensures
