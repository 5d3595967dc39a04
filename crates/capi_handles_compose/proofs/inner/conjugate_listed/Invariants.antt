-- As `compose_listed`.
use Rattle.group_digits.specs.Digits.{Conjugate}
use Rattle.group_handles.specs.Handles.{handles}
use Rattle.capi_handles.specs.Product.{product_of}
use Rattle.capi_handles_compose.proofs.Composing.{Composing}
use Rattle.capi_handles_compose.proofs.inner.conjugate_listed.Given as goal

abbrev pub invariant-loop-f : goal.invariant-loop-f
invariant-loop-f l = Composing Conjugate l.table (handles (product_of l.l l.count)) l.initial.outer l.initial.middle l.f l.stride l.sum l.outer l.middle
