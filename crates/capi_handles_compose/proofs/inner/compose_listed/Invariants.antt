-- What is left to gather gives what the whole does, as in `group_digits::inner::compose_digits`.
use Rattle.group_digits.specs.Digits.{Compose}
use Rattle.group_handles.specs.Handles.{handles}
use Rattle.capi_handles.specs.Product.{product_of}
use Rattle.capi_handles_compose.proofs.Composing.{Composing}
use Rattle.capi_handles_compose.proofs.inner.compose_listed.Given as goal

abbrev pub invariant-loop-f : goal.invariant-loop-f
invariant-loop-f l = Composing Compose l.table (handles (product_of l.l l.count)) l.initial.x l.initial.y l.f l.stride l.sum l.x l.y
