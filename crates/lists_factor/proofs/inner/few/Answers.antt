-- The places were counted.
use Rattle.egg.proofs.Rooms.{false_true}
use Rattle.lists_factor.proofs.inner.few.Goals as goal

pub returns-then-places-gt32 : goal.returns-then-places-gt32
returns-then-places-gt32 c = λ h. absurd (false_true h)
