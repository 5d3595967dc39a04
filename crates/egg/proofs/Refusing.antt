-- What `?` hands on where a call refused: the refusal itself.
use mathlib.Core.Path.{◌≡◌, ap}
use Rattle.std.specs.Prelude.{Result, Ok, Err, IsErr, IsErrAnd}

pub handed_on : {T E : Type 0} {r : Result T E} {e : E} → IsErr r × IsErrAnd r (λ y. y ≡ e) → r ≡ Err e
handed_on {r = Ok x} h = absurd h.1
handed_on {r = Err y} h = ap Err h.1
