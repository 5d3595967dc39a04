-- The numbers of a handle that fits its buffer are small.
use Prim.Native.Nat.{ℕ, ◌≤◌}
use mathlib.Core.Path.{◌≡◌}
use mathlib.Core.Bool.{true}
use native.Mathlib.Omega.{arith}
use Rattle.egg.specs.declared.Factor.{Factor}
use Rattle.egg.specs.Factor.{fits_in}
use Rattle.egg.proofs.Rooms.{has, few, limited, room_enough}

pub fits_small : (len : ℕ) (f : Factor) → fits_in len f ≡ true → (f.generators ≤ 8) × (f.elements ≤ 65535)
fits_small len f h =
    let r = has len f h in
    (few len f.start f.room f.generators r, omega (arith, limited len f.start f.room f.generators r, room_enough len f h))
