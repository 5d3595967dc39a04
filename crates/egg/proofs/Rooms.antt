-- Laws of `has_room` and `fits_in`, by the tests that decide them, and what they give.
use Prim.Native.Nat.{ℕ, ◌+◌, ◌*◌, ◌-◌, ◌≤◌, ◌<◌}
use mathlib.Core.Path.{◌≡◌, refl, sym, ◌∙◌}
use mathlib.Core.Bool.{Bool, true, false, ◌&&◌}
use native.Mathlib.Nat.{mul-le-mul}
use native.Mathlib.Omega.{arith}
use borrow.Author.Tests.{le-leb, lt-leb, leb-true, leb-false}
use lib.Dec.{leb}
use Rattle.egg.specs.declared.Factor.{Factor}
use Rattle.egg.specs.Factor.{has_room, fits_in}

pub false_true : false ≡ true → ⊥
false_true e = let q : ◌≡◌ {A = ℕ} 0 1 = cc in omega arith

pub and_first : (a b : Bool) → a && b ≡ true → a ≡ true
and_first true b h = refl
and_first false b h = h

pub and_second : (a b : Bool) → a && b ≡ true → b ≡ true
and_second true b h = h
and_second false b h = absurd (false_true h)

-- Both sides of a comparison of sums and differences are one test.
leb_shift : (start need len : ℕ) → need ≤ len → leb start (len - need) ≡ leb (start + need) len
leb_shift start need len h = by (leb start (len - need)) refl where
  by : (b : Bool) → leb start (len - need) ≡ b → leb start (len - need) ≡ leb (start + need) len
  by true e = let p : start + need ≤ len = omega (arith, leb-true start (len - need) e) in e ∙ sym (le-leb _ _ p)
  by false e = let p : len < start + need = omega (arith, leb-false start (len - need) e) in e ∙ sym (lt-leb _ _ p)

module _ (len start room n : ℕ) where
  pub room_generators : 8 < n → false ≡ has_room len start room n
  unfolding has_room
  room_generators h = simp (lt-leb _ _ h)

  pub room_none : n ≤ 8 → room ≡ 0 → false ≡ has_room len start room n
  unfolding has_room
  room_none h z = simp (le-leb _ _ h, z)

  pub room_large : n ≤ 8 → (room ≡ 0 → ⊥) → 65535 < room → false ≡ has_room len start room n
  unfolding has_room
  room_large h z k = let p : 1 ≤ room = omega arith in simp (le-leb _ _ h, le-leb _ _ p, lt-leb _ _ k)

  module _ (h : n ≤ 8) (z : room ≡ 0 → ⊥) (k : room ≤ 65535) (w : ℕ) (e : w ≡ 2 * n + 4) where
    pub room_need : room * w ≤ 1310700
    room_need = let q : w ≤ 20 = omega arith in omega (arith, mul-le-mul k q)

    pub room_short : len < room * w → false ≡ has_room len start room n
    unfolding has_room
    room_short s =
        let p : 1 ≤ room = omega arith in
        let q : len < start + room * (2 * n + 4) = rw (← e) (omega arith) in
        simp (le-leb _ _ h, le-leb _ _ p, le-leb _ _ k, lt-leb _ _ q)

    pub room_start : room * w ≤ len → leb start (len - room * w) ≡ has_room len start room n
    unfolding has_room
    room_start s =
        let p : 1 ≤ room = omega arith in
        simp (le-leb _ _ h, le-leb _ _ p, le-leb _ _ k) (rw (← e) (leb_shift start (room * w) len s))

  -- What room there is.
  module _ (h : has_room len start room n ≡ true) where
    pub few : n ≤ 8
    unfolding has_room
    few = leb-true _ _ (and_first _ _ h)

    pub positive : 1 ≤ room
    unfolding has_room
    positive = leb-true _ _ (and_first (leb 1 room) _ (and_second (leb n 8) _ h))

    pub limited : room ≤ 65535
    unfolding has_room
    limited = leb-true _ _ (and_first (leb room 65535) _ (and_second (leb 1 room) _ (and_second (leb n 8) _ h)))

    pub within_length : start + room * (2 * n + 4) ≤ len
    unfolding has_room
    within_length = leb-true _ _ (and_second (leb room 65535) _ (and_second (leb 1 room) _ (and_second (leb n 8) _ h)))

module _ (len : ℕ) (f : Factor) where
  pub fits_empty : f.elements ≡ 0 → false ≡ fits_in len f
  unfolding fits_in
  fits_empty z = rw z

  pub fits_over : (f.elements ≡ 0 → ⊥) → f.room < f.elements → false ≡ fits_in len f
  unfolding fits_in
  fits_over z h = let p : 1 ≤ f.elements = omega arith in simp (le-leb _ _ p, lt-leb _ _ h)

  pub fits_room : (f.elements ≡ 0 → ⊥) → f.elements ≤ f.room → has_room len f.start f.room f.generators ≡ fits_in len f
  unfolding fits_in
  fits_room z h = let p : 1 ≤ f.elements = omega arith in simp (le-leb _ _ p, le-leb _ _ h)

  module _ (h : fits_in len f ≡ true) where
    pub some : 1 ≤ f.elements
    unfolding fits_in
    some = leb-true _ _ (and_first _ _ h)

    pub room_enough : f.elements ≤ f.room
    unfolding fits_in
    room_enough = leb-true _ _ (and_first (leb f.elements f.room) _ (and_second (leb 1 f.elements) _ h))

    pub has : has_room len f.start f.room f.generators ≡ true
    unfolding fits_in
    has = and_second (leb f.elements f.room) _ (and_second (leb 1 f.elements) _ h)

    -- The end of the stretch is in the buffer.
    pub stretch_end : {w : ℕ} → w ≡ 2 * f.generators + 4 → f.start + f.room * w ≤ len
    stretch_end e = rw e (within_length len f.start f.room f.generators has)
