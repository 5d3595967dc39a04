-- One law for each answer of the tests before the name.
use Prim.Native.Nat.{ℕ, ◌*◌, ◌≤◌, ◌<◌}
use mathlib.Core.Path.{◌≡◌}
use mathlib.Core.Bool.{true, false}
use mathlib.Core.List.{List}
use borrow.Author.Tests.{lt-ltb, le-ltb, le-leb, lt-leb}
use Rattle.egg.specs.declared.Refusal.{Refusal}
use Rattle.egg.specs.Answers.{Verdict, fine}
use Rattle.std.specs.Prelude.{Err}
use Rattle.egg.specs.Scan.{refused_of}
use Rattle.egg.specs.Pairs.{orders_right}
use Rattle.egg.specs.Factor.{has_room}
use Rattle.build_lending.specs.Lending.{lent_right}
use Rattle.names.specs.Arguments.{composed_right, enumerate_right, begin_right}

module _ (table start work rows n room : ℕ) where
  pub composed_right_many : 8 < n → refused_of 1 n 0 0 ≡ composed_right table start work rows n room
  unfolding composed_right
  composed_right_many h = simp (lt-ltb _ _ h)

  module _ (h : n ≤ 8) where
    pub composed_right_short : lent_right table start work room n ≡ false → refused_of 4 0 0 0 ≡ composed_right table start work rows n room
    unfolding composed_right
    composed_right_short l = simp (le-ltb _ _ h, l)

    module _ (l : lent_right table start work room n ≡ true) where
      pub composed_right_unlisted : rows < room * n → refused_of 4 0 0 0 ≡ composed_right table start work rows n room
      unfolding composed_right
      composed_right_unlisted k = simp (le-ltb _ _ h, l, lt-leb _ _ k)

      pub composed_right_fine : room * n ≤ rows → fine ≡ composed_right table start work rows n room
      unfolding composed_right
      composed_right_fine k = simp (le-ltb _ _ h, l, le-leb _ _ k)

module _ (table start work : ℕ) (orders : List ℕ) (n room : ℕ) where
  pub enumerate_right_many : 8 < n → refused_of 1 n 0 0 ≡ enumerate_right table start work orders n room
  unfolding enumerate_right
  enumerate_right_many h = simp (lt-ltb _ _ h)

  module _ (h : n ≤ 8) {v : Verdict} (q : v ≡ orders_right orders n) where
    pub enumerate_right_orders : {why : Refusal} → v ≡ Err why → Err why ≡ enumerate_right table start work orders n room
    unfolding enumerate_right
    enumerate_right_orders e = rw (← q, e) (simp (le-ltb _ _ h))

    module _ (e : v ≡ fine) where
      pub enumerate_right_short : lent_right table start work room n ≡ false → refused_of 4 0 0 0 ≡ enumerate_right table start work orders n room
      unfolding enumerate_right
      enumerate_right_short l = rw (← q, e) (simp (le-ltb _ _ h, l))

      pub enumerate_right_fine : lent_right table start work room n ≡ true → fine ≡ enumerate_right table start work orders n room
      unfolding enumerate_right
      enumerate_right_fine l = rw (← q, e) (simp (le-ltb _ _ h, l))

module _ (table start room n : ℕ) where
  pub begin_right_many : 8 < n → refused_of 1 n 0 0 ≡ begin_right table start room n
  unfolding begin_right
  begin_right_many h = simp (lt-ltb _ _ h)

  module _ (h : n ≤ 8) where
    pub begin_right_short : has_room table start room n ≡ false → refused_of 4 0 0 0 ≡ begin_right table start room n
    unfolding begin_right
    begin_right_short k = simp (le-ltb _ _ h, k)

    pub begin_right_fine : has_room table start room n ≡ true → fine ≡ begin_right table start room n
    unfolding begin_right
    begin_right_fine k = simp (le-ltb _ _ h, k)
