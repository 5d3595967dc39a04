-- Laws of what a build needs to be lent, and of a part of a buffer while it is lent on and when it is back.
use Prim.Native.Nat.{ℕ, ◌+◌, ◌-◌, ◌≤◌}
use mathlib.Core.Path.{◌≡◌, ap, ◌∙◌}
use mathlib.Core.Bool.{Bool, true, false}
use mathlib.Core.List.{List, ◌++◌}
use native.Mathlib.Omega.{arith}
use borrow.Rule.Slice.PartMut.{mid_of, put_mid, Post-is, mid_len}
use lib.Dec.{leb}
use lib.ListN.{length, take, drop}
use Rattle.egg.specs.declared.Factor.{Factor}
use Rattle.egg.specs.Answers.{Counted, Made}
use Rattle.egg.specs.Factor.{has_room, stretch}
use Rattle.egg.proofs.Rooms.{and_first, and_second}
use Rattle.build_lending.specs.Finish.{Built, built}
use Rattle.build_lending.specs.Lending.{table_need, work_need, lent_right, within, StretchEnd, making, made_of, lent_back}

module _ (table start work room n : ℕ) where
  module _ {b : Bool} (q : b ≡ has_room table start room n) where
    pub lent_short : b ≡ false → false ≡ lent_right table start work room n
    unfolding lent_right
    lent_short e = rw (← q, e)

    pub lent_work : {k : ℕ} → b ≡ true → k ≡ work_need n room → leb k work ≡ lent_right table start work room n
    unfolding lent_right
    lent_work e p = rw (← q, e, p)

  -- What was lent right: the table has room, and the work is long enough.
  module _ (h : lent_right table start work room n ≡ true) where
    pub lent_table_lem : has_room table start room n ≡ true
    unfolding lent_right
    lent_table_lem = and_first _ _ h

    pub lent_enough : leb (work_need n room) work ≡ true
    unfolding lent_right
    lent_enough = and_second (has_room table start room n) _ h

-- A part from a to e, put back.
pub put_within : (l p : List ℕ) (a e : ℕ) → a ≤ e → put_mid a (e - a) l p ≡ within l a e p
unfolding within
put_within l p a e h = ap (λ (z : List ℕ). take a l ++ (p ++ z)) (Post-is a e l h)

-- The first k, put back.
pub put_front : (l p : List ℕ) {k d : ℕ} → d ≡ k → p ++ drop d l ≡ within l 0 k p
unfolding within
put_front l p q = rw q

-- A part that starts at a and has k numbers: while it is lent, its length, and when it is back.
module _ (l : List ℕ) (a k : ℕ) {e : ℕ} (q : StretchEnd e a k (length l)) where
  pub part_lent : mid_of a (e - a) l ≡ take k (drop a l)
  part_lent = let z : e - a ≡ k = omega (arith, q.at) in rw z

  pub part_length : length (mid_of a (e - a) l) ≡ k
  part_length = let z : e - a ≡ k = omega (arith, q.at) in mid_len a e l q.inside ∙ z

  pub part_back : (p : List ℕ) → put_mid a (e - a) l p ≡ within l a (a + k) p
  part_back p = let h : a ≤ e = omega (arith, q.at) in put_within l p a e h ∙ ap (λ (z : ℕ). within l a z p) q.at

-- The stretch of a factor, while it is lent.
pub stretch_lent : (t : List ℕ) (f : Factor) {e : ℕ} → StretchEnd e f.start (table_need f.generators f.room) (length t)
    → mid_of f.start (e - f.start) t ≡ stretch t f
unfolding stretch
stretch_lent t f q = part_lent t f.start (table_need f.generators f.room) q

-- A build that went on in both stretches, with the handle of what it made: the buffers when both are back.
pub build_back : (table : List ℕ) (start : ℕ) (work : List ℕ) (n room : ℕ) {e d : ℕ} {c : Counted} {t w : List ℕ} {m : Made} {b : Built}
    → StretchEnd e start (table_need n room) (length table) → d ≡ work_need n room → m ≡ made_of start room n c → built c t w ≡ b
    → making m (put_mid start (e - start) table t) (w ++ drop d work) ≡ lent_back table start work n room b
build_back table start work n room {e} {d} {c} {t} {w} {m} q k g h =
    let x : put_mid start (e - start) table t ≡ within table start (start + table_need n room) t = part_back table start (table_need n room) q t in
    let y : w ++ drop d work ≡ within work 0 (work_need n room) w = put_front work w k in
    let z : making m (put_mid start (e - start) table t) (w ++ drop d work)
    ≡ making (made_of start room n c) (within table start (start + table_need n room) t) (within work 0 (work_need n room) w) = cc in
    z ∙ ap (λ (v : Built). lent_back table start work n room v) h
