-- A lent stretch of bytes in two parts, the table before `at` and the work from there on: what one part's call did, when it is back.
use Prim.Native.Nat.{ℕ, ◌-◌, ◌/◌, ◌≤◌}
use mathlib.Core.Path.{◌≡◌, sym, ap, ◌∙◌}
use mathlib.Core.List.{List, ◌++◌, append-nil}
use native.Mathlib.Omega.{arith}
use borrow.Rule.Slice.PartMut.{mid_of, put_mid, post_of, Post-is, take_put}
use lib.ListN.{length, take, drop, replicate, length-drop, length-append}
use lib.Seq.{take_all, drop-length, length-take-le, drop_at, take_at}
use Rattle.egg.specs.Table.{put_at}
use Rattle.image_cells.specs.Cells.{cells}
use Rattle.image_cells.proofs.Laws.{cells_length, cells_zero}

module _ (l : List ℕ) (at : ℕ) (h : at ≤ length l) where
  -- The work, while it is lent.
  pub rest_lent : mid_of at (length l - at) l ≡ drop at l
  rest_lent = take_all (length l - at) (drop at l) (omega (arith, length-drop at l))

  -- And back.
  pub rest_back : (p : List ℕ) → drop at (put_mid at (length l - at) l p) ≡ p
  rest_back p =
      drop_at (take at l) (p ++ post_of at (length l - at) l) at (length-take-le at l h)
      ∙ ap (λ (z : List ℕ). p ++ z) (Post-is at (length l) l h ∙ drop-length l) ∙ append-nil p

  pub rest_put : (p : List ℕ) (i v : ℕ) → cells p ≡ put_at (cells (mid_of at (length l - at) l)) i v
      → (take at (put_mid at (length l - at) l p) ≡ take at l) × (cells (drop at (put_mid at (length l - at) l p)) ≡ put_at (cells (drop at l)) i v)
  rest_put p i v e =
      (take_put at (length l - at) l p h, ap cells (rest_back p) ∙ e ∙ ap (λ (z : List ℕ). put_at (cells z) i v) rest_lent)

-- The work has as many cells after a call as before it.
pub rest_long : (at : ℕ) (l m : List ℕ) → length m ≡ length l → length (cells (drop at m)) ≡ length (cells (drop at l))
rest_long at l m e = rw (cells_length (drop at m), cells_length (drop at l), length-drop at m, length-drop at l, e)

-- The table, lent and back as p.
module _ (l : List ℕ) (at : ℕ) (h : at ≤ length l) (p : List ℕ) (e : length p ≡ length (take at l)) where
  pub front_length : length p ≡ at
  front_length = e ∙ length-take-le at l h

  pub front_take : take at (p ++ drop at l) ≡ p
  front_take = take_at p (drop at l) at front_length

  pub front_drop : drop at (p ++ drop at l) ≡ drop at l
  front_drop = drop_at p (drop at l) at front_length

  pub front_put : (i v : ℕ) → cells p ≡ put_at (cells (take at l)) i v
      → (cells (take at (p ++ drop at l)) ≡ put_at (cells (take at l)) i v) × (drop at (p ++ drop at l) ≡ drop at l)
  front_put i v q = (ap cells front_take ∙ q, front_drop)

  pub front_count : at ≡ length (take at (p ++ drop at l))
  front_count = sym (ap length front_take ∙ front_length)

  pub front_more : at ≤ length (p ++ drop at l)
  front_more = omega (arith, length-append p (drop at l), front_length)

  pub front_zero : p ≡ replicate (length (take at l)) 0 → cells (take at (p ++ drop at l)) ≡ replicate (at / 4) 0
  front_zero z = ap cells (front_take ∙ z ∙ ap (λ (k : ℕ). replicate k 0) (length-take-le at l h)) ∙ cells_zero at
