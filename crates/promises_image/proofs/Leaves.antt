-- What a refused reading leaves, in the words of every call that makes a factor, and by which numbers it is refused. Where all N elements are reached it is the
-- call on composed rows, and by 16 otherwise.
use Prim.Native.Nat.{ℕ, ◌+◌, ◌*◌}
use mathlib.Core.Path.{◌≡◌, refl, sym, ap, ◌∙◌}
use mathlib.Core.Bool.{Bool, true, false}
use mathlib.Core.List.{List, [], ◌∷◌}
use native.Mathlib.Omega.{arith}
use borrow.Author.Tests.{ne_eqb, eqb-true, eqb-false, leb-true}
use lib.Dec.{ltb, eqb}
use lib.ListN.{length, get_or, drop, replicate}
use Rattle.egg.specs.declared.Refusal.{Refusal}
use Rattle.egg.specs.Refusals.{refusal_paper, numbered}
use Rattle.std.specs.Prelude.{Err}
use Rattle.egg.specs.Table.{pick}
use Rattle.egg.proofs.Rooms.{false_true, within_length}
use Rattle.build_lending.specs.Lending.{table_need, work_need, lent_right, Making, making}
use Rattle.build_lending.proofs.Lending.{lent_table_lem, lent_enough}
use Rattle.build_reading.specs.Reading.{read_all, composed_at}
use Rattle.image_cells.specs.Cells.{halves}
use Rattle.build_checks_laws.specs.Numbers.{member, RefusalIn}
use Rattle.promises.specs.Composed.{RowsRight}
use Rattle.promises.specs.Papers.{made_paper}
use Rattle.promises.specs.Leaves.{Leaves, untouched, zeros, AllCleared, lent_for, composed_numbers}
use Rattle.promises.proofs.Leaves.{composed_leaves}
use Rattle.image_check.specs.Short.{verdict_number}
use Rattle.image.specs.Image.{head_length, head_generators, head_elements, head_number, head_place}
use Rattle.image.specs.Read.{read_image}
use Rattle.image.proofs.Heads.{bad_number}
use Rattle.promises_image.specs.Images.{Bytes, ends_fewer, made_number, WellFormed, ImageRight, image_numbers}
use Rattle.promises_image.proofs.Heads.{formed, formed_head}
use Rattle.promises_image.proofs.Back.{bad_read, short_read, fewer_read, read-is-composed, all_listed}
use Rattle.promises_image.proofs.Zeros.{read_zeros}

-- A bad head is 1 or 16.
record HeadIn (k : ℕ) : Type 0 where
  is : pick (eqb k 0) true (member k (1 ∷ 4 ∷ 16 ∷ [])) ≡ true

either_in : (b : Bool) {x y : ℕ} → HeadIn x → HeadIn y → HeadIn (pick b x y)
either_in true p q = p
either_in false p q = q

head_in : (l : List ℕ) → HeadIn (head_number l)
unfolding head_number
head_in l =
    either_in (ltb (length l) 8) sixteen
    (either_in (eqb (head_length l + 4) (length l))
    (either_in (eqb (get_or l 4 0) 1)
    (either_in (ltb 8 (head_generators l)) (record { is = refl })
    (either_in (eqb (head_elements l) 0) sixteen
    (either_in (eqb (head_length l) (4 + 2 * head_generators l * head_elements l)) (record { is = refl }) sixteen)))
    sixteen)
    sixteen) where
      sixteen : HeadIn 16
      sixteen = record { is = refl }

bad_in : (l : List ℕ) → (head_number l ≡ 0 → ⊥) → member (head_number l) (1 ∷ 4 ∷ 16 ∷ []) ≡ true
bad_in l d = simp (ne_eqb _ _ d) at (head_in l).is

-- A number that is one of these is one of these and another.
more_in : (b : Bool) {x : Bool} → x ≡ true → pick b true x ≡ true
more_in true h = refl
more_in false h = h

-- What stands in a call's outcome.
abbrev table_of : Making → List ℕ
table_of (making m t w) = t

abbrev work_of : Making → List ℕ
work_of (making m t w) = w

module _ (l : List ℕ) (B : Bytes l) (table : List ℕ) (start : ℕ) (work : List ℕ) {r : Refusal} {t w : List ℕ}
    (q : read_image l table start work ≡ making (Err r) t w) where
  abbrev n : ℕ
  n = head_generators l

  abbrev N : ℕ
  N = head_elements l

  abbrev Claim : Type 0
  Claim = Leaves (ImageRight l table start work) (1 ∷ 4 ∷ 16 ∷ []) image_numbers (lent_for table start work n N t w) r

  -- A refusal of the arguments.
  wrong : (why : Refusal) → ¬ (ImageRight l table start work) → member (refusal_paper why).number (1 ∷ 4 ∷ 16 ∷ []) ≡ true
      → read_image l table start work ≡ making (Err why) table work → Claim
  wrong why not_right m e =
      let both = sym e ∙ q in
      let number : (refusal_paper why).number ≡ (refusal_paper r).number = ap (λ (x : Making). (made_paper x).number) both in
      untouched not_right (rw number at m) (sym (ap table_of both), (sym (ap work_of both), tt))

  -- What is left after the start.
  module _ (F : WellFormed l) (lent : lent_right (length table) start (length work) (head_elements l) (head_generators l) ≡ true) where
    cleared : AllCleared (lent_for table start work n N t w)
    cleared =
        let z = read_zeros l B table start work F lent q in
        let end : 0 + work_need n N ≡ work_need n N = omega arith in (
          record { inside = within_length (length table) start N n (lent_table_lem (length table) start (length work) N n lent); zero = z.0 },
          (record { inside = rw end (leb-true _ _ (lent_enough (length table) start (length work) N n lent)); zero = z.1 ∙ rw end }, tt),
        )

    started : RefusalIn image_numbers r → Claim
    started m = zeros (record { formed = F; lent = lent }) m cleared

    as_composed : Leaves (RowsRight table start work (halves (drop 8 l)) n N) (1 ∷ 4 ∷ []) composed_numbers (lent_for table start work n N t w) r → Claim
    as_composed (untouched not_right m s) = absurd (not_right (record { generators = F.few; lent = lent; listed = all_listed l B F }))
    as_composed (zeros ok m c) = started (more_in (eqb (refusal_paper r).number 16) m)

    reached : (b : Bool) → ends_fewer (read_all (composed_at (halves (drop 8 l)) n) n N (replicate (table_need n N) 0)) N ≡ b → Claim
    reached true e =
        let sixteen : (refusal_paper r).number ≡ 16 = sym (ap made_number q) ∙ ap verdict_number (fewer_read l table start work F (all_listed l B F) lent e) in
        started (rw sixteen)
    reached false e =
        as_composed (composed_leaves table start work (halves (drop 8 l)) n N r t w (sym (read-is-composed l table start work F (all_listed l B F) e) ∙ q))

  pub read_leaves : Leaves (ImageRight l table start work) (1 ∷ 4 ∷ 16 ∷ []) image_numbers (lent_for table start work (head_generators l) (head_elements l) t w) r
  read_leaves = head (eqb (head_number l) 0) refl where
    lending : WellFormed l → (b : Bool) → lent_right (length table) start (length work) (head_elements l) (head_generators l) ≡ b → Claim
    lending F true e = reached F e (ends_fewer (read_all (composed_at (halves (drop 8 l)) n) n N (replicate (table_need n N) 0)) N) refl
    lending F false e = wrong (numbered 4 0 0 0) (λ R. false_true (sym e ∙ R.lent)) refl (short_read l table start work F (all_listed l B F) e)

    head : (b : Bool) → eqb (head_number l) 0 ≡ b → Claim
    head false e =
        let d = eqb-false (head_number l) 0 e in
        wrong (numbered (head_number l) (head_place l) 0 0) (λ R. d (formed_head l R.formed)) (rw (bad_number l d) (bad_in l d)) (bad_read l table start work d)
    head true e = lending (formed l (eqb-true (head_number l) 0 e)) (lent_right (length table) start (length work) (head_elements l) (head_generators l)) refl
