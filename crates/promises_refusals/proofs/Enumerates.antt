-- 1 to 4 of an enumeration, on every input: each with its places exactly when. Whatever comes once the run has started has another number.
use Prim.Native.Nat.{ℕ, ◌≤◌, ◌<◌}
use mathlib.Core.Path.{◌≡◌, refl, sym, ◌∙◌}
use mathlib.Core.Logic.{◌↔◌, ◌⊎◌, inl, inr, ⊎_elim}
use mathlib.Core.Bool.{Bool, true, false}
use mathlib.Core.List.{List}
use native.Mathlib.Decide.{dec_lt}
use native.Mathlib.Omega.{arith}
use borrow.Author.Tests.{lt-ltb, le-ltb, leb-true}
use lib.Dec.{leb}
use lib.ListN.{length}
use Rattle.egg.specs.declared.Refusal.{Refusal}
use Rattle.egg.specs.Answers.{fine}
use Rattle.std.specs.Prelude.{Ok, Err}
use Rattle.egg.specs.Pairs.{orders_right}
use Rattle.egg.specs.Factor.{Paper, refusal_paper}
use Rattle.egg.proofs.Rooms.{false_true}
use Rattle.build_lending.specs.Lending.{lent_right, Making, making}
use Rattle.theory.specs.Presentation.{pairs_below}
use Rattle.enumeration.specs.Calls.{enumerates}
use Rattle.build_checks_laws.proofs.Numbers.{each_in}
use Rattle.promises.specs.Enumerated as calls
use Rattle.promises.specs.Leaves.{Lent, Leaves, untouched, zeros, enumeration_numbers}
use Rattle.promises.proofs.Leaves.{tested_leaves}
use Rattle.promises_refusals.specs.Firsts.{FirstOf}
use Rattle.promises_refusals.specs.Papers.{paper_of, paper, EnoughLent}
use Rattle.promises_refusals.specs.Orders.{OrderRight, OrdersRight, wrong_length, wrong_order, EnumeratePaper, many, unordered, short}
use Rattle.promises_refusals.proofs.Lent.{enough_right, right_enough}
use Rattle.promises_refusals.proofs.Orders.{orders_either, fault_orders, right_orders}

module _ (table : List ℕ) (start : ℕ) (work o : List ℕ) (n room : ℕ) where
  -- The answers of the arguments' tests.
  is_many : 8 < n → paper_of (enumerates table start work o n room) ≡ paper 1 n 0 0
  unfolding enumerates
  is_many h = simp (lt-ltb _ _ h)

  is_unordered : n ≤ 8 → {r : Refusal} → orders_right o n ≡ Err r → paper_of (enumerates table start work o n room) ≡ refusal_paper r
  unfolding enumerates
  is_unordered few q = rw (le-ltb 8 n few, q)

  is_short : n ≤ 8 → orders_right o n ≡ fine → lent_right (length table) start (length work) room n ≡ false
      → paper_of (enumerates table start work o n room) ≡ paper 4 0 0 0
  unfolding enumerates
  is_short few q l = rw (le-ltb 8 n few, q, l)

  -- Once it has started it is accepted, or refused by 5 or more.
  Late : Paper → Type 0
  Late p = (p.number ≡ 0) ⊎ (5 ≤ p.number)

  late_number : {buffers : List Lent} {before : List ℕ} {r : Refusal} → calls.EnumerationRight table start work o n room
      → Leaves (calls.EnumerationRight table start work o n room) before enumeration_numbers buffers r → 5 ≤ (refusal_paper r).number
  late_number R (untouched wrong m s) = absurd (wrong R)
  late_number {r = r} R (zeros ok m z) = leb-true _ _ (each_in (λ x. leb 5 x) (refusal_paper r).number enumeration_numbers refl m)

  is_late : calls.EnumerationRight table start work o n room → (p : Making) → enumerates table start work o n room ≡ p → Late (paper_of p)
  unfolding Late
  is_late R (making (Ok f) t w) q = inl refl
  is_late R (making (Err r) t w) q = inr (late_number R (tested_leaves table start work o n room r t w q))

  -- The tests answer, or the run starts.
  told : EnumeratePaper table start work o n room (paper_of (enumerates table start work o n room)) ⊎ Late (paper_of (enumerates table start work o n room))
  told = by (dec_lt 8 n) where
    lent : n ≤ 8 → orders_right o n ≡ fine → OrdersRight o n → (b : Bool) → lent_right (length table) start (length work) room n ≡ b
        → EnumeratePaper table start work o n room (paper_of (enumerates table start work o n room)) ⊎ Late (paper_of (enumerates table start work o n room))
    lent few q R true l = inr (is_late (record { generators = few; right = q; lent = l }) (enumerates table start work o n room) refl)
    lent few q R false l = inl (rw (is_short few q l) (short few R (λ E. false_true (sym l ∙ enough_right table start work n room few E))))

    by : Dec (8 < n) → EnumeratePaper table start work o n room (paper_of (enumerates table start work o n room)) ⊎ Late (paper_of (enumerates table start work o n room))
    by (yes h) = inl (rw (is_many h) (many h))
    by (no h) =
        let few : n ≤ 8 = omega arith in
        ⊎_elim (λ a. lent few a.0 a.1 (lent_right (length table) start (length work) room n) refl)
        (λ b. inl (rw (is_unordered few b.1) (unordered few b.2))) (orders_either o n)

  given : {p : Paper} → EnumeratePaper table start work o n room p → paper_of (enumerates table start work o n room) ≡ p
  given (many h) = is_many h
  given (unordered few F) = is_unordered few (fault_orders o n F)
  given (short few R lacks) = by (lent_right (length table) start (length work) room n) refl where
    by : (b : Bool) → lent_right (length table) start (length work) room n ≡ b → paper_of (enumerates table start work o n room) ≡ paper 4 0 0 0
    by true l = absurd (lacks (right_enough table start work n room l))
    by false l = is_short few (right_orders o n R) l

  -- Each answer with a number from 1 to 4, exactly when.
  pub enumeration_before : (p : Paper) → 1 ≤ p.number → p.number ≤ 4
      → paper_of (enumerates table start work o n room) ≡ p ↔ EnumeratePaper table start work o n room p
  unfolding Late
  enumeration_before p lo hi = (λ q. ⊎_elim (λ a. rw q at a) (λ l. absurd (⊎_elim (λ z. omega (arith, rw q at z)) (λ z. omega (arith, rw q at z)) l)) told, given)

  -- 1, "more than 8 generators", with the count.
  pub enumeration_1 : (a b c : ℕ) → paper_of (enumerates table start work o n room) ≡ paper 1 a b c ↔ ((8 < n) × ((a ≡ n) × ((b ≡ 0) × (c ≡ 0))))
  enumeration_1 a b c = (
    λ q. by ((enumeration_before (paper 1 a b c) (omega arith) (omega arith)).0 q) refl,
    λ h. rw (h.1.0, h.1.1.0, h.1.1.1) (given (many h.0)),
  ) where
    by : {p : Paper} → EnumeratePaper table start work o n room p → p.number ≡ 1 → (8 < n) × ((p.a ≡ n) × ((p.b ≡ 0) × (p.c ≡ 0)))
    by (many h) q = (h, (refl, (refl, refl)))
    by (unordered few (wrong_length d)) q = absurd (omega arith)
    by (unordered few (wrong_order l F)) q = absurd (omega arith)
    by (short few R lacks) q = absurd (omega arith)

  -- 2, "order list not n(n-1)/2 long".
  pub enumeration_2 : (a b c : ℕ) → paper_of (enumerates table start work o n room) ≡ paper 2 a b c
      ↔ ((n ≤ 8) × (¬ (length o ≡ pairs_below n) × ((a ≡ 0) × ((b ≡ 0) × (c ≡ 0)))))
  enumeration_2 a b c = (
    λ q. by ((enumeration_before (paper 2 a b c) (omega arith) (omega arith)).0 q) refl,
    λ h. rw (h.1.1.0, h.1.1.1.0, h.1.1.1.1) (given (unordered h.0 (wrong_length h.1.0))),
  ) where
    by : {p : Paper} → EnumeratePaper table start work o n room p → p.number ≡ 2
        → (n ≤ 8) × (¬ (length o ≡ pairs_below n) × ((p.a ≡ 0) × ((p.b ≡ 0) × (p.c ≡ 0))))
    by (many h) q = absurd (omega arith)
    by (unordered few (wrong_length d)) q = (few, (d, (refl, (refl, refl))))
    by (unordered few (wrong_order l F)) q = absurd (omega arith)
    by (short few R lacks) q = absurd (omega arith)

  -- 3, "an order outside 2..32,767", with the index of the first.
  pub enumeration_3 : (k b c : ℕ) → paper_of (enumerates table start work o n room) ≡ paper 3 k b c
      ↔ ((n ≤ 8) × ((length o ≡ pairs_below n) × (FirstOf (length o) (λ i. ¬ (OrderRight o i)) k × ((b ≡ 0) × (c ≡ 0)))))
  enumeration_3 k b c = (
    λ q. by ((enumeration_before (paper 3 k b c) (omega arith) (omega arith)).0 q) refl,
    λ h. rw (h.1.1.1.0, h.1.1.1.1) (given (unordered h.0 (wrong_order h.1.0 h.1.1.0))),
  ) where
    by : {p : Paper} → EnumeratePaper table start work o n room p → p.number ≡ 3
        → (n ≤ 8) × ((length o ≡ pairs_below n) × (FirstOf (length o) (λ i. ¬ (OrderRight o i)) p.a × ((p.b ≡ 0) × (p.c ≡ 0))))
    by (many h) q = absurd (omega arith)
    by (unordered few (wrong_length d)) q = absurd (omega arith)
    by (unordered few (wrong_order l F)) q = (few, (l, (F, (refl, refl))))
    by (short few R lacks) q = absurd (omega arith)

  -- 4, "room 0 or above 65,535, or a lent buffer short".
  pub enumeration_4 : (a b c : ℕ) → paper_of (enumerates table start work o n room) ≡ paper 4 a b c
      ↔ ((n ≤ 8) × (OrdersRight o n × (¬ (EnoughLent table start work n room) × ((a ≡ 0) × ((b ≡ 0) × (c ≡ 0))))))
  enumeration_4 a b c = (
    λ q. by ((enumeration_before (paper 4 a b c) (omega arith) (omega arith)).0 q) refl,
    λ h. rw (h.1.1.1.0, h.1.1.1.1.0, h.1.1.1.1.1) (given (short h.0 h.1.0 h.1.1.0)),
  ) where
    by : {p : Paper} → EnumeratePaper table start work o n room p → p.number ≡ 4
        → (n ≤ 8) × (OrdersRight o n × (¬ (EnoughLent table start work n room) × ((p.a ≡ 0) × ((p.b ≡ 0) × (p.c ≡ 0)))))
    by (many h) q = absurd (omega arith)
    by (unordered few (wrong_length d)) q = absurd (omega arith)
    by (unordered few (wrong_order l F)) q = absurd (omega arith)
    by (short few R lacks) q = (few, (R, (lacks, (refl, (refl, refl)))))
