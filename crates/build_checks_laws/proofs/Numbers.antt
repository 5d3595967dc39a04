-- By which numbers the checks and the orders are refused.
use Prim.Native.Nat.{ℕ, zero, suc, ◌+◌}
use mathlib.Core.Path.{◌≡◌, refl, ap}
use mathlib.Core.Bool.{Bool, true, false}
use mathlib.Core.List.{List, [], ◌∷◌}
use borrow.Author.Tests.{eqb-true}
use lib.Dec.{eqb}
use Rattle.egg.specs.declared.Refusal.{Refusal}
use Rattle.egg.specs.Answers.{Verdict, fine}
use Rattle.egg.specs.Refusals.{refusal_paper}
use Rattle.std.specs.Prelude.{Err}
use Rattle.egg.specs.Table.{pick}
use Rattle.egg.specs.Scan.{refused_of}
use Rattle.egg.specs.Pairs.{orders_right}
use Rattle.egg.proofs.Rooms.{false_true}
use Rattle.egg.proofs.Scans.{Says, says_fine, says_refused, says_pick, says_then, says_scan}
use Rattle.build_checks.specs.Checks.{missing, missing_row, check8, ranges, wrong, wrong_row, check_table, counted, counts_right, checked, check_rest, check_group}
use Rattle.build_checks_inverses.specs.Inverses.{fill_inverses, inverses_right}
use Rattle.build_checks_group.specs.Lefts.{identity_row, columns_row, spelled_row, spelled, check_steps, fill_left, goes_row, all_go, lefts}
use Rattle.build_checks_laws.specs.Numbers.{member, every, RefusalIn, late_numbers}
use Rattle.build_checks_laws.proofs.Refused.{left_verdict, verdict_of, left_says, checked_says, table_says}

-- What holds of each of these numbers holds of any one of them.
pub each_in : (p : ℕ → Bool) (k : ℕ) (l : List ℕ) → every p l ≡ true → member k l ≡ true → p k ≡ true
each_in p k [] a h = absurd (false_true h)
each_in p k (x ∷ l) a h = by (p x) refl a (eqb k x) refl h (each_in p k l) where
  by : (c : Bool) → p x ≡ c → pick c (every p l) false ≡ true → (b : Bool) → eqb k x ≡ b → pick b true (member k l) ≡ true
      → (every p l ≡ true → member k l ≡ true → p k ≡ true) → p k ≡ true
  by false q a b e h ih = absurd (false_true a)
  by true q a true e h ih = rw (eqb-true k x e) q
  by true q a false e h ih = ih a h

-- A number that is one of these is none of those, where no number of the first list is in the second.
pub none_of : (k : ℕ) (l m : List ℕ) → every (λ x. pick (member x m) false true) l ≡ true → member k l ≡ true → member k m ≡ true → ⊥
none_of k l m a h q = false_true (rw q at (each_in (λ x. pick (member x m) false true) k l a h))

pub says_widen : (l m : List ℕ) → every (λ x. member x m) l ≡ true → (v : Verdict) → Says (RefusalIn l) v → Says (RefusalIn m) v
says_widen l m a v p = record { of = λ r h. each_in (λ x. member x m) (refusal_paper r).number l a (p.of r h) }

refuses : (r : Refusal) → member (refusal_paper r).number late_numbers ≡ true → Says (RefusalIn late_numbers) (Err r)
refuses r h = says_refused h

refuses_8 : (a b c : ℕ) → Says (RefusalIn (8 ∷ [])) (refused_of 8 a b c)
refuses_8 a b c = says_refused refl

ruleset numbers = (says_then, says_scan, says_pick, says_fine, refuses)

ruleset eight = (says_then, says_scan, says_pick, says_fine, refuses_8)

module _ (t : List ℕ) (n N : ℕ) where
  missing_number : Says (RefusalIn (8 ∷ [])) (check8 t n N)
  unfolding check8 missing missing_row
  missing_number = search eight depth 12

  wrong_numbers : Says (RefusalIn late_numbers) (wrong t n N)
  unfolding wrong wrong_row
  wrong_numbers = search numbers depth 12

  counts_numbers : (w : List ℕ) → Says (RefusalIn late_numbers) (counts_right w n N)
  unfolding counts_right
  counts_numbers w = search numbers

  inverses_numbers : Says (RefusalIn late_numbers) (inverses_right t n N)
  unfolding inverses_right
  inverses_numbers = search numbers

  steps_numbers : Says (RefusalIn late_numbers) (check_steps t n N)
  unfolding check_steps identity_row spelled columns_row spelled_row
  steps_numbers = search numbers depth 12

  all_go_numbers : (w : List ℕ) → Says (RefusalIn late_numbers) (all_go t w n N)
  unfolding all_go goes_row
  all_go_numbers w = search numbers

  -- Where all numbers are in range, the checks of the table alone give 8 or 9; with nothing missing, 9.
  pub ranged_numbers : ranges t n N ≡ fine → Says (RefusalIn (8 ∷ late_numbers)) (check_table t n N)
  unfolding check_table
  ranged_numbers q =
      rw q (says_then (check8 t n N) (wrong t n N) (says_widen (8 ∷ []) (8 ∷ late_numbers) refl (check8 t n N) missing_number)
      (says_widen late_numbers (8 ∷ late_numbers) refl (wrong t n N) wrong_numbers))

  pub full_numbers : check8 t n N ≡ fine → ranges t n N ≡ fine → Says (RefusalIn late_numbers) (check_table t n N)
  unfolding check_table
  full_numbers p q = rw (p, q) wrong_numbers

lefts_numbers : (k : ℕ) (t : List ℕ) (n N : ℕ) (w : List ℕ) (s : ℕ) → Says (RefusalIn late_numbers) (left_verdict (lefts k t n N w s))
unfolding lefts
lefts_numbers zero t n N w s = says_fine
lefts_numbers (suc k) t n N w s =
    let v = fill_left N t n s w 0 in
    left_says (all_go t v n N) v (lefts k t n N v (s + 1)) (all_go_numbers t n N v) (lefts_numbers k t n N v (s + 1))

module _ (l : List ℕ) (late : every (λ x. member x l) late_numbers ≡ true) (t w : List ℕ) (n N : ℕ) (first : Says (RefusalIn l) (check_table t n N)) where
  group_numbers : Says (RefusalIn l) (verdict_of (check_group t w n N))
  unfolding check_group check_rest
  group_numbers =
      let f = fill_inverses N t n 0 in
      let c = counted t w n N in
      checked_says (check_table t n N) t w _ first
      (checked_says (counts_right c n N) t c _ (says_widen late_numbers l late (counts_right c n N) (counts_numbers t n N c))
      (checked_says (inverses_right f n N) f c _ (says_widen late_numbers l late (inverses_right f n N) (inverses_numbers f n N))
      (checked_says (check_steps f n N) f c _ (says_widen late_numbers l late (check_steps f n N) (steps_numbers f n N))
      (table_says f (lefts n f n N c 0) (says_widen late_numbers l late (left_verdict (lefts n f n N c 0)) (lefts_numbers n f n N c 0))))))

  -- What the checks of the table alone may give, or 9 to 12.
  pub checks_number : {r : Refusal} {t₁ w₁ : List ℕ} → check_group t w n N ≡ checked (Err r) t₁ w₁ → member (refusal_paper r).number l ≡ true
  checks_number {r} h = group_numbers.of r (ap verdict_of h)

-- 2 or 3, where the orders are not right.
refuses_orders : (r : Refusal) → member (refusal_paper r).number (2 ∷ 3 ∷ []) ≡ true → Says (RefusalIn (2 ∷ 3 ∷ [])) (Err r)
refuses_orders r h = says_refused h

ruleset orders = (says_then, says_scan, says_pick, says_fine, refuses_orders)

pub orders_number : (o : List ℕ) (n : ℕ) {r : Refusal} → orders_right o n ≡ Err r → member (refusal_paper r).number (2 ∷ 3 ∷ []) ≡ true
unfolding orders_right
orders_number o n {r} h = says.of r h where
  says : Says (RefusalIn (2 ∷ 3 ∷ [])) (orders_right o n)
  says = search orders depth 12
