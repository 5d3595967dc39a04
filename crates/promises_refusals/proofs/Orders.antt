-- The check of an accepted factor against pair orders, on every list: which answer comes, with its first place. Each test is decided place by place.
use Prim.Native.Nat.{ℕ, ◌/◌, ◌%◌, ◌≤◌, ◌<◌}
use mathlib.Core.Path.{◌≡◌, refl, sym, ap, ◌∙◌, subst}
use mathlib.Core.Logic.{◌↔◌, ◌⊎◌, inl, inr, ⊎_elim}
use mathlib.Core.Bool.{Bool, true, false}
use mathlib.Core.List.{List}
use native.Mathlib.Omega.{arith}
use borrow.Author.Tests.{eq-eqb, ne_eqb, eqb-true, eqb-false, leb-true, leb-false}
use lib.Dec.{eqb, leb}
use lib.ListN.{length, get_or}
use Rattle.egg.specs.declared.Refusal.{Refusal}
use Rattle.egg.specs.declared.Factor.{Factor}
use Rattle.egg.specs.Answers.{Verdict, fine, numbered}
use Rattle.std.specs.Prelude.{Ok, Err}
use Rattle.egg.specs.Table.{pick, step_of}
use Rattle.egg.specs.Scan.{refused_of, scan}
use Rattle.egg.specs.Pairs.{pair_code, pair_count, order_at, orders_right}
use Rattle.egg.specs.Factor.{Paper, verdict_paper}
use Rattle.egg.proofs.Scans.{refused_fine, scan_fine}
use Rattle.factor_relations.specs.Relations.{relation_at, doubled_row, pairs_row, relations}
use Rattle.factor.specs.Relations.{check_answer}
use Rattle.theory.specs.Words.{walk}
use Rattle.theory.specs.Presentation.{pairs_below, pair_place, order_of, alternate}
use Rattle.theory.proofs.Pairs.{pair_at, pair_inside}
use Rattle.build_checks_laws.specs.Sound.{Sound}
use Rattle.factor_laws.specs.Accepted.{Accepted, factor_step}
use Rattle.factor_relations_laws.proofs.Codes.{code_first, code_second, pair_count_lem}
use Rattle.factor_relations_laws.proofs.Relators.{turned_is, doubled_row_lem, relations_identity}
use Rattle.factor_laws.proofs.Handles.{few_generators, admits_fine, check_is, check_answer_lem}
use Rattle.promises_refusals.specs.Firsts.{FirstOf}
use Rattle.promises_refusals.specs.Orders.{OrderRight, OrdersRight, OrdersFault, wrong_length, wrong_order, FirstPair, RelationFault, doubled, paired, CheckPaper, wrong_orders, fails, holds}
use Rattle.promises_refusals.proofs.Firsts.{Decides, first_found, first_refused_lem, first_fine}
use Rattle.promises_refusals.proofs.Tests.{refused_different}
use Rattle.promises_refusals.proofs.Checked.{then_split}

module _ (o : List ℕ) (n : ℕ) where
  order_decided : (k : ℕ) → k < length o → Decides (¬ (OrderRight o k)) (numbered 3 k 0 0) (order_at o k)
  order_decided k hk = by (leb 2 (get_or o k 0)) (leb (get_or o k 0) 32767) refl refl where
    by : (p q : Bool) → leb 2 (get_or o k 0) ≡ p → leb (get_or o k 0) 32767 ≡ q
        → Decides (¬ (OrderRight o k)) (numbered 3 k 0 0) (pick p (pick q fine (refused_of 3 k 0 0)) (refused_of 3 k 0 0))
    by true true a b = inr (λ w. w (leb-true _ _ a, leb-true _ _ b), refl)
    by true false a b = inl (λ r. omega (arith, leb-false (get_or o k 0) 32767 b, r.1), refl)
    by false q a b = inl (λ r. omega (arith, leb-false 2 (get_or o k 0) a, r.0), refl)

  order_fine : (k : ℕ) → order_at o k ≡ fine → OrderRight o k
  order_fine k = by (leb 2 (get_or o k 0)) (leb (get_or o k 0) 32767) refl refl where
    by : (p q : Bool) → leb 2 (get_or o k 0) ≡ p → leb (get_or o k 0) 32767 ≡ q → pick p (pick q fine (refused_of 3 k 0 0)) (refused_of 3 k 0 0) ≡ fine → OrderRight o k
    by true true a b h = (leb-true _ _ a, leb-true _ _ b)
    by true false a b h = absurd (refused_fine h)
    by false q a b h = absurd (refused_fine h)

  -- With and without an order for each pair.
  long_orders : length o ≡ pairs_below n → orders_right o n ≡ scan (length o) (λ k. order_at o k) 0
  unfolding orders_right
  long_orders q = simp (eq-eqb _ _ (q ∙ sym (pair_count_lem n)))

  other_length : ¬ (length o ≡ pairs_below n) → orders_right o n ≡ refused_of 2 0 0 0
  unfolding orders_right
  other_length d = simp (ne_eqb (length o) (pair_count n) (λ q. d (q ∙ pair_count_lem n)))

  -- The orders are right, or have a fault.
  pub orders_either : ((orders_right o n ≡ fine) × OrdersRight o n) ⊎ ((r : Refusal) × (orders_right o n ≡ Err r) × OrdersFault o n r)
  orders_either = by (eqb (length o) (pairs_below n)) refl where
    listed : length o ≡ pairs_below n → (v : Verdict) → scan (length o) (λ k. order_at o k) 0 ≡ v
        → ((orders_right o n ≡ fine) × OrdersRight o n) ⊎ ((r : Refusal) × (orders_right o n ≡ Err r) × OrdersFault o n r)
    listed q (Ok _) h = inl (long_orders q ∙ h, record { long = q; within = λ {k} hk. order_fine k ((scan_fine (length o) (λ k. order_at o k)).0 h k hk) })
    listed q (Err r) h =
        let p = first_found order_decided h in
        inr (r, long_orders q ∙ h, rw p.2 (wrong_order q p.1))

    by : (b : Bool) → eqb (length o) (pairs_below n) ≡ b
        → ((orders_right o n ≡ fine) × OrdersRight o n) ⊎ ((r : Refusal) × (orders_right o n ≡ Err r) × OrdersFault o n r)
    by true e = listed (eqb-true _ _ e) (scan (length o) (λ k. order_at o k) 0) refl
    by false e = let d = eqb-false (length o) (pairs_below n) e in inr (numbered 2 0 0 0, other_length d, wrong_length d)

  -- And a fault is what is refused; right orders are fine.
  pub fault_orders : {r : Refusal} → OrdersFault o n r → orders_right o n ≡ Err r
  fault_orders (wrong_length d) = other_length d
  fault_orders (wrong_order q F) = long_orders q ∙ first_refused_lem order_decided F

  pub right_orders : OrdersRight o n → orders_right o n ≡ fine
  right_orders R = long_orders R.long ∙ first_fine order_decided (λ k hk d. d (R.within hk))

stable : {a b : ℕ} → ¬ (¬ (a ≡ b)) → a ≡ b
stable {a} {b} h = by (eqb a b) refl where
  by : (t : Bool) → eqb a b ≡ t → a ≡ b
  by true e = eqb-true a b e
  by false e = absurd (h (eqb-false a b e))

-- The relations at the identity of a sound table.
module _ {s : List ℕ} {n N : ℕ} (S : Sound s n N) (few : n ≤ 8) (o : List ℕ) (long : length o ≡ pairs_below n) where
  abbrev step : ℕ → ℕ → ℕ
  step = step_of s n

  decided : (k : ℕ) {a b : ℕ} → a < n → b < n
      → Decides (¬ (walk step 0 (alternate a b k) ≡ 0)) (numbered 13 0 a b) (relation_at s n N 0 a b k)
  decided k {a} {b} ha hb = rw (turned_is S k S.table.origin ha hb) (refused_different (walk step 0 (alternate a b k)) 0)

  -- The pair at a place of the list.
  abbrev Broken : ℕ → Type 0
  Broken k = ¬ (walk step 0 (alternate (pair_code k / 8) (pair_code k % 8) (get_or o k 0)) ≡ 0)

  pair_decided : (k : ℕ) → k < length o
      → Decides (Broken k) (numbered 13 0 (pair_code k / 8) (pair_code k % 8)) (relation_at s n N 0 (pair_code k / 8) (pair_code k % 8) (get_or o k 0))
  pair_decided k hk =
      let (i, j, hi, hj, q) = pair_at n k (rw long at hk) in
      let first : pair_code k / 8 < n = rw (← q, code_first hi (omega arith)) (omega arith) in
      let second : pair_code k % 8 < n = rw (← q, code_second hi (omega arith)) hj in
      decided (get_or o k 0) first second

  at_pair : {i j : ℕ} → i < j → j < n → Broken (pair_place i j) → ¬ (walk step 0 (alternate i j (order_of o i j)) ≡ 0)
  at_pair {i} {j} hi hj h = let small : j < 8 = omega arith in rw (code_first hi small, code_second hi small) at h

  pair_at_place : {i j : ℕ} → i < j → j < n → ¬ (walk step 0 (alternate i j (order_of o i j)) ≡ 0) → Broken (pair_place i j)
  pair_at_place {i} {j} hi hj h = let small : j < 8 = omega arith in rw (code_first hi small, code_second hi small) h

  place_numbers : {i j k : ℕ} → i < j → j < n → pair_place i j ≡ k → numbered 13 0 (pair_code k / 8) (pair_code k % 8) ≡ numbered 13 0 i j
  place_numbers {i} {j} hi hj q = let small : j < 8 = omega arith in rw (← q, code_first hi small, code_second hi small)

  -- The first place that fails is the first pair's.
  first_pair : {k : ℕ} → FirstOf (length o) Broken k → (i : ℕ) × (j : ℕ) × FirstPair n step o i j × (pair_place i j ≡ k)
  first_pair {k} F =
      let (i, j, hi, hj, q) = pair_at n k (rw long at F.inside) in (
        i,
        j,
        record {
          ordered = hi;
          inside = hj;
          broken = at_pair hi hj (rw q F.here);
          before = λ {a} {b} ha hb l. stable (λ d. F.before (rw q at l) (pair_at_place ha hb d));
        },
        q,
      )

  pair_first : {i j : ℕ} → FirstPair n step o i j → FirstOf (length o) Broken (pair_place i j)
  pair_first {i} {j} F = record {
    inside = rw long (pair_inside F.ordered F.inside);
    here = pair_at_place F.ordered F.inside F.broken;
    before = λ {j = k} l. go l (pair_at n k (omega (arith, pair_inside F.ordered F.inside)));
  } where
    go : {k : ℕ} → k < pair_place i j → (a : ℕ) × (b : ℕ) × (a < b) × (b < n) × (pair_place a b ≡ k) → Broken k → ⊥
    go l (a, b, ha, hb, q) d = at_pair ha hb (rw q d) (F.before ha hb (rw q l))

  pub relations_found : {r : Refusal} → relations s n N o ≡ Err r → RelationFault n step o r
  unfolding doubled_row pairs_row
  relations_found {r} h = ⊎_elim
      (λ q. let p = first_found (λ g hg. decided 1 hg hg) q in rw p.2 (doubled p.1))
      (λ a.
      let p = first_found pair_decided a.1 in
      let (i, j, F, q) = first_pair p.1 in
      let e : r ≡ numbered 13 0 i j = p.2 ∙ place_numbers F.ordered F.inside q in
      rw e (paired ((doubled_row_lem S S.table.origin).0 a.0) F))
      (then_split (doubled_row s n N 0) (pairs_row s n N o 0) (sym (relations_identity S few o long) ∙ h))

  pub relations_refused : {r : Refusal} → RelationFault n step o r → relations s n N o ≡ Err r
  unfolding doubled_row pairs_row
  relations_refused (doubled F) = relations_identity S few o long ∙ rw (first_refused_lem (λ g hg. decided 1 hg hg) F)
  relations_refused (paired {i} {j} all F) =
      let p = first_refused_lem pair_decided (pair_first F) ∙ ap (λ (x : Refusal). Err x) (place_numbers F.ordered F.inside refl) in
      relations_identity S few o long ∙ rw ((doubled_row_lem S S.table.origin).1 all) p

-- What the check of an accepted factor answers.
module _ {t : List ℕ} {f : Factor} (A : Accepted t f) (o : List ℕ) where
  check_wrong : {r : Refusal} → orders_right o f.generators ≡ Err r → check_answer t f o ≡ Err r
  unfolding check_answer
  check_wrong q = rw (admits_fine (length t) f A.fits A.sound.table.origin A.sound.table.origin, q)

  some_relations : OrdersRight o f.generators → (right : orders_right o f.generators ≡ fine) → (v : Verdict) → check_answer t f o ≡ v
      → CheckPaper f.generators f.elements (factor_step t f) o (verdict_paper v)
  some_relations R right (Ok _) h = holds R ((check_answer_lem A o right).0 h)
  some_relations R right (Err r) h = fails R (relations_found A.sound (few_generators A) o R.long (sym (check_is A o right) ∙ h))

  pub check_some : CheckPaper f.generators f.elements (factor_step t f) o (verdict_paper (check_answer t f o))
  check_some = ⊎_elim
      (λ a. some_relations a.1 a.0 (check_answer t f o) refl)
      (λ b. rw (check_wrong b.1) (wrong_orders b.2))
      (orders_either o f.generators)

  pub check_given : {p : Paper} → CheckPaper f.generators f.elements (factor_step t f) o p → verdict_paper (check_answer t f o) ≡ p
  check_given (wrong_orders F) = ap verdict_paper (check_wrong (fault_orders o f.generators F))
  check_given (fails R F) =
      ap verdict_paper (check_is A o (right_orders o f.generators R) ∙ relations_refused A.sound (few_generators A) o R.long F)
  check_given (holds R H) = ap verdict_paper ((check_answer_lem A o (right_orders o f.generators R)).1 H)

  -- 2, 3 and 13 exactly where document 01 says, with their first places; and no other number.
  pub check_paper : (p : Paper) → verdict_paper (check_answer t f o) ≡ p ↔ CheckPaper f.generators f.elements (factor_step t f) o p
  check_paper p = (λ q. subst (CheckPaper f.generators f.elements (factor_step t f) o) q check_some, check_given)
