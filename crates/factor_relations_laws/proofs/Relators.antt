-- Refusal 13 on an accepted table: the test is exact, and what holds at the identity holds at every element.
use Prim.Native.Nat.{ℕ, zero, suc, ◌/◌, ◌-◌, ◌%◌, ◌≤◌, ◌<◌}
use mathlib.Core.Path.{◌≡◌, refl, sym, ◌∙◌}
use mathlib.Core.Logic.{◌↔◌, ⊎_elim}
use mathlib.Core.Bool.{Bool, true, false}
use mathlib.Core.List.{List}
use native.Mathlib.Omega.{arith}
use borrow.Author.Tests.{eqb-false}
use lib.ListN.{length, get_or}
use lib.Dec.{eqb}
use Rattle.egg.specs.declared.Refusal.{Refusal}
use Rattle.egg.specs.Answers.{Verdict, fine}
use Rattle.egg.specs.Refusals.{numbered}
use Rattle.std.specs.Prelude.{Ok, Err}
use Rattle.egg.specs.Table.{pick, step_of}
use Rattle.egg.specs.Pairs.{pair_code, pair_count, orders_right, order_at}
use Rattle.egg.specs.Scan.{scan}
use Rattle.egg.proofs.Scans.{refused_fine, and_then_fine, and_then_refused, scan_here, scan_fine, scan_refused}
use Rattle.factor_relations.specs.Relations.{turned, relation_at, doubled_row, pairs_row, relations_row, relations}
use Rattle.theory.specs.Words.{walk}
use Rattle.theory.specs.Presentation.{pairs_below, pair_place, order_of, alternate, Relator, double, pair, Holds}
use Rattle.theory.proofs.Pairs.{pair_at, pair_inside}
use Rattle.theory.proofs.Relations.{relator_word}
use Rattle.theory.proofs.Sound.{compose_walk}
use Rattle.build_checks_laws.specs.Sound.{Sound}
use Rattle.build_checks_laws.proofs.Accepted.{sound_group, read_step_lem}
use Rattle.build_checks_laws.proofs.Passes.{eq_passes, eq_then}
use Rattle.factor_relations_laws.specs.Fails.{Fails}
use Rattle.factor_relations_laws.proofs.Codes.{code_first, code_second, pair_count_lem}

-- An order list that is right has an order for each pair.
pub orders_long : (o : List ℕ) (n : ℕ) → orders_right o n ≡ fine → length o ≡ pairs_below n
unfolding orders_right
orders_long o n h = ((eq_then (length o) (pair_count n) _ (scan (length o) (λ k. order_at o k) 0)).0 h).0 ∙ pair_count_lem n

-- Where the refusal of a test of equality comes from.
pub eq_refused : (a b : ℕ) {q r : Refusal} → pick (eqb a b) fine (Err q) ≡ Err r → (r ≡ q) × (a ≡ b → ⊥)
eq_refused a b {q} {r} = by (eqb a b) refl where
  by : (v : Bool) → eqb a b ≡ v → pick v fine (Err q) ≡ Err r → (r ≡ q) × (a ≡ b → ⊥)
  by true e h = absurd (refused_fine (sym h))
  by false e h = (cc, eqb-false a b e)

module _ {s : List ℕ} {n N : ℕ} (S : Sound s n N) where
  pub turned_is : (k : ℕ) {e a b : ℕ} → e < N → a < n → b < n → turned k s n N e a b ≡ Ok (record { 0 = walk (step_of s n) e (alternate a b k) })
  unfolding turned
  turned_is zero he ha hb = refl
  turned_is (suc k) {e} {a} {b} he ha hb =
      let x = S.table.closed he ha in
      simp (read_step_lem S he ha, read_step_lem S x hb) (turned_is k (S.table.closed x hb) ha hb)

  pub relation_at_lem : (k : ℕ) {e a b : ℕ} → e < N → a < n → b < n
      → relation_at s n N e a b k ≡ fine ↔ (walk (step_of s n) e (alternate a b k) ≡ e)
  relation_at_lem k he ha hb = rw (turned_is k he ha hb) (eq_passes _ _ _)

  relation_refused : (k : ℕ) {e a b : ℕ} {r : Refusal} → e < N → a < n → b < n → relation_at s n N e a b k ≡ Err r
      → (r ≡ numbered 13 e a b) × (walk (step_of s n) e (alternate a b k) ≡ e → ⊥)
  relation_refused k he ha hb h = eq_refused _ _ (rw (turned_is k he ha hb) at h)

  pub doubled_row_lem : {e : ℕ} → e < N → doubled_row s n N e ≡ fine ↔ ((g : ℕ) → g < n → step_of s n (step_of s n e g) g ≡ e)
  unfolding doubled_row
  doubled_row_lem {e} he = (
    λ h g hg. (relation_at_lem 1 he hg hg).0 ((scan_fine n (λ g. relation_at s n N e g g 1)).0 h g hg),
    λ h. (scan_fine n (λ g. relation_at s n N e g g 1)).1 (λ g hg. (relation_at_lem 1 he hg hg).1 (h g hg)),
  )

  module _ (few : n ≤ 8) (o : List ℕ) (long : length o ≡ pairs_below n) where
    abbrev at : ℕ → ℕ → Verdict
    at e k = relation_at s n N e (pair_code k / 8) (pair_code k % 8) (get_or o k 0)

    at_pair : {e i j : ℕ} → e < N → i < j → j < n
        → at e (pair_place i j) ≡ fine ↔ (walk (step_of s n) e (alternate i j (order_of o i j)) ≡ e)
    at_pair {e} {i} {j} he hi hj =
        let small : j < 8 = omega arith in
        rw (code_first hi small, code_second hi small) (relation_at_lem (order_of o i j) he (omega arith) hj)

    pub pairs_row_lem : {e : ℕ} → e < N
        → pairs_row s n N o e ≡ fine ↔ ((i j : ℕ) → i < j → j < n → walk (step_of s n) e (alternate i j (order_of o i j)) ≡ e)
    unfolding pairs_row
    pairs_row_lem {e} he = (
      λ h i j hi hj. (at_pair he hi hj).0 ((scan_fine (length o) (at e)).0 h (pair_place i j) (rw long (pair_inside hi hj))),
      λ h. (scan_fine (length o) (at e)).1 (λ k hk.
          let (i, j, hi, hj, q) = pair_at n k (rw long at hk) in
          rw q at ((at_pair he hi hj).1 (h i j hi hj))),
    )

    pub relations_row_lem : {e : ℕ} → e < N
        → relations_row s n N o e ≡ fine ↔ ((r : List ℕ) → Relator n (order_of o) r → walk (step_of s n) e r ≡ e)
    relations_row_lem {e} he = (
      λ h. let both = (and_then_fine (doubled_row s n N e) (pairs_row s n N o e)).0 h in by_kind ((doubled_row_lem he).0 both.0) ((pairs_row_lem he).0 both.1),
      λ h. (and_then_fine (doubled_row s n N e) (pairs_row s n N o e)).1 (
        (doubled_row_lem he).1 (λ g hg. h _ (double hg)),
        (pairs_row_lem he).1 (λ i j hi hj. h _ (pair hi hj)),
      ),
    ) where
      by_kind : ((g : ℕ) → g < n → step_of s n (step_of s n e g) g ≡ e)
          → ((i j : ℕ) → i < j → j < n → walk (step_of s n) e (alternate i j (order_of o i j)) ≡ e)
          → (r : List ℕ) → Relator n (order_of o) r → walk (step_of s n) e r ≡ e
      by_kind d p r (double hg) = d _ hg
      by_kind d p r (pair hi hj) = p _ _ hi hj

    -- The test passes just if every relator leads from each element back to it.
    pub relations_exact : relations s n N o ≡ fine ↔ Holds n N (order_of o) (step_of s n)
    unfolding relations
    relations_exact = (
      λ h. record { holds = λ {e} {r} he. (relations_row_lem he).0 ((scan_fine N (λ e. relations_row s n N o e)).0 h e he) r },
      λ H. (scan_fine N (λ e. relations_row s n N o e)).1 (λ e he. (relations_row_lem he).1 (λ r. H.holds he)),
    )

    -- To walk a relator from e is to compose e with where it leads from the identity.
    pub relations_first : relations_row s n N o 0 ≡ fine → relations s n N o ≡ fine
    relations_first h = relations_exact.1 (record {
      holds = λ {e} {r} he R.
          let first = (relations_row_lem S.table.origin).0 h r R in
          sym (compose_walk S.table S.spelled S.check he (relator_word R)) ∙ rw first ((sound_group S).right_identity he);
    })

    -- So the whole test says what the identity's row says.
    pub relations_identity : relations s n N o ≡ relations_row s n N o 0
    unfolding relations
    relations_identity = go (relations_row s n N o 0) refl where
      go : (v : Verdict) → relations_row s n N o 0 ≡ v → scan N (λ e. relations_row s n N o e) 0 ≡ v
      go (Ok _) q = relations_first q
      go (Err r) q =
          let all : N - 0 ≡ N = omega arith in
          rw all at (scan_here N (λ e. relations_row s n N o e) 0 S.table.origin q)

    -- A refusal is 13, and the relator of its places does not hold.
    fails_row : {e : ℕ} {r : Refusal} → e < N → relations_row s n N o e ≡ Err r → Fails n (order_of o) (step_of s n) e r
    unfolding doubled_row pairs_row
    fails_row {e} {r} he h = ⊎_elim doubled paired (and_then_refused (doubled_row s n N e) (pairs_row s n N o e) h) where
      doubled : doubled_row s n N e ≡ Err r → Fails n (order_of o) (step_of s n) e r
      doubled q =
          let (g, hg, p) = scan_refused n (λ g. relation_at s n N e g g 1) q in
          let f = relation_refused 1 he hg hg p in
          record { first = g; second = g; times = 1; places = f.0; relator = double hg; broken = f.1 }

      paired : pairs_row s n N o e ≡ Err r → Fails n (order_of o) (step_of s n) e r
      paired q =
          let (k, hk, p) = scan_refused (length o) (at e) q in
          let (i, j, hi, hj, w) = pair_at n k (omega arith) in
          let small : j < 8 = omega arith in
          let f = relation_refused (order_of o i j) he (omega arith) hj (rw (← w, code_first hi small, code_second hi small) at p) in
          record { first = i; second = j; times = order_of o i j; places = f.0; relator = pair hi hj; broken = f.1 }

    pub relations_fail : {r : Refusal} → relations s n N o ≡ Err r → Fails n (order_of o) (step_of s n) 0 r
    relations_fail h = fails_row S.table.origin (sym relations_identity ∙ h)
