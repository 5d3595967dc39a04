-- Laws of periods.
use Prim.Native.Nat.{ℕ, zero, suc, ◌+◌, ◌*◌, ◌-◌, ◌/◌, ◌%◌, ◌≤◌, ◌<◌}
use mathlib.Core.Path.{◌≡◌, refl, sym, ap, ◌∙◌, subst}
use mathlib.Core.Bool.{Bool, true, false}
use mathlib.Core.List.{List, [], ◌∷◌}
use native.Mathlib.Nat.{le_refl, mod-lt, mul-one, mul-le-mul, mul-le-mul_right, div-le_self, dvd_trans, dvd_refl, one-dvd, dvd_antisymm, div-one, pos_of_dvd_of_pos}
use native.Mathlib.Omega.{arith}
use borrow.Author.Tests.{eq-eqb, ne_eqb}
use lib.ListN.{drop}
use lib.Dec.{eqb}
use Rattle.egg.specs.declared.Factor.{Factor}
use Rattle.egg.specs.declared.Refusal.{Refusal}
use Rattle.egg.specs.declared.GroupElementId.{GroupElementId}
use Rattle.egg.specs.Answers.{Counted, Reached}
use Rattle.egg.specs.Refusals.{numbered}
use Rattle.std.specs.Prelude.{Ok, Err}
use Rattle.egg.specs.Factor.{stretch}
use Rattle.factor_questions.specs.Walks.{compose_in}
use Rattle.theory_radix.specs.Radix.{stride}
use Rattle.theory_radix.specs.Divisors.{euclid, gcd, lcm}
use Rattle.factor_words.proofs.Words.{never_both, same_count}
use Rattle.theory_radix.proofs.DivisorLaws.{gcd_left, lcm_left, lcm_right, lcm_least, lcm_positive}
use Rattle.group_handles.specs.Handles.{sizes}
use Rattle.group_handles.specs.Counts.{on_counted, on_element}
use Rattle.group_periods.specs.Periods.{period_from, period_of, periods}

-- Euclid.
euclid_enough : (fuel fuel' a b : ℕ) → b ≤ fuel → b ≤ fuel' → euclid fuel a b ≡ euclid fuel' a b
euclid_enough zero zero a b h h' = refl
euclid_enough zero (suc fuel') a zero h h' = refl
euclid_enough zero (suc fuel') a (suc b) h h' = absurd (omega arith)
euclid_enough (suc fuel) zero a zero h h' = refl
euclid_enough (suc fuel) zero a (suc b) h h' = absurd (omega arith)
euclid_enough (suc fuel) (suc fuel') a zero h h' = refl
euclid_enough (suc fuel) (suc fuel') a (suc b) h h' =
    let k : a % suc b < suc b = mod-lt a {m = suc b} (omega arith) in
    euclid_enough fuel fuel' (suc b) (a % suc b) (omega arith) (omega arith)

gcd_suc : (a b : ℕ) → gcd a (suc b) ≡ gcd (suc b) (a % suc b)
gcd_suc a b =
    let k : a % suc b < suc b = mod-lt a {m = suc b} (omega arith) in
    euclid_enough b (a % suc b) (suc b) (a % suc b) (omega arith) (le_refl (a % suc b))

pub gcd_next : (a b : ℕ) {r : ℕ} → 0 < b → r ≡ a % b → gcd a b ≡ gcd b r
gcd_next a b {r} h q =
    let d : b ≡ suc (b - 1) = omega arith in
    rw q (subst (λ (n : ℕ). gcd a n ≡ gcd n (a % n)) (sym d) (gcd_suc a (b - 1)))

pub gcd_end : (a b : ℕ) → b ≤ 0 → a ≡ gcd a b
gcd_end a zero h = refl
gcd_end a (suc b) h = absurd (omega arith)

pub gcd_pos : (a b : ℕ) {r : ℕ} → r ≡ gcd a b → 0 < a → 0 < r
gcd_pos a b q h = rw q (pos_of_dvd_of_pos (gcd_left a b) h)

pub lcm_bound : (a b : ℕ) {r : ℕ} → r ≡ gcd a b → a / r * b ≤ a * b
lcm_bound a b {r} q = mul-le-mul_right b (div-le_self a r)

lcm_assoc : (a b c : ℕ) → 0 < a → 0 < b → lcm (lcm a b) c ≡ lcm a (lcm b c)
lcm_assoc a b c ha hb =
    dvd_antisymm
    (lcm_least (lcm a b) c (lcm_positive a b ha hb) (lcm a (lcm b c))
    (lcm_least a b ha (lcm a (lcm b c)) (lcm_left a (lcm b c)) (dvd_trans b (lcm_left b c) (lcm_right a (lcm b c))))
    (dvd_trans c (lcm_right b c) (lcm_right a (lcm b c))))
    (lcm_least a (lcm b c) ha (lcm (lcm a b) c) (dvd_trans a (lcm_left a b) (lcm_left (lcm a b) c))
    (lcm_least b c hb (lcm (lcm a b) c) (dvd_trans b (lcm_right a b) (lcm_left (lcm a b) c)) (lcm_right (lcm a b) c)))

lcm_one_right : (a : ℕ) → lcm a 1 ≡ a
lcm_one_right a = rw (mul-one) (div-one a)

lcm_one_left : (a : ℕ) → lcm 1 a ≡ a
lcm_one_left a = dvd_antisymm (lcm_least 1 a (omega arith) a (one-dvd a) (dvd_refl a)) (lcm_right 1 a)

-- One law for each answer of a period walk: x is the power by i + 1.
abbrev pub refused17 : Counted
refused17 = Err (numbered 17 0 0 0)

pub record Turning (op : ℕ → ℕ → Reached) (N a i x : ℕ) : Type 0 where
  pub same : period_from (N - i) op a x (i + 1) ≡ period_from N op a a 1

pub turning : (op : ℕ → ℕ → Reached) (N a : ℕ) → Turning op N a 0 a
turning op N a = let d : N - 0 ≡ N = omega arith in record { same = ap (λ (l : ℕ). period_from l op a a 1) d }

module _ {op : ℕ → ℕ → Reached} {N a i x : ℕ} (w : Turning op N a i x) where
  pub turn_none : N ≤ i → refused17 ≡ period_from N op a a 1
  unfolding period_from
  turn_none h = let d : N - i ≡ 0 = omega arith in ap (λ (l : ℕ). period_from l op a x (i + 1)) (sym d) ∙ w.same

  module _ (l : i < N) where
    pub turn_here : x ≡ 0 → Ok (i + 1) ≡ period_from N op a a 1
    unfolding period_from
    turn_here z =
        let d : N - i ≡ suc (N - (i + 1)) = omega arith in
        let q : period_from (suc (N - (i + 1))) op a x (i + 1) ≡ Ok (i + 1) = rw (eq-eqb x 0 z) in
        sym q ∙ ap (λ (l : ℕ). period_from l op a x (i + 1)) (sym d) ∙ w.same

    module _ (z : x ≡ 0 → ⊥) {r : Reached} (q : r ≡ op x a) where
      opens : on_element r (λ y. period_from (N - (i + 1)) op a y (i + 1 + 1)) ≡ period_from N op a a 1
      unfolding period_from
      opens =
          let d : N - i ≡ suc (N - (i + 1)) = omega arith in
          let p : period_from (suc (N - (i + 1))) op a x (i + 1) ≡ on_element r (λ y. period_from (N - (i + 1)) op a y (i + 1 + 1)) = rw (ne_eqb x 0 z, q) in
          sym p ∙ ap (λ (l : ℕ). period_from l op a x (i + 1)) (sym d) ∙ w.same

      pub turn_stop : {why : Refusal} → r ≡ Err why → Err why ≡ period_from N op a a 1
      turn_stop e = ap (λ (v : Reached). on_element v (λ y. period_from (N - (i + 1)) op a y (i + 1 + 1))) (sym e) ∙ opens

      pub turn_on : {y : GroupElementId} → r ≡ Ok y → Turning op N a (i + 1) y.0
      turn_on e = record { same = ap (λ (v : Reached). on_element v (λ y. period_from (N - (i + 1)) op a y (i + 1 + 1))) (sym e) ∙ opens }

-- A period that was answered is one of 1 .. N.
period_in_range : (left : ℕ) (op : ℕ → ℕ → Reached) (a x k m : ℕ) → period_from left op a x k ≡ Ok m → (k ≤ m) × (m < k + left)
unfolding period_from
period_in_range zero op a x k m h = absurd (never_both refl h)
period_in_range (suc left) op a x k m h = by (λ y. period_in_range left op a y (k + 1) m) (eqb x 0) (op x a) refl refl where
  by : ((y : ℕ) → period_from left op a y (k + 1) ≡ Ok m → (k + 1 ≤ m) × (m < k + 1 + left))
      → (b : Bool) (r : Reached) → eqb x 0 ≡ b → op x a ≡ r → (k ≤ m) × (m < k + suc left)
  by i true r p q = let z : Ok k ≡ Ok m = (rw p at h) in let e : k ≡ m = same_count z in (omega arith, omega arith)
  by i false (Err w) p q = absurd (never_both refl (rw (p, q) at h))
  by i false (Ok y) p q =
      let (u, v) = i y.0 (rw (p, q) at h) in
      (omega arith, omega arith)

pub period_range : (t : List ℕ) (h : Factor) (a : ℕ) {v : Counted} {m : ℕ} → v ≡ period_of t h a → v ≡ Ok m → (1 ≤ m) × (m ≤ h.elements)
period_range t h a {v} {m} q e =
    let (x, y) = period_in_range h.elements (compose_in (stretch t h) h.generators h.elements) a a 1 m (sym q ∙ e) in
    (x, omega arith)

-- The loop over the factors.
pub record Multiple (t : List ℕ) (hs : List Factor) (a f m rest : ℕ) : Type 0 where
  pub some : 0 < m
  pub small : m ≤ stride (sizes hs) f
  pub same : on_counted (periods t (drop f hs) rest) (λ q. Ok (lcm m q)) ≡ periods t hs a

module _ (t : List ℕ) where
  one_first : (r : Counted) → on_counted r (λ q. Ok (lcm 1 q)) ≡ r
  one_first (Ok q) = ap Ok (lcm_one_left q)
  one_first (Err r) = refl

  pub multiple : (hs : List Factor) (a : ℕ) → Multiple t hs a 0 1 a
  multiple hs a = record { some = omega arith; small = omega arith; same = one_first (periods t hs a) }

  moved : (r : Counted) {m p : ℕ} → 0 < m → 0 < p → on_counted r (λ q. Ok (lcm (lcm m p) q)) ≡ on_counted (on_counted r (λ q. Ok (lcm p q))) (λ q. Ok (lcm m q))
  moved (Ok q) {m} {p} hm hp = ap Ok (lcm_assoc m p q hm hp)
  moved (Err r) hm hp = refl

  opened_periods : (h : Factor) (hs : List Factor) (a : ℕ) {r : Counted} → r ≡ period_of t h (a % h.elements)
      → periods t (h ∷ hs) a ≡ on_counted r (λ p. on_counted (periods t hs (a / h.elements)) (λ q. Ok (lcm p q)))
  unfolding periods
  opened_periods h hs a q = rw q

module _ {t : List ℕ} {hs : List Factor} {a f m rest : ℕ} {h : Factor} (w : Multiple t hs a f m rest) (d : drop f hs ≡ h ∷ drop (f + 1) hs)
    {r : Counted} (q : r ≡ period_of t h (rest % h.elements))
  where
    left_over : on_counted (on_counted r (λ p. on_counted (periods t (drop (f + 1) hs) (rest / h.elements)) (λ q. Ok (lcm p q)))) (λ q. Ok (lcm m q)) ≡ periods t hs a
    left_over =
        ap (λ (v : Counted). on_counted v (λ q. Ok (lcm m q))) (sym (opened_periods t h (drop (f + 1) hs) rest q))
        ∙ ap (λ (l : List Factor). on_counted (periods t l rest) (λ q. Ok (lcm m q))) (sym d) ∙ w.same

    pub multiple_stop : {why : Refusal} → r ≡ Err why → Err why ≡ periods t hs a
    multiple_stop e =
        ap (λ (v : Counted). on_counted (on_counted v (λ p. on_counted (periods t (drop (f + 1) hs) (rest / h.elements)) (λ q. Ok (lcm p q)))) (λ q. Ok (lcm m q))) (sym e)
        ∙ left_over

    module _ {p : ℕ} (e : r ≡ Ok p) {x : ℕ} (g : x ≡ gcd m p) (next : stride (sizes hs) f * h.elements ≡ stride (sizes hs) (f + 1)) where
      pub multiple_bound : m / x * p ≤ stride (sizes hs) (f + 1)
      multiple_bound =
          let (u, v) = period_range t h (rest % h.elements) q e in
          omega (arith, lcm_bound m p g, mul-le-mul w.small v, next)

      pub multiple_on : Multiple t hs a (f + 1) (m / x * p) (rest / h.elements)
      multiple_on =
          let (u, v) = period_range t h (rest % h.elements) q e in
          record {
            some = rw g (lcm_positive m p w.some u);
            small = multiple_bound;
            same =
                rw g (moved t (periods t (drop (f + 1) hs) (rest / h.elements)) w.some u
                ∙ ap (λ (v : Counted). on_counted (on_counted v (λ p. on_counted (periods t (drop (f + 1) hs) (rest / h.elements)) (λ q. Ok (lcm p q)))) (λ q. Ok (lcm m q))) (sym e)
                ∙ left_over);
          }

pub multiple_end : {t : List ℕ} {hs : List Factor} {a f m rest : ℕ} → Multiple t hs a f m rest → drop f hs ≡ [] → Ok m ≡ periods t hs a
unfolding periods
multiple_end {t} {hs} {a} {f} {m} {rest} w d =
    ap Ok (sym (lcm_one_right m)) ∙ ap (λ (l : List Factor). on_counted (periods t l rest) (λ q. Ok (lcm m q))) (sym d) ∙ w.same
