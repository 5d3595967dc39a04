-- Laws of a verdict and what comes after it, and of a scan: of the loop that runs it, of what it means that it is fine, and of where its refusal is from.
use Prim.Native.Nat.{ℕ, zero, suc, ◌+◌, ◌-◌, ◌≤◌, ◌<◌}
use mathlib.Core.Path.{◌≡◌, refl, sym, ◌∙◌}
use mathlib.Core.Logic.{◌↔◌, ◌⊎◌, inl, inr}
use mathlib.Core.Bool.{Bool, true, false}
use native.Mathlib.Nat.{sub-zero, eq-or-lt_of_le}
use native.Mathlib.Omega.{arith}
use Rattle.egg.specs.declared.Refusal.{Refusal}
use Rattle.egg.specs.Answers.{Verdict, fine}
use Rattle.std.specs.Prelude.{Ok, Err}
use Rattle.egg.specs.Table.{pick}
use Rattle.egg.specs.Scan.{and_then, scan}

pub refused_fine : {r : Refusal} → Err r ≡ fine → ⊥
refused_fine h = let q : ◌≡◌ {A = ℕ} 0 1 = cc in omega arith

pub and_then_fine : (u v : Verdict) → and_then u v ≡ fine ↔ ((u ≡ fine) × (v ≡ fine))
and_then_fine (Ok tt) v = (λ h. (refl, h), λ h. h.1)
and_then_fine (Err r) v = (λ h. absurd (refused_fine h), λ h. absurd (refused_fine h.0))

pub and_then_refused : (u v : Verdict) {r : Refusal} → and_then u v ≡ Err r → (u ≡ Err r) ⊎ (v ≡ Err r)
and_then_refused (Ok tt) v h = inr h
and_then_refused (Err q) v h = inl h

-- Where a call gave the first verdict.
module _ {v w : Verdict} (q : v ≡ w) (u : Verdict) where
  pub then_refused : {r : Refusal} → v ≡ Err r → v ≡ and_then w u
  then_refused e = rw (← q, e)

  pub then_fine : v ≡ fine → u ≡ and_then w u
  then_fine e = rw (← q, e)

-- What is left of c in a turn that starts at i, of any loop that counts up.
pub left_suc : {c i : ℕ} → i < c → c - i ≡ suc (c - (i + 1))
left_suc h = omega arith

-- A loop over a scan: `c - i` places are left at i. Each turn goes on, stops at a refusal, or has come to the end.
module _ (c : ℕ) (f : ℕ → Verdict) (i : ℕ) where
  pub scan_next : i < c → f i ≡ fine → scan (c - i) f i ≡ scan (c - (i + 1)) f (i + 1)
  unfolding scan
  scan_next h e = rw (left_suc h, e)

  pub scan_here : {r : Refusal} → i < c → f i ≡ Err r → scan (c - i) f i ≡ Err r
  unfolding scan
  scan_here h e = rw (left_suc h, e)

  pub scan_end : c ≤ i → scan (c - i) f i ≡ fine
  unfolding scan
  scan_end h = let q : c - i ≡ 0 = omega arith in rw q

-- The invariant of a scan of c places that has come to i: what is left of it gives the verdict of the whole.
-- It is a record so that a law finds c, f and i by itself.
pub record Scanning (c : ℕ) (f : ℕ → Verdict) (i : ℕ) (whole : Verdict) : Type 0 where
  pub rest : scan (c - i) f i ≡ whole

pub scanning : {c : ℕ} {f : ℕ → Verdict} → Scanning c f 0 (scan c f 0)
scanning = record { rest = rw sub-zero }

module _ {c : ℕ} {f : ℕ → Verdict} {i : ℕ} {whole : Verdict} (s : Scanning c f i whole) where
  pub stops : {r : Refusal} → i < c → f i ≡ Err r → Err r ≡ whole
  stops h e = sym (scan_here c f i h e) ∙ s.rest

  -- Where a call gave the verdict on i, its refusal is handed on.
  pub hands_on : {v : Verdict} {r : Refusal} → i < c → v ≡ f i → v ≡ Err r → v ≡ whole
  hands_on h e told = told ∙ stops h (sym e ∙ told)

  pub goes_on : i < c → f i ≡ fine → Scanning c f (i + 1) whole
  goes_on h e = record { rest = sym (scan_next c f i h e) ∙ s.rest }

  pub ends : c ≤ i → fine ≡ whole
  ends h = sym (scan_end c f i h) ∙ s.rest

-- A place is this one or a later one.
pub here_or_later : (P : ℕ → Type 0) {i j : ℕ} → i ≤ j → P i → (i < j → P j) → P j
here_or_later P {i} {j} l here later = go (eq-or-lt_of_le l) where
  go : (i ≡ j) ⊎ (i < j) → P j
  go (inl e) = rw e at here
  go (inr p) = later p

-- A scan is fine just if each of its places is.
pub scan_each : (k : ℕ) (f : ℕ → Verdict) (i : ℕ) → scan k f i ≡ fine → (j : ℕ) → i ≤ j → j < i + k → f j ≡ fine
unfolding scan
scan_each zero f i h j l m = absurd (omega arith)
scan_each (suc k) f i h j l m =
    let both = (and_then_fine (f i) (scan k f (i + 1))).0 h in
    here_or_later (λ j. f j ≡ fine) l both.0 (λ p. scan_each k f (i + 1) both.1 j (omega arith) (omega arith))

pub each_scan : (k : ℕ) (f : ℕ → Verdict) (i : ℕ) → ((j : ℕ) → i ≤ j → j < i + k → f j ≡ fine) → scan k f i ≡ fine
unfolding scan
each_scan zero f i h = refl
each_scan (suc k) f i h =
    (and_then_fine (f i) (scan k f (i + 1))).1 (h i (omega arith) (omega arith), each_scan k f (i + 1) (λ j l m. h j (omega arith) (omega arith)))

pub scan_fine : (k : ℕ) (f : ℕ → Verdict) → scan k f 0 ≡ fine ↔ ((j : ℕ) → j < k → f j ≡ fine)
scan_fine k f = (λ h j l. scan_each k f 0 h j (omega arith) (omega arith), λ h. each_scan k f 0 (λ j l m. h j (omega arith)))

-- What a scan refuses is refused at the first place that is not fine.
pub scan_first : (k : ℕ) (f : ℕ → Verdict) (i : ℕ) {r : Refusal} → scan k f i ≡ Err r
    → (j : ℕ) × (i ≤ j) × (j < i + k) × (f j ≡ Err r) × ((l : ℕ) → i ≤ l → l < j → f l ≡ fine)
unfolding scan
scan_first zero f i h = absurd (refused_fine (sym h))
scan_first (suc k) f i {r} h = go (f i) refl h (λ q. scan_first k f (i + 1) q) where
  Found : ℕ → ℕ → Type 0
  Found i k = (j : ℕ) × (i ≤ j) × (j < i + k) × (f j ≡ Err r) × ((l : ℕ) → i ≤ l → l < j → f l ≡ fine)

  go : (v : Verdict) → f i ≡ v → and_then v (scan k f (i + 1)) ≡ Err r → (scan k f (i + 1) ≡ Err r → Found (i + 1) k) → Found i (suc k)
  go (Ok tt) e h rest =
      let p = rest h in
      (p.0, omega (arith, p.1), omega (arith, p.2), p.3, λ l a b. here_or_later (λ l. f l ≡ fine) a e (λ c. p.4 l (omega arith) b))
  go (Err s) e h rest = (i, omega arith, omega arith, e ∙ h, λ l a b. absurd (omega arith))

pub scan_refused : (k : ℕ) (f : ℕ → Verdict) {r : Refusal} → scan k f 0 ≡ Err r → (j : ℕ) × (j < k) × (f j ≡ Err r)
scan_refused k f h = let p = scan_first k f 0 h in (p.0, omega (arith, p.2), p.3)

-- Whatever is refused, Q holds of the refusal.
pub record Says (Q : Refusal → Type 0) (v : Verdict) : Type 0 where
  pub of : (r : Refusal) → v ≡ Err r → Q r

module _ {Q : Refusal → Type 0} where
  pub says_fine : Says Q fine
  says_fine = record { of = λ r h. absurd (refused_fine (sym h)) }

  pub says_refused : {r : Refusal} → Q r → Says Q (Err r)
  says_refused {r} q = record { of = λ s h. let e : r ≡ s = cc in rw e at q }

  pub says_pick : (b : Bool) (u v : Verdict) → Says Q u → Says Q v → Says Q (pick b u v)
  says_pick true u v p q = p
  says_pick false u v p q = q

  pub says_then : (u v : Verdict) → Says Q u → Says Q v → Says Q (and_then u v)
  says_then (Ok tt) v p q = q
  says_then (Err r) v p q = p

  pub says_scan : (k : ℕ) (f : ℕ → Verdict) (i : ℕ) → ((j : ℕ) → Says Q (f j)) → Says Q (scan k f i)
  unfolding scan
  says_scan zero f i p = says_fine
  says_scan (suc k) f i p = says_then (f i) (scan k f (i + 1)) (p i) (says_scan k f (i + 1) p)
