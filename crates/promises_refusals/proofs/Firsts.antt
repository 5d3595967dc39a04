-- A scan whose places are decided refuses just at the first place that fails.
use Prim.Native.Nat.{ℕ, ◌<◌}
use mathlib.Core.Path.{◌≡◌, refl, sym, ◌∙◌}
use mathlib.Core.Logic.{◌⊎◌, inl, inr}
use native.Mathlib.Omega.{arith}
use Rattle.egg.specs.declared.Refusal.{Refusal}
use Rattle.egg.specs.Answers.{Verdict, fine}
use Rattle.std.specs.Prelude.{Err}
use Rattle.egg.specs.Scan.{scan}
use Rattle.egg.proofs.Scans.{refused_fine, scan_fine, scan_first}
use Rattle.theory.specs.Appearance.{Ahead, row, column}
use Rattle.build_checks_laws.proofs.Passes.{scan_stops}
use Rattle.promises_refusals.specs.Firsts.{FirstOf, FirstPlace}

-- What a test decides: it refuses by r just where P holds.
abbrev pub Decides : Type 0 → Refusal → Verdict → Type 0
Decides P r v = (P × (v ≡ Err r)) ⊎ ((P → ⊥) × (v ≡ fine))

module _ {P : Type 0} {r : Refusal} {v : Verdict} where
  pub decides_refused : {s : Refusal} → Decides P r v → v ≡ Err s → P × (s ≡ r)
  decides_refused {s} (inl (p, q)) h = let e : s ≡ r = cc in (p, e)
  decides_refused (inr (n, q)) h = absurd (refused_fine (sym h ∙ q))

  pub decides_fine : Decides P r v → v ≡ fine → P → ⊥
  decides_fine (inl (p, q)) h = absurd (refused_fine (sym q ∙ h))
  decides_fine (inr (n, q)) h = n

  pub refuses : Decides P r v → P → v ≡ Err r
  refuses (inl (p, q)) h = q
  refuses (inr (n, q)) h = absurd (n h)

  pub passes : Decides P r v → (P → ⊥) → v ≡ fine
  passes (inl (p, q)) h = absurd (h p)
  passes (inr (n, q)) h = q

module _ {k : ℕ} {f : ℕ → Verdict} {P : ℕ → Type 0} {at : ℕ → Refusal} (d : (i : ℕ) → i < k → Decides (P i) (at i) (f i)) where
  pub first_found : {r : Refusal} → scan k f 0 ≡ Err r → (i : ℕ) × FirstOf k P i × (r ≡ at i)
  first_found h =
      let p = scan_first k f 0 h in
      let l : p.0 < k = omega (arith, p.2) in
      let q = decides_refused (d p.0 l) p.3 in
      (p.0, record { inside = l; here = q.0; before = λ {j} m. decides_fine (d j (omega arith)) (p.4 j (omega arith) m) }, q.1)

  pub first_refused_lem : {i : ℕ} → FirstOf k P i → scan k f 0 ≡ Err (at i)
  first_refused_lem {i} F =
      scan_stops k f 0 i (omega arith) (omega (arith, F.inside)) (refuses (d i F.inside) F.here)
      (λ l a b. passes (d l (omega (arith, F.inside))) (F.before b))

  -- Nothing is refused just where nothing fails.
  pub first_fine : ((i : ℕ) → i < k → P i → ⊥) → scan k f 0 ≡ fine
  first_fine none = (scan_fine k f).1 (λ i l. passes (d i l) (none i l))

module _ {n N : ℕ} {f : ℕ → ℕ → Verdict} {P : ℕ → ℕ → Type 0} {at : ℕ → ℕ → Refusal}
    (d : (e g : ℕ) → e < N → g < n → Decides (P e g) (at e g) (f e g)) where
  -- What is fine in the rows above and before the column in the row itself fails at no place that is read before.
  none_ahead : {e g x h : ℕ} → ((y : ℕ) → y < e → scan n (λ c. f y c) 0 ≡ fine) → ((c : ℕ) → c < g → P e c → ⊥) → x < N → h < n → Ahead x h e g → P x h → ⊥
  none_ahead {x = x} {h} above left hx hh (row m) p = decides_fine (d x h hx hh) ((scan_fine n (λ c. f x c)).0 (above x m) h hh) p
  none_ahead {h = h} above left hx hh (column q m) p = left h m (rw q at p)

  pub place_found : {r : Refusal} → scan N (λ e. scan n (λ g. f e g) 0) 0 ≡ Err r → (e : ℕ) × (g : ℕ) × FirstPlace n N P e g × (r ≡ at e g)
  place_found h =
      let p = scan_first N (λ e. scan n (λ g. f e g) 0) 0 h in
      let e = p.0 in
      let l : e < N = omega (arith, p.2) in
      let q = first_found {k = n} {f = λ g. f e g} {P = λ g. P e g} {at = λ g. at e g} (λ g hg. d e g l hg) p.3 in
      let F = q.1 in (
        e,
        q.0,
        record { row = l; column = F.inside; here = F.here; before = none_ahead (λ x m. p.4 x (omega arith) m) (λ h m. F.before m) },
        q.2,
      )

  pub place_refused : {e g : ℕ} → FirstPlace n N P e g → scan N (λ e. scan n (λ g. f e g) 0) 0 ≡ Err (at e g)
  place_refused {e} {g} F =
      scan_stops N (λ e. scan n (λ g. f e g) 0) 0 e (omega arith) (omega (arith, F.row))
      (first_refused_lem {k = n} {f = λ g. f e g} {P = λ g. P e g} {at = λ g. at e g} (λ h hh. d e h F.row hh)
      (record { inside = F.column; here = F.here; before = λ {j} m. F.before F.row (omega (arith, F.column)) (column refl m) }))
      (λ x a b. let l : x < N = omega (arith, F.row) in (scan_fine n (λ g. f x g)).1 (λ h hh. passes (d x h l hh) (F.before l hh (row b))))

  pub place_fine : ((e g : ℕ) → e < N → g < n → P e g → ⊥) → scan N (λ e. scan n (λ g. f e g) 0) 0 ≡ fine
  place_fine none = (scan_fine N (λ e. scan n (λ g. f e g) 0)).1 (λ e he. (scan_fine n (λ g. f e g)).1 (λ g hg. passes (d e g he hg) (none e g he hg)))

  pub fine_place : scan N (λ e. scan n (λ g. f e g) 0) 0 ≡ fine → (e g : ℕ) → e < N → g < n → P e g → ⊥
  fine_place h e g he hg = decides_fine (d e g he hg) ((scan_fine n (λ g. f e g)).0 ((scan_fine N (λ e. scan n (λ g. f e g) 0)).0 h e he) g hg)
