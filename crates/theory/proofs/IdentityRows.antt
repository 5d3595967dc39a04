-- Numbered by first appearance, a table has the identity row 1..n just if its generators are distinct and none is the identity.
use mathlib.Core.Path.{◌≡◌, refl, sym, ◌∙◌}
use mathlib.Core.Logic.{◌↔◌, ⊎_elim}
use Prim.Native.Nat.{ℕ, zero, suc, ◌<◌, ◌≤◌}
use native.Mathlib.Omega.{arith}
use Rattle.theory.specs.Numbering.{Known, start, old, new, next_row, Numbered, IdentityRow, Distinct}
use Rattle.theory.specs.Appearance.{Ahead, row, column}
use Rattle.theory.proofs.Places.{nothing_ahead, ahead_column, ahead_row}

-- The first k entries of the identity row, where these generators are distinct and none is the identity.
module _ (n : ℕ) (step : ℕ → ℕ → ℕ) (k : ℕ) (few : k ≤ n) (moves : (g : ℕ) → g < k → ¬ (step 0 g ≡ 0))
    (apart : (g h : ℕ) → g < k → h < k → step 0 g ≡ step 0 h → g ≡ h) where
  -- An entry of the identity row is not among those before it.
  not_old : (g t : ℕ) → g < k → ((h : ℕ) → h < g → step 0 h ≡ suc h) → step 0 g ≡ t → ¬ (t < suc g)
  not_old g zero hg before e l = moves g hg e
  not_old g (suc h) hg before e l = let q : h ≡ g = apart h g (omega arith) hg (before h (omega arith) ∙ sym e) in omega arith

  first_row : {x g c : ℕ} → Known n step x g c → (x ≡ 0 → g ≤ k → c ≡ suc g) × ((h : ℕ) → h < k → Ahead 0 h x g → step 0 h ≡ suc h)
  first_row start = (λ _ _. refl, λ h _ a. absurd (nothing_ahead a))
  first_row (old {x} {g} {c} K hg t) =
      let ih = first_row K in
      let never : x ≡ 0 → ¬ (g < k) = λ e l.
      not_old g (step 0 g) l (λ h m. ih.1 h (omega arith) (column (sym e) m)) refl (omega (arith, rw e at t, ih.0 e (omega arith))) in
      (λ e l. absurd (never e l), λ h hn a. ⊎_elim (λ e. absurd (never (sym e.0) (omega (arith, e.1)))) (ih.1 h hn) (ahead_column a))
  first_row (new {x} {g} {c} K hg t) =
      let ih = first_row K in (
        λ e l. omega (arith, ih.0 e (omega arith)),
        λ h hn a. ⊎_elim (λ e. rw (e.0, e.1) (t ∙ ih.0 (sym e.0) (omega (arith, e.1)))) (ih.1 h hn) (ahead_column a),
      )
  first_row (next_row K _) = (λ e _. absurd (omega arith), λ h hn a. (first_row K).1 h hn (ahead_row (omega arith) a))

  pub row_so_far : {N : ℕ} → Numbered n N step → (h : ℕ) → h < k → step 0 h ≡ suc h
  row_so_far R h l = (first_row R.known).1 h l (ahead_row (omega arith) (row (omega arith)))

pub identity_row_distinct : {n N : ℕ} {step : ℕ → ℕ → ℕ} → Numbered n N step → IdentityRow n step ↔ Distinct n step
identity_row_distinct {n} {step = step} R = (
  λ r. record { moves = λ {g} hg e. omega (arith, r g hg); apart = λ {g} {h} hg hh e. omega (arith, r g hg, r h hh) },
  λ D g hg. row_so_far n step n (omega arith) (λ g hg. D.moves hg) (λ g h hg hh. D.apart hg hh) R g hg,
)
