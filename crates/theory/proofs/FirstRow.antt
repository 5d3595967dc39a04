-- The first generator that is the identity, or as an earlier one; or there is none.
use Prim.Native.Nat.{ℕ, zero, suc, ◌<◌}
use mathlib.Core.Path.{◌≡◌, sym}
use mathlib.Core.Logic.{◌⊎◌, inl, inr, ⊎_elim}
use native.Mathlib.Decide.{ℕ_discrete, dec_lt}
use native.Mathlib.Omega.{arith}
use Rattle.theory.proofs.BoundedTests.{below_suc}
use Rattle.theory.specs.Subgroup.{Proper, FirstIdentity, FirstRepeat}

-- Generators of which none is as an earlier one are different.
pub sooner_apart : {n : ℕ} {gen : ℕ → ℕ} → ((g h : ℕ) → g < h → h < n → ¬ (gen g ≡ gen h)) → {g h : ℕ} → g < n → h < n → gen g ≡ gen h → g ≡ h
sooner_apart none {g} {h} hg hh q = by (dec_lt g h) (dec_lt h g) where
  by : Dec (g < h) → Dec (h < g) → g ≡ h
  by (yes l) d = absurd (none g h l hh q)
  by (no f) (yes l) = absurd (none h g l hg (sym q))
  by (no f) (no f') = omega arith

-- The first of which P holds, or none.
first_or_none : (P : ℕ → Type 0) → ((i : ℕ) → Dec (P i)) → (n : ℕ)
    → ((g : ℕ) × (g < n) × P g × ((h : ℕ) → h < g → ¬ (P h))) ⊎ ((h : ℕ) → h < n → ¬ (P h))
first_or_none P dec zero = inr (λ h l. absurd (omega arith))
first_or_none P dec (suc n) = go (first_or_none P dec n) (dec n) where
  go : ((g : ℕ) × (g < n) × P g × ((h : ℕ) → h < g → ¬ (P h))) ⊎ ((h : ℕ) → h < n → ¬ (P h)) → Dec (P n)
      → ((g : ℕ) × (g < suc n) × P g × ((h : ℕ) → h < g → ¬ (P h))) ⊎ ((h : ℕ) → h < suc n → ¬ (P h))
  go (inl (g, l, p, f)) d = inl (g, omega arith, p, f)
  go (inr none) (yes p) = inl (n, omega arith, p, none)
  go (inr none) (no f) = inr (λ h l p. ⊎_elim (λ q. f (rw q at p)) (λ m. none h m p) (below_suc l))

some_earlier : (gen : ℕ → ℕ) (g : ℕ) → Dec ((h : ℕ) × (h < g) × (gen h ≡ gen g))
some_earlier gen g = go (first_or_none (λ h. gen h ≡ gen g) (λ h. ℕ_discrete (gen h) (gen g)) g) where
  go : ((h : ℕ) × (h < g) × (gen h ≡ gen g) × ((i : ℕ) → i < h → ¬ (gen i ≡ gen g))) ⊎ ((h : ℕ) → h < g → ¬ (gen h ≡ gen g))
      → Dec ((h : ℕ) × (h < g) × (gen h ≡ gen g))
  go (inl (h, l, q, _)) = yes (h, l, q)
  go (inr none) = no (λ p. none p.0 p.1 p.2)

pub generators_are : (n : ℕ) (gen : ℕ → ℕ) → ((g : ℕ) × FirstIdentity n gen g) ⊎ (((g : ℕ) × FirstRepeat n gen g) ⊎ Proper n gen)
generators_are n gen = go (first_or_none (λ g. gen g ≡ 0) (λ g. ℕ_discrete (gen g) 0) n) where
  proper : ((h : ℕ) → h < n → ¬ (gen h ≡ 0)) → ((g : ℕ) → g < n → ¬ ((h : ℕ) × (h < g) × (gen h ≡ gen g))) → Proper n gen
  proper moves none = record { moves = λ {g} hg. moves g hg; apart = λ hg hh q. sooner_apart (λ g h l hh q. none h hh (g, l, q)) hg hh q }

  next : ((h : ℕ) → h < n → ¬ (gen h ≡ 0))
      → ((g : ℕ) × (g < n) × ((h : ℕ) × (h < g) × (gen h ≡ gen g)) × ((i : ℕ) → i < g → ¬ ((h : ℕ) × (h < i) × (gen h ≡ gen i))))
      ⊎ ((g : ℕ) → g < n → ¬ ((h : ℕ) × (h < g) × (gen h ≡ gen g)))
      → ((g : ℕ) × FirstIdentity n gen g) ⊎ (((g : ℕ) × FirstRepeat n gen g) ⊎ Proper n gen)
  next moves (inl (g, l, e, f)) = inr (inl (
    g,
    record {
      moves = λ {h} hh. moves h hh;
      place = l;
      earlier = e.0;
      sooner = e.1;
      same = e.2;
      before = λ {h} {i} a b q. f i b (h, a, q);
    },
  ))
  next moves (inr none) = inr (inr (proper moves none))

  go : ((g : ℕ) × (g < n) × (gen g ≡ 0) × ((h : ℕ) → h < g → ¬ (gen h ≡ 0))) ⊎ ((h : ℕ) → h < n → ¬ (gen h ≡ 0))
      → ((g : ℕ) × FirstIdentity n gen g) ⊎ (((g : ℕ) × FirstRepeat n gen g) ⊎ Proper n gen)
  go (inl (g, l, q, f)) = inl (g, record { place = l; identity = q; before = λ {h} m. f h m })
  go (inr moves) = next moves (first_or_none (λ g. (h : ℕ) × (h < g) × (gen h ≡ gen g)) (some_earlier gen) n)
