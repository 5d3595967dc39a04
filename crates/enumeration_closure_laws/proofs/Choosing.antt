-- A choice by a test that is decided, and the tests whether two places or two lists are the same.
use Prim.Native.Nat.{ℕ}
use mathlib.Core.Path.{◌≡◌, refl, ap}
use native.Mathlib.Decide.{ℕ_discrete}
use native.Mathlib.Omega.{arith}
use Rattle.enumeration_rows.specs.declared.inner.SideOfGap.{SideOfGap}
use Rattle.enumeration_rows.specs.declared.inner.SideOfGap.TheVariants.{Left, Right}
use Rattle.enumeration_closure_laws.proofs.Places.{bit}

abbrev pub choose : {A P : Type 0} → Dec P → A → A → A
choose (yes _) a b = a
choose (no _) a b = b

pub choose_yes : {A P : Type 0} (d : Dec P) (a b : A) → P → choose d a b ≡ a
choose_yes (yes _) a b h = refl
choose_yes (no d) a b h = absurd (d h)

pub choose_no : {A P : Type 0} (d : Dec P) (a b : A) → (P → ⊥) → choose d a b ≡ b
choose_no (yes p) a b h = absurd (h p)
choose_no (no _) a b h = refl

both : {A B : Type 0} → Dec A → Dec B → Dec (A × B)
both (yes a) (yes b) = yes (a, b)
both (yes a) (no h) = no (λ x. h x.1)
both (no h) (yes b) = no (λ x. h x.0)
both (no h) (no _) = no (λ x. h x.0)

all_three : {A B C : Type 0} → Dec A → Dec B → Dec C → Dec (A × B × C)
all_three {A} {B} {C} (yes a) d e = by (both d e) where
  by : Dec (B × C) → Dec (A × B × C)
  by (yes x) = yes (a, x.0, x.1)
  by (no h) = no (λ x. h (x.1, x.2))
all_three (no h) d e = no (λ x. h x.0)

same_side : (s s' : SideOfGap) → Dec (s ≡ s')
same_side Left Left = yes refl
same_side Left Right = no (λ q. omega (arith, ap bit q))
same_side Right Left = no (λ q. omega (arith, ap bit q))
same_side Right Right = yes refl

pub same_place : (x e h g : ℕ) → Dec ((x ≡ e) × (h ≡ g))
same_place x e h g = both (ℕ_discrete x e) (ℕ_discrete h g)

pub same_list : (s s' : SideOfGap) (x e h g : ℕ) → Dec ((s ≡ s') × (x ≡ e) × (h ≡ g))
same_list s s' x e h g = all_three (same_side s s') (ℕ_discrete x e) (ℕ_discrete h g)
