-- Laws of the names of a product: what stands at a place, and the names of two products together.
use Rattle.std.specs.Prelude.{Ok}
use Rattle.egg.specs.Refusals.{numbered}
use Prim.Native.Nat.{ℕ, zero, suc, ◌≤◌, ◌<◌}
use mathlib.Core.Path.{◌≡◌, refl, sym, ap, ◌∙◌}
use mathlib.Core.Bool.{Bool, true, false, ◌&&◌}
use mathlib.Core.List.{List, [], ◌∷◌, ◌++◌}
use native.Mathlib.Omega.{arith}
use borrow.Author.Tests.{leb-true}
use lib.Dec.{leb}
use lib.ListN.{length, get_or, drop, length-append, get_or-eq_default}
use Rattle.egg.specs.declared.Refusal.{Refusal}
use Rattle.std.specs.Prelude.{Err}
use Rattle.egg.specs.Table.{pick}
use Rattle.group_handles.specs.declared.Group.{Group}
use Rattle.group_handles.specs.Answers.{Grouped}
use Rattle.group_handles.specs.Handles.{handles, all_fit, elements_of, group_of, joins}
use Rattle.group_handles.proofs.Sums.{eight}
use Rattle.names_values.specs.declared.Name.{Name}
use Rattle.names_values.specs.declared.NamedGroup.{NamedGroup}
use Rattle.names_values.specs.Names.{no_name}
use Rattle.names_joined.specs.Joined.{listed_names}
use Rattle.names_joined.proofs.Turns.{name_turn}
use Rattle.names.specs.Products.{eight_names}

-- What stands at a place of the names.
pub name_beyond : (ms : List Name) (f : ℕ) {k : ℕ} → k ≡ length ms → k ≤ f → no_name ≡ get_or ms f no_name
name_beyond ms f {k} q h = let d : length ms ≤ f = rw (← q) h in sym (get_or-eq_default ms no_name d)

head_at : (ms : List Name) (f : ℕ) {m : Name} {rest : List Name} → drop f ms ≡ m ∷ rest → m ≡ get_or ms f no_name
head_at [] zero e = absurd (omega (arith, ap length e))
head_at [] (suc f) e = absurd (omega (arith, ap length e))
head_at (m ∷ ms) zero e = cc
head_at (m ∷ ms) (suc f) e = head_at ms f e

pub name_there : (g : NamedGroup) (f : ℕ) {k : ℕ} → k ≡ length (listed_names g) → f < k
    → get_or g.names f (record { bytes = []; length = 0 }) ≡ get_or (listed_names g) f no_name
name_there g f q h = head_at (listed_names g) f (name_turn g f q h)

never : {r : Refusal} {g : Group} → ◌≡◌ {A = Grouped} (Err r) (Ok g) → ⊥
never h = let z : ◌≡◌ {A = ℕ} 0 1 = cc in omega arith

-- A product that was accepted has at most eight handles, and as many names.
module _ (len : ℕ) (a b : Group) where
  accepted_short : {g : Group} → joins len a b ≡ Ok g → length (handles a ++ handles b) ≤ 8
  unfolding joins
  accepted_short = by (all_fit len (handles a ++ handles b)) (leb a.count 8) (leb b.count 8) (leb (length (handles a ++ handles b)) 8) refl where
    by : (fit ka kb k : Bool) → leb (length (handles a ++ handles b)) 8 ≡ k → {g : Group}
        → pick {A = Grouped} fit (pick (ka && (kb && (k && leb (elements_of (handles a ++ handles b)) 4294967295))) (Ok (group_of (handles a ++ handles b)))
        (Err (numbered 15 0 0 0))) (Err (numbered 17 0 0 0)) ≡ Ok g
        → length (handles a ++ handles b) ≤ 8
    by fit ka kb true q h = leb-true _ _ q
    by false ka kb false q h = absurd (never h)
    by true false kb false q h = absurd (never h)
    by true true false false q h = absurd (never h)
    by true true true false q h = absurd (never h)

pub names_short : (len : ℕ) (a b : NamedGroup) → length (handles a.group) ≡ length (listed_names a) → length (handles b.group) ≡ length (listed_names b)
    → {x : Grouped} {g : Group} → x ≡ joins len a.group b.group → x ≡ Ok g → length (listed_names a ++ listed_names b) ≤ 8
names_short len a b p q e h =
    let k : length (handles a.group ++ handles b.group) ≤ 8 = accepted_short len a.group b.group (sym e ∙ h) in
    omega (arith, k, p, q, length-append (handles a.group) (handles b.group), length-append (listed_names a) (listed_names b))

-- Eight names by their places.
pub eight_by : (l : List Name) → length l ≤ 8 → {a b c d e f g h : Name} → a ≡ get_or l 0 no_name → b ≡ get_or l 1 no_name → c ≡ get_or l 2 no_name → d ≡ get_or l 3 no_name
    → e ≡ get_or l 4 no_name → f ≡ get_or l 5 no_name → g ≡ get_or l 6 no_name → h ≡ get_or l 7 no_name → a ∷ b ∷ c ∷ d ∷ e ∷ f ∷ g ∷ h ∷ [] ≡ eight_names l
eight_by l z p₀ p₁ p₂ p₃ p₄ p₅ p₆ p₇ = rw (p₀, p₁, p₂, p₃, p₄, p₅, p₆, p₇, eight no_name l z)
