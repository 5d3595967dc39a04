-- What the lent lists hold after a subgroup was made; what the numbers of a subgroup show.
use Prim.Native.Nat.{ℕ, ◌≤◌, ◌<◌}
use mathlib.Core.Path.{◌≡◌, refl, ap, ◌∙◌, subst}
use mathlib.Core.Bool.{Bool}
use mathlib.Core.List.{List, [], ◌∷◌}
use native.Mathlib.Omega.{arith}
use lib.ListN.{get_or}
use Rattle.std.specs.Prelude.{Ok, Err}
use Rattle.egg.specs.Answers.{answer_of}
use Rattle.egg.specs.declared.Factor.{Factor}
use Rattle.egg.specs.declared.Refusal.{Refusal}
use Rattle.egg.specs.Factor.{fits_in, verdict_paper}
use Rattle.egg.specs.Table.{put_at}
use Rattle.capi_values.specs.Bridge.{made_into, telling}
use Rattle.capi_values.proofs.Laws.{told}
use Rattle.subgroup_build.specs.declared.Subgroup.{Subgroup}
use Rattle.subgroup_build.specs.Answers.{Subgrouped}
use Rattle.subgroup_build.specs.Lent.{Subgrouping, subgrouping}
use Rattle.subgroup.specs.declared.inner.Outline.{Outline}
use Rattle.subgroup_sides.specs.Sides.{few_factors, few_of}
use Rattle.subgroup.specs.Outline.{outline_of, outline_by}
use Rattle.subgroup_sides.proofs.Few.{few_counts}
use Rattle.subgroup.proofs.Outlines.{outline_is}
use Rattle.group_handles.specs.declared.inner.Seen.{Seen}
use Rattle.group_handles.specs.Handles.{handles, seen}
use Rattle.capi_handles.specs.Product.{byte_of, handle_at, product_at}
use Rattle.capi_subgroup.specs.Subgroup.{subgroup_from, subgrouped_into, subgroup_told}

pub subgroup_told_lem : {m : Subgrouped} {t w i o : List ℕ} {x : Subgrouping} (out : List ℕ) {r : ℕ} {l : List ℕ} → subgrouping m t w i o ≡ x
    → (r ≡ (verdict_paper (answer_of m)).number) × (l ≡ subgrouped_into m out) → telling r l (t ∷ w ∷ i ∷ o ∷ []) ≡ subgroup_told x out
subgroup_told_lem out e p = told p ∙ ap (λ (y : Subgrouping). subgroup_told y out) e

pub subgrouped_written : (s : Subgroup) (l : List ℕ) {l₁ l₂ : List ℕ} → l₁ ≡ made_into (Ok s.factor) l → l₂ ≡ put_at l₁ 5 s.factor.generators
    → l₂ ≡ subgrouped_into (Ok s) l
unfolding subgrouped_into
subgrouped_written s l p q = q ∙ rw p

pub subgrouped_not : (r : Refusal) (l : List ℕ) {l₁ l₂ : List ℕ} → l₁ ≡ made_into (Err r) l → l₂ ≡ put_at l₁ 5 0 → l₂ ≡ subgrouped_into (Err r) l
unfolding subgrouped_into
subgrouped_not r l p q = q ∙ rw p

-- The outline from the numbers of a subgroup.
few_told : (l : List ℕ) → few_of (byte_of (get_or l 5 0)) (byte_of (get_or l 6 0)) (byte_of (get_or l 7 0)) ≡ few_factors (subgroup_from l)
unfolding subgroup_from product_at
few_told l = few_counts (subgroup_from l) refl refl refl

pub outline_told : (from table : ℕ) (l : List ℕ) {f : Factor} {fits few : Bool} {k m n : ℕ} {low middle high : Seen} → f ≡ handle_at l 0 → fits ≡ fits_in table f
    → k ≡ byte_of (get_or l 5 0) → m ≡ byte_of (get_or l 6 0) → n ≡ byte_of (get_or l 7 0) → low ≡ seen from (handles (product_at l 8 k))
    → middle ≡ seen from (handles (product_at l 48 m)) → high ≡ seen from (handles (product_at l 88 n)) → few ≡ few_of k m n
    → {r : Outline} → r ≡ outline_by fits few f.elements low middle high → r ≡ outline_of from table (subgroup_from l)
unfolding subgroup_from
outline_told from table l p q a b c u v w x e =
    outline_is from table (subgroup_from l) (q ∙ ap (fits_in table) p) (x ∙ rw (a, b, c) (few_told l)) (u ∙ rw a) (v ∙ rw b) (w ∙ rw c) (e ∙ rw p)

pub element_fits : (l : List ℕ) {f : Factor} → f ≡ handle_at l 0 → f.elements < 4294967296 → (subgroup_from l).factor.elements ≤ 4294967296
unfolding subgroup_from
element_fits l {f} p h =
    let z : f.elements ≤ 4294967296 = omega arith in
    subst (λ (x : Factor). x.elements ≤ 4294967296) p z
