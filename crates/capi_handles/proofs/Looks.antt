-- The handles of a product that stand in a list, one by one: for a pass over them that makes no product.
use Prim.Native.Nat.{ℕ, zero, suc, ◌+◌, ◌*◌, ◌≤◌, ◌<◌}
use mathlib.Core.Path.{◌≡◌, refl, ap, ◌∙◌}
use mathlib.Core.Bool.{true}
use mathlib.Core.List.{List, [], ◌∷◌}
use native.Mathlib.Omega.{arith}
use lib.ListN.{length, get_or, drop}
use Rattle.egg.specs.declared.Factor.{Factor}
use Rattle.build_lending.specs.Lending.{no_factor}
use Rattle.group_handles.specs.Handles.{handles, limited}
use Rattle.group_handles.proofs.Admitted.{few_factors_lem}
use Rattle.group_handles.proofs.Lists.{listed_many, listed_few, turn_at}
use Rattle.capi_handles.specs.Product.{handle_at, product_at, product_of}

module _ (l : List ℕ) (at count : ℕ) where
  pub told_many : 8 < count → 8 ≡ length (handles (product_at l at count))
  unfolding product_at
  told_many h = listed_many (product_at l at count) refl h

  pub told_few : count ≤ 8 → count ≡ length (handles (product_at l at count))
  unfolding product_at
  told_few h = listed_few (product_at l at count) refl h

  pub told_within : limited (product_at l at count) ≡ true → count ≤ 8
  unfolding product_at
  told_within h = few_factors_lem (product_at l at count) h

  told_at : (f : ℕ) → f < 8 → get_or (product_at l at count).factors f no_factor ≡ handle_at l (at + f * 5)
  unfolding product_at
  told_at zero h = let z : at + 0 ≡ at = omega arith in rw z
  told_at (suc zero) h = refl
  told_at (suc (suc zero)) h = refl
  told_at (suc (suc (suc zero))) h = refl
  told_at (suc (suc (suc (suc zero)))) h = refl
  told_at (suc (suc (suc (suc (suc zero))))) h = refl
  told_at (suc (suc (suc (suc (suc (suc zero)))))) h = refl
  told_at (suc (suc (suc (suc (suc (suc (suc zero))))))) h = refl
  told_at (suc (suc (suc (suc (suc (suc (suc (suc f)))))))) h = absurd (omega arith)

  pub told_turn : (f : ℕ) {k : ℕ} → k ≡ length (handles (product_at l at count)) → f < k → k ≤ 8
      → drop f (handles (product_at l at count)) ≡ handle_at l (at + f * 5) ∷ drop (f + 1) (handles (product_at l at count))
  told_turn f p h b =
      let e : f < 8 = omega arith in
      turn_at (product_at l at count) f p h ∙ rw (told_at f e)

-- A turn of the pass over the handles of a product that stand in a list.
pub turn_told : (l : List ℕ) (at count f : ℕ) {k : ℕ} {h : Factor} → k ≡ length (handles (product_at l at count)) → f < k → k ≤ 8 → h ≡ handle_at l (at + f * 5)
    → drop f (handles (product_at l at count)) ≡ h ∷ drop (f + 1) (handles (product_at l at count))
turn_told l at count f p q b e = told_turn l at count f p q b ∙ rw e

-- The same of the list from its start on.
pub turn_first : (l : List ℕ) (count f : ℕ) {k : ℕ} {h : Factor} → k ≡ length (handles (product_of l count)) → f < k → k ≤ 8 → h ≡ handle_at l (f * 5)
    → drop f (handles (product_of l count)) ≡ h ∷ drop (f + 1) (handles (product_of l count))
turn_first l count f p q b e = let z : f * 5 ≡ 0 + f * 5 = omega arith in turn_told l 0 count f p q b (e ∙ ap (handle_at l) z)

-- What stands at a place of the list.
pub placed : (hs : List Factor) (f : ℕ) {h : Factor} {rest : List Factor} → drop f hs ≡ h ∷ rest → (f < length hs) × (h ≡ get_or hs f no_factor)
placed [] zero d = absurd (let z : ◌≡◌ {A = ℕ} 0 1 = cc in omega arith)
placed [] (suc f) d = absurd (let z : ◌≡◌ {A = ℕ} 0 1 = cc in omega arith)
placed (x ∷ hs) zero d = (omega arith, cc)
placed (x ∷ hs) (suc f) d = let (p, q) = placed hs f d in (omega arith, q)
