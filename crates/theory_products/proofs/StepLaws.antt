-- The generators of a product: those of its factors, one after the other.
use mathlib.Core.Path.{◌≡◌, sym, ◌∙◌}
use mathlib.Core.List.{List, [], ◌∷◌}
use Prim.Native.Nat.{ℕ, zero, suc, ◌+◌, ◌*◌, ◌-◌, ◌/◌, ◌%◌, ◌<◌}
use native.Mathlib.Nat.{zero-mod, zero-div, zero-add, add_assoc, add-sub_cancel_left, le-add_right}
use native.Mathlib.Omega.{arith}
use native.Mathlib.Decide.{dec_lt}
use lib.ListN.{length, get_or, set}
use borrow.Author.Tests.{lt-ltb, le-ltb}
use Rattle.theory_radix.specs.Radix.{count, split, join, project, replace}
use Rattle.theory_products.specs.Product.{Part, trivial, pair, product, digit_ranges, factor, offset, Each, Stepped}
use Rattle.theory_radix.proofs.RadixLaws.{low, high, joined_small, low_small, high_small, join_split, replace_is, project_is}
use Rattle.theory_products.proofs.ProductLaws.{product_has, trivial_group, pair_group, product_count, ranges_length}

-- A generator of a pair is one of the first, or the g-th of the second.
pub data WhichFactor (n m G : ℕ) : Type 0 where
  left : G < n → WhichFactor n m G
  right : (g : ℕ) → g < m → G ≡ n + g → WhichFactor n m G

pub side : (n m G : ℕ) → G < n + m → WhichFactor n m G
side n m G h = go (dec_lt G n) where
  go : Dec (G < n) → WhichFactor n m G
  go (yes k) = left k
  go (no k) = right (G - n) (omega arith) (omega arith)

module _ (p q : Part) (e : ℕ) where
  pub step_left : {g : ℕ} → g < p.generators → (pair p q).step e g ≡ p.step (e % p.elements) g + p.elements * (e / p.elements)
  step_left {g} h = rw (lt-ltb g p.generators h)

  pub step_right : (g : ℕ) → (pair p q).step e (p.generators + g) ≡ e % p.elements + p.elements * q.step (e / p.elements) g
  step_right g = rw (le-ltb (p.generators + g) p.generators (le-add_right p.generators g), add-sub_cancel_left)

module _ (p q : Part) where
  pub element_left : {g : ℕ} → g < p.generators → (pair p q).step 0 g ≡ p.step 0 g + p.elements * 0
  element_left h = step_left p q 0 h ∙ rw (zero-mod, zero-div)

  pub element_right : (g : ℕ) → (pair p q).step 0 (p.generators + g) ≡ 0 + p.elements * q.step 0 g
  element_right g = step_right p q 0 g ∙ rw (zero-mod, zero-div)

-- The steps of a pair are multiplication on the right by the elements of the generators.
module _ (p q : Part) (P : Stepped p) (Q : Stepped q) where
  element : (G : ℕ) → WhichFactor p.generators q.generators G → (pair p q).step 0 G < p.elements * q.elements
  element G (left h) = rw (element_left p q h) (joined_small (P.steps.element h) 0 Q.group.laws.identity)
  element G (right g h z) = rw (z, element_right p q g) (joined_small P.group.laws.identity (q.step 0 g) (Q.steps.element h))

  step_is : (e G : ℕ) → e < p.elements * q.elements → WhichFactor p.generators q.generators G → (pair p q).step e G ≡ (pair p q).op e ((pair p q).step 0 G)
  step_is e G he (left h) =
      let l = low_small p.elements q.elements e he in
      let k = high_small p.elements q.elements e he in
      rw (element_left p q h, step_left p q e h, low (P.steps.element h), high (P.steps.element h), P.steps.step_is l h, Q.group.laws.right_identity k)
  step_is e G he (right g h z) =
      let l = low_small p.elements q.elements e he in
      let k = high_small p.elements q.elements e he in
      let o = P.group.laws.identity in
      rw (z, element_right p q g, step_right p q e g, low o, high o, Q.steps.step_is k h, P.group.laws.right_identity l)

  pub pair_stepped : Stepped (pair p q)
  pair_stepped = record {
    group = pair_group p q P.group Q.group;
    steps = record {
      element = λ {g} h. element g (side p.generators q.generators g h);
      step_is = λ {e} {g} he h. step_is e g he (side p.generators q.generators g h);
    };
  }

pub trivial_stepped : Stepped trivial
trivial_stepped = record { group = trivial_group; steps = record { element = λ h. absurd (omega arith); step_is = λ he h. absurd (omega arith) } }

-- So are the steps of every product.
pub product_stepped : {ps : List Part} → Each Stepped ps → Stepped (product ps)
product_stepped ss = product_has trivial_stepped pair_stepped ss

-- A step by the generator g of the factor f puts that factor's step in place of the digit f.
step_joins : (ps : List Part) (f g e : ℕ) → f < length ps → g < (factor ps f).generators → e < count (digit_ranges ps)
    → (product ps).step e (offset ps f + g) ≡ join (digit_ranges ps) (set (split (digit_ranges ps) e) f ((factor ps f).step (get_or (split (digit_ranges ps) e) f 0) g))
step_joins [] f g e h hg he = absurd (omega arith)
step_joins (p ∷ ps) zero g e h hg he =
    rw (zero-add, join_split (digit_ranges ps) (e / p.elements) (high_small p.elements (count (digit_ranges ps)) e he)) (step_left p (product ps) e hg)
step_joins (p ∷ ps) (suc f) g e h hg he =
    rw (add_assoc, ← step_joins ps f g (e / p.elements) (omega arith) hg (high_small p.elements (count (digit_ranges ps)) e he))
    (step_right p (product ps) e (offset ps f + g))

pub step_replaces : (ps : List Part) (f g e : ℕ) → f < length ps → g < (factor ps f).generators → e < (product ps).elements
    → (product ps).step e (offset ps f + g) ≡ replace (digit_ranges ps) f e ((factor ps f).step (project (digit_ranges ps) f e) g)
step_replaces ps f g e h hg he =
    let k : e < count (digit_ranges ps) = rw (← product_count ps) he in
    let l : f < length (digit_ranges ps) = rw (ranges_length ps) h in
    step_joins ps f g e h hg k ∙ rw (← project_is (digit_ranges ps) f e) (sym (replace_is (digit_ranges ps) f e ((factor ps f).step (project (digit_ranges ps) f e) g) l k))
