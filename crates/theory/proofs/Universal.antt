-- The textbook's other account of a group that relations present: it goes over, in one way only, into every group in which the relations hold.
use mathlib.Core.Path.{◌≡◌, refl, sym, ◌∙◌}
use mathlib.Core.List.{List, [], ◌∷◌, ◌++◌}
use Prim.Native.Nat.{ℕ, ◌<◌}
use Rattle.theory.specs.Table.{Table}
use Rattle.theory.specs.Words.{Word, empty, letter, walk, Spelled}
use Rattle.theory.specs.AnyGroup.{GroupOver, word_product}
use Rattle.theory.specs.Regular.{compose}
use Rattle.theory.specs.Presentation.{Relator, Equiv, insert, same, turn, join, Derived}
use Rattle.theory.proofs.Presented.{derived_walk}

module _ {A : Type 0} (G : GroupOver A) (gen : ℕ → A) where
  pub product_append : (u v : List ℕ) → word_product G gen (u ++ v) ≡ G.op (word_product G gen u) (word_product G gen v)
  product_append [] v = sym (G.left_unit (word_product G gen v))
  product_append (g ∷ u) v = cc (product_append u v, G.assoc (gen g) (word_product G gen u) (word_product G gen v))

  module _ {n : ℕ} {m : ℕ → ℕ → ℕ} (holds : (r : List ℕ) → Relator n m r → word_product G gen r ≡ G.unit) where
    -- Words that are equal under the relations multiply to one element wherever the relations hold.
    pub equiv_product : {u v : List ℕ} → Equiv n m u v → word_product G gen u ≡ word_product G gen v
    equiv_product (insert u {r} v h) = simp (product_append, holds r h, G.right_unit)
    equiv_product same = refl
    equiv_product (turn h) = sym (equiv_product h)
    equiv_product (join h k) = equiv_product h ∙ equiv_product k

    module _ {N : ℕ} {step : ℕ → ℕ → ℕ} {word : ℕ → List ℕ} (T : Table n N step) (S : Spelled n N step word) (D : Derived n N m step word) where
      -- The map: each element goes to what its word multiplies to. The identity goes to the identity, a step to a factor, a product to the product.
      pub map_unit : word_product G gen (word 0) ≡ G.unit
      map_unit = rw S.start

      pub map_step : {e g : ℕ} → e < N → g < n → word_product G gen (word (step e g)) ≡ G.op (word_product G gen (word e)) (gen g)
      map_step {e} {g} he hg = cc (equiv_product (D.derived he hg), product_append (word e) (g ∷ []), G.right_unit (gen g))

      pub map_compose : {a b : ℕ} → a < N → b < N
          → word_product G gen (word (compose step word a b)) ≡ G.op (word_product G gen (word a)) (word_product G gen (word b))
      map_compose {a} {b} ha hb = sym (equiv_product (derived_walk T D ha (S.over hb))) ∙ product_append (word a) (word b)

      -- No other map does it.
      pub map_only : (f : ℕ → A) → f 0 ≡ G.unit → ((e g : ℕ) → e < N → g < n → f (step e g) ≡ G.op (f e) (gen g))
          → {e : ℕ} → e < N → f e ≡ word_product G gen (word e)
      map_only f unit steps {e} he = cc (along (S.over he) T.origin, S.spells he, unit, G.left_unit (word_product G gen (word e))) where
        along : {x : ℕ} {w : List ℕ} → Word n w → x < N → f (walk step x w) ≡ G.op (f x) (word_product G gen w)
        along {x} empty hx = sym (G.right_unit (f x))
        along {x} (letter {g} {w} hg hw) hx = cc (along {x = step x g} hw (T.closed hx hg), steps x g hx hg, G.assoc (f x) (gen g) (word_product G gen w))
