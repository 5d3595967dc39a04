-- The exchange condition: if a generator at its end makes an element shorter, then this is the same as striking out one letter of its word.
use mathlib.Core.Path.{◌≡◌, refl, sym, ap, ◌∙◌}
use mathlib.Core.Bool.{Bool, true, false, not, true≢false, false≢true}
use mathlib.Core.List.{List, [], ◌∷◌, ◌++◌}
use Prim.Native.Nat.{ℕ, suc, ◌<◌}
use native.Mathlib.Omega.{arith}
use lib.ListN.{length, length-append}
use Rattle.theory.specs.Words.{Word, empty, letter}
use Rattle.theory.specs.AnyGroup.{GroupOver, word_product}
use Rattle.theory.proofs.Walking.{word_append, word_left, word_right}
use Rattle.theory.proofs.Parity.{equiv_parity}
use Rattle.theory.proofs.Universal.{product_append}
use Rattle.theory_coxeter.specs.Coxeter.{Presents, ShortestWords, Descent, Struck}
use Rattle.theory_coxeter.proofs.Algebra.{undo, product_one, involution}
use Rattle.theory_coxeter.proofs.Flipping.{mark, mark_yes, toggle}
use Rattle.theory_coxeter.proofs.Sides.{side, side_append, equiv_side}

-- A walk that turns the bit of t over goes somewhere from some p to t·p.
pub record Meets {A : Type 0} (G : GroupOver A) (gen : ℕ → A) (t p : A) (w : List ℕ) : Type 0 where
  pub before : List ℕ
  pub letter : ℕ
  pub after : List ℕ
  pub is : w ≡ before ++ letter ∷ after
  pub here : G.op t (G.op p (word_product G gen before)) ≡ G.op (G.op p (word_product G gen before)) (gen letter)

module _ {A : Type 0} (G : GroupOver A) (gen : ℕ → A) (alike : (a b : A) → Dec (a ≡ b)) where
  not_self : (b : Bool) → ¬ (b ≡ not b)
  not_self true e = true≢false e
  not_self false e = false≢true e

  meets : (t p : A) (w : List ℕ) (b : Bool) → side G gen alike t p w b ≡ not b → Meets G gen t p w
  meets t p [] b e = absurd (not_self b e)
  meets t p (g ∷ w) b e = by (alike (G.op t p) (G.op p (gen g))) (meets t (G.op p (gen g)) w b) e where
    by : (d : Dec (G.op t p ≡ G.op p (gen g)))
        → (side G gen alike t (G.op p (gen g)) w b ≡ not b → Meets G gen t (G.op p (gen g)) w)
        → side G gen alike t (G.op p (gen g)) w (toggle (mark d) b) ≡ not b → Meets G gen t p (g ∷ w)
    by (yes h) rest e = record { before = []; letter = g; after = w; is = refl; here = cc (G.right_unit p) }
    by (no h) rest e =
        let M = rest e in
        record { before = g ∷ M.before; letter = M.letter; after = M.after; is = ap (λ (u : List ℕ). g ∷ u) M.is; here = cc (M.here, G.assoc p (gen g) (word_product G gen M.before)) }

  module _ {n : ℕ} {m : ℕ → ℕ → ℕ} (P : Presents G gen n m) where
    -- Words of one element turn the bit over alike.
    pub side_same : (t : A) {u v : List ℕ} → Word n u → Word n v → word_product G gen u ≡ word_product G gen v
        → side G gen alike t G.unit u false ≡ side G gen alike t G.unit v false
    side_same t hu hv e = equiv_side G gen alike t P G.unit false (P.faithful hu hv e)

    -- Where the bit of t is turned over, t from the left strikes out a letter.
    pub struck_left : (t : A) (w : List ℕ) → Word n w → side G gen alike t G.unit w false ≡ true → Struck G gen w (G.op t (word_product G gen w))
    struck_left t w hw e =
        let M = meets t G.unit w false e in
        record { before = M.before; letter = M.letter; after = M.after; is = M.is; left = gone M.before M.letter M.after (rw M.is at hw) M.is M.here } where
          gone : (u : List ℕ) (g : ℕ) (v : List ℕ) → Word n (u ++ g ∷ v) → w ≡ u ++ g ∷ v
              → G.op t (G.op G.unit (word_product G gen u)) ≡ G.op (G.op G.unit (word_product G gen u)) (gen g)
              → G.op t (word_product G gen w) ≡ word_product G gen (u ++ v)
          gone u g v hu is e =
              let a = word_product G gen u in
              let c = word_product G gen v in
              let k = undo G a (gen g) (involution G gen P (first (word_right u (g ∷ v) hu))) in
              cc (ap (word_product G gen) is, product_append G gen u (g ∷ v), product_append G gen u v, G.left_unit a, G.assoc t a (G.op (gen g) c), G.assoc (G.op a (gen g)) (gen g) c)
            where
              first : {g : ℕ} {v : List ℕ} → Word n (g ∷ v) → g < n
              first (letter h w) = h

    module _ {word : A → List ℕ} (S : ShortestWords G gen n word) where
      abbrev len : A → ℕ
      len a = length (word a)

      -- A struck word is shorter.
      pub struck_shorter : (w : List ℕ) (x : A) → Word n w → Struck G gen w x → len x < length w
      struck_shorter w x hw K =
          let u = K.before in
          let v = K.after in
          let hu = rw K.is at hw in
          let l = S.least (word_append (word_left u (K.letter ∷ v) hu) (rest (word_right u (K.letter ∷ v) hu))) in
          omega (arith, l, length-append u v, length-append u (K.letter ∷ v), ap len K.left, ap {B = ℕ} length K.is) where
            rest : {g : ℕ} {v : List ℕ} → Word n (g ∷ v) → Word n v
            rest (letter h w) = w

      longer : (x : A) {g : ℕ} → g < n → Word n (word x ++ g ∷ [])
      longer x h = word_append (S.over x) (letter h empty)

      product_longer : (x : A) (g : ℕ) → word_product G gen (word x ++ g ∷ []) ≡ G.op x (gen g)
      product_longer x g = product_one G gen (word x) g ∙ ap (λ y. G.op y (gen g)) (S.spells x)

      -- One letter makes an element one longer or one shorter.
      pub ascends : (x : A) (g : ℕ) → g < n → ¬ Descent G gen word x g → len (G.op x (gen g)) ≡ suc (len x)
      ascends x g hg h =
          let v = longer x hg in
          omega (
            arith,
            h,
            length-append (word x) (g ∷ []),
            rw (product_longer x g) at (S.least v),
            equiv_parity (P.faithful (S.over (G.op x (gen g))) v (S.spells (G.op x (gen g)) ∙ sym (product_longer x g))),
          )

      -- Where the generator g makes x shorter, every word of x turns over the bit of the element that does the same from the left.
      pub descent_side : (x t : A) (g : ℕ) (w : List ℕ) → g < n → Word n w → word_product G gen w ≡ x → G.op t x ≡ G.op x (gen g) → Descent G gen word x g
          → side G gen alike t G.unit w false ≡ true
      descent_side x t g w hg hw is e d =
          side_same t hw (longer y hg) (is ∙ sym (product_longer y g ∙ undo G x (gen g) (involution G gen P hg)))
          ∙ side_append G gen alike t G.unit (word y) (g ∷ []) false
          ∙ ap (λ c. toggle c (side G gen alike t G.unit (word y) false)) (mark_yes (alike (G.op t q) (G.op q (gen g))) (cc (G.left_unit (word_product G gen (word y)), S.spells y, G.assoc t x (gen g))))
          ∙ other (side G gen alike t G.unit (word y) false) refl where
            y : A
            y = G.op x (gen g)

            q : A
            q = G.op G.unit (word_product G gen (word y))

            other : (b : Bool) → side G gen alike t G.unit (word y) false ≡ b → not b ≡ true
            other true h =
                let k : G.op t (word_product G gen (word y)) ≡ x = cc (S.spells y, G.assoc t x (gen g), undo G x (gen g) (involution G gen P hg)) in
                absurd (omega (arith, d, rw k at (struck_shorter (word y) (G.op t (word_product G gen (word y))) (S.over y) (struck_left t (word y) (S.over y) h))))
            other false h = refl

      -- The exchange condition.
      pub exchange : (w : List ℕ) (g : ℕ) → g < n → Word n w → Descent G gen word (word_product G gen w) g → Struck G gen w (G.op (word_product G gen w) (gen g))
      exchange w g hg hw d =
          let x = word_product G gen w in
          let t = G.op (G.op x (gen g)) (G.inv x) in
          let q : G.op t x ≡ G.op x (gen g) = cc (G.assoc (G.op x (gen g)) (G.inv x) x, G.left_inverse x, G.right_unit (G.op x (gen g))) in
          rw q at (struck_left t w hw (descent_side x t g w hg hw refl q d))
