-- The words of a product: the factors' words, one after the other, and as short as can be if those are.
use mathlib.Core.Path.{◌≡◌, refl, sym, ◌∙◌, ap, ap₂}
use mathlib.Core.List.{List, [], ◌∷◌, ◌++◌}
use Prim.Native.Nat.{ℕ, suc, ◌+◌, ◌*◌, ◌/◌, ◌%◌, ◌<◌, ◌≤◌}
use native.Mathlib.Nat.{mod-add-div, zero-mod, zero-div, zero-add, add_assoc}
use native.Mathlib.Omega.{arith}
use lib.ListN.{length, length-append}
use Rattle.theory.specs.Words.{Word, empty, letter, walk}
use Rattle.theory.specs.Group.{GroupOn, RightSteps}
use Rattle.theory.proofs.Exact.{unique}
use Rattle.theory.proofs.Walking.{walk_closed}
use Rattle.theory.proofs.Complete.{right_table}
use Rattle.theory_products.specs.Product.{Part, trivial, shift, pair, product, Each, Stepped, Worded, Shortest}
use Rattle.theory_radix.proofs.RadixLaws.{low, high, joined_small, low_small, high_small}
use Rattle.theory_products.proofs.ProductLaws.{product_has}
use Rattle.theory_products.proofs.StepLaws.{WhichFactor, left, right, side, step_left, step_right, pair_stepped, trivial_stepped}

-- The word w has the letters u of the first factor and the letters v of the second, each in their order.
data Shuffle (n m : ℕ) : List ℕ → List ℕ → List ℕ → Type 0 where
  nil : Shuffle n m [] [] []
  first : {g : ℕ} {w u v : List ℕ} → g < n → Shuffle n m w u v → Shuffle n m (g ∷ w) (g ∷ u) v
  second : {g : ℕ} {w u v : List ℕ} → g < m → Shuffle n m w u v → Shuffle n m ((n + g) ∷ w) u (g ∷ v)

-- Every word is one, and so are two words one after the other.
abbrev Sifted : ℕ → ℕ → List ℕ → Type 0
Sifted n m w = (u : List ℕ) × (v : List ℕ) × Shuffle n m w u v

sift_letter : {n m G : ℕ} {w : List ℕ} → WhichFactor n m G → Sifted n m w → Sifted n m (G ∷ w)
sift_letter {G = G} (left h) (u, v, s) = (G ∷ u, v, first h s)
sift_letter (right g h z) (u, v, s) = (u, g ∷ v, rw z (second h s))

sift : {n m : ℕ} {w : List ℕ} → Word (n + m) w → Sifted n m w
sift empty = ([], [], nil)
sift {n} {m} (letter {g} h w) = sift_letter (side n m g h) (sift w)

after : {n m : ℕ} {v : List ℕ} → Word m v → Shuffle n m (shift n v) [] v
after empty = nil
after (letter h v) = second h (after v)

one_after_other : {n m : ℕ} {u v : List ℕ} → Word n u → Word m v → Shuffle n m (u ++ shift n v) u v
one_after_other empty v = after v
one_after_other (letter h u) v = first h (one_after_other u v)

module _ {n m : ℕ} where
  whole : {w u v : List ℕ} → Shuffle n m w u v → Word (n + m) w
  whole nil = empty
  whole (first {g} h s) = letter {g = g} (omega arith) (whole s)
  whole (second {g} h s) = letter {g = n + g} (omega arith) (whole s)

  firsts : {w u v : List ℕ} → Shuffle n m w u v → Word n u
  firsts nil = empty
  firsts (first h s) = letter h (firsts s)
  firsts (second h s) = firsts s

  seconds : {w u v : List ℕ} → Shuffle n m w u v → Word m v
  seconds nil = empty
  seconds (first h s) = seconds s
  seconds (second h s) = letter h (seconds s)

  lengths : {w u v : List ℕ} → Shuffle n m w u v → length w ≡ length u + length v
  lengths nil = refl
  lengths (first h s) = omega (arith, lengths s)
  lengths (second h s) = omega (arith, lengths s)

-- A walk in a pair is a walk in each factor.
module _ (p q : Part) (P : Stepped p) (Q : Stepped q) where
  walk_parts : {w u v : List ℕ} → Shuffle p.generators q.generators w u v → (e : ℕ) → e < p.elements * q.elements
      → walk (pair p q).step e w ≡ walk p.step (e % p.elements) u + p.elements * walk q.step (e / p.elements) v
  walk_parts nil e he = sym (mod-add-div e p.elements)
  walk_parts (first {g} h s) e he =
      let x = (right_table P.group.laws P.steps).closed (low_small p.elements q.elements e he) h in
      let y = high_small p.elements q.elements e he in
      rw (step_left p q e h)
      (walk_parts s (p.step (e % p.elements) g + p.elements * (e / p.elements)) (joined_small x (e / p.elements) y) ∙ rw (low x, high x))
  walk_parts (second {g} h s) e he =
      let x = low_small p.elements q.elements e he in
      let y = (right_table Q.group.laws Q.steps).closed (high_small p.elements q.elements e he) h in
      let z = q.step (e / p.elements) g in
      rw (step_right p q e g) (walk_parts s (e % p.elements + p.elements * z) (joined_small x z y) ∙ rw (low x, high x))

module _ (p q : Part) (P : Worded p) (Q : Worded q) where
  -- The recorded word of a pair.
  recorded : (e : ℕ) → e < p.elements * q.elements
      → Shuffle p.generators q.generators ((pair p q).word e) (p.word (e % p.elements)) (q.word (e / p.elements))
  recorded e he =
      one_after_other (P.spelled.over (low_small p.elements q.elements e he)) (Q.spelled.over (high_small p.elements q.elements e he))

  pub pair_worded : Worded (pair p q)
  pair_worded = record {
    stepped = pair_stepped p q P.stepped Q.stepped;
    spelled = record {
      start = rw (zero-mod, zero-div, P.spelled.start, Q.spelled.start);
      over = λ {e} he. whole (recorded e he);
      spells = λ {e} he.
          walk_parts p q P.stepped Q.stepped (recorded e he) 0 (pair_stepped p q P.stepped Q.stepped).group.laws.identity
          ∙ rw (
            zero-mod,
            zero-div,
            P.spelled.spells (low_small p.elements q.elements e he),
            Q.spelled.spells (high_small p.elements q.elements e he),
          ) (mod-add-div e p.elements);
    };
  }

trivial_worded : Worded trivial
trivial_worded = record { stepped = trivial_stepped; spelled = record { start = refl; over = λ he. empty; spells = λ he. omega arith } }

pub product_worded : {ps : List Part} → Each Worded ps → Worded (product ps)
product_worded ws = product_has trivial_worded pair_worded ws

-- No other group has the product's right steps.
pub product_only : {ps : List Part} {op' : ℕ → ℕ → ℕ} {inv' : ℕ → ℕ} → Each Worded ps → GroupOn (product ps).elements op' inv'
    → RightSteps (product ps).generators (product ps).elements (product ps).step op'
    → {a b : ℕ} → a < (product ps).elements → b < (product ps).elements → op' a b ≡ (product ps).op a b
product_only ws G' R' ha hb =
    let W = product_worded ws in
    unique W.spelled G' R' W.stepped.group.laws W.stepped.steps ha hb

pub shift_length : (n : ℕ) (w : List ℕ) → length (shift n w) ≡ length w
shift_length n [] = refl
shift_length n (g ∷ w) = ap suc (shift_length n w)

-- Where the factors' words are the shortest, the pair's are.
module _ (p q : Part) (P : Shortest p) (Q : Shortest q) where
  no_shorter : {e : ℕ} {w : List ℕ} → Sifted p.generators q.generators w → walk (pair p q).step 0 w ≡ e → length ((pair p q).word e) ≤ length w
  no_shorter {e} {w} (u, v, s) z =
      let S = P.worded.stepped in
      let T = Q.worded.stepped in
      let N = p.elements in
      let x = walk_closed (right_table S.group.laws S.steps) S.group.laws.identity (firsts s) in
      let k : e ≡ walk p.step 0 u + N * walk q.step 0 v =
      sym z ∙ walk_parts p q S T s 0 (pair_stepped p q S T).group.laws.identity ∙ rw (zero-mod, zero-div) in
      let a : walk p.step 0 u ≡ e % N = sym (ap (λ i. i % N) k ∙ low x _) in
      let b : walk q.step 0 v ≡ e / N = sym (ap (λ i. i / N) k ∙ high x _) in
      omega (
        arith,
        length-append (p.word (e % N)) (shift p.generators (q.word (e / N))),
        shift_length p.generators (q.word (e / N)),
        lengths s,
        P.shortest (firsts s) a,
        Q.shortest (seconds s) b,
      )

  pub pair_shortest : Shortest (pair p q)
  pair_shortest = record { worded = pair_worded p q P.worded Q.worded; shortest = λ w z. no_shorter (sift w) z }

trivial_shortest : Shortest trivial
trivial_shortest = record { worded = trivial_worded; shortest = λ w z. omega arith }

pub product_shortest : {ps : List Part} → Each Shortest ps → Shortest (product ps)
product_shortest ss = product_has trivial_shortest pair_shortest ss

-- The word of an element of a product is the concatenation of its digits' words, each by its offset.
pub shift_shift : (o n : ℕ) (w : List ℕ) → shift o (shift n w) ≡ shift (o + n) w
shift_shift o n [] = refl
shift_shift o n (g ∷ w) = ap₂ {C = List ℕ} (λ h r. h ∷ r) (sym (add_assoc o n g)) (shift_shift o n w)

pub shift_append : (o : ℕ) (u v : List ℕ) → shift o (u ++ v) ≡ shift o u ++ shift o v
shift_append o [] v = refl
shift_append o (g ∷ u) v = ap (λ r. (o + g) ∷ r) (shift_append o u v)

pub shift_zero : (w : List ℕ) → shift 0 w ≡ w
shift_zero [] = refl
shift_zero (g ∷ w) = ap₂ {C = List ℕ} (λ h r. h ∷ r) (zero-add g) (shift_zero w)
