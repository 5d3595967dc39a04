-- Groups that are presented by involutions and the orders of their products in pairs (Coxeter groups), on any carrier; shortest words in them, and descents. "The
-- meaning of a group, and of a group given by generators and relations, is the textbook one (Coxeter and Moser)"; the exchange condition is that of Bourbaki, Groupes et
-- algèbres de Lie, chapter IV, 1.
use Rattle.std.specs.Prelude.{◌≡◌, List, [], ◌∷◌, ◌++◌, ℕ, zero, suc, ◌<◌, ◌≤◌, length}
use Rattle.theory.specs.Words.{Word}
use Rattle.theory.specs.AnyGroup.{GroupOver, word_product}
use Rattle.theory.specs.Presentation.{Relator, Equiv}

-- i j i .. , k letters in turn.
abbrev pub turns : ℕ → ℕ → ℕ → List ℕ
turns i j zero = []
turns i j (suc k) = i ∷ turns j i k

-- a·a·..·a, k times.
abbrev pub times : {A : Type 0} → GroupOver A → A → ℕ → A
times G a zero = G.unit
times G a (suc k) = G.op a (times G a k)

-- The group is the one that the orders present: every relator multiplies to the identity, and words that multiply to one element are equal under the relations. That
-- every element is a word's product is said apart, by `ShortestWords` or `PresentedGroup`.
pub record Presents {A : Type 0} (G : GroupOver A) (gen : ℕ → A) (n : ℕ) (m : ℕ → ℕ → ℕ) : Type 0 where
  pub holds : {r : List ℕ} → Relator n m r → word_product G gen r ≡ G.unit
  pub faithful : {u v : List ℕ} → Word n u → Word n v → word_product G gen u ≡ word_product G gen v → Equiv n m u v

-- The orders are exact, as "the orders of their products" means them: no smaller power of a product of two generators is the identity.
pub record ExactOrders {A : Type 0} (G : GroupOver A) (gen : ℕ → A) (n : ℕ) (m : ℕ → ℕ → ℕ) : Type 0 where
  pub positive : {i j : ℕ} → i < j → j < n → 0 < m i j
  pub exact : {i j k : ℕ} → i < j → j < n → 0 < k → k < m i j → ¬ (times G (G.op (gen i) (gen j)) k ≡ G.unit)

-- Each element has a word that multiplies to it, and no word that does so is shorter: the length of an element is that of its word.
pub record ShortestWords {A : Type 0} (G : GroupOver A) (gen : ℕ → A) (n : ℕ) (word : A → List ℕ) : Type 0 where
  pub over : (a : A) → Word n (word a)
  pub spells : (a : A) → word_product G gen (word a) ≡ a
  pub least : {u : List ℕ} → Word n u → length (word (word_product G gen u)) ≤ length u

-- The generator g is a (right) descent of a: it leads from a to a shorter element.
abbrev pub Descent : {A : Type 0} → GroupOver A → (ℕ → A) → (A → List ℕ) → A → ℕ → Type 0
Descent G gen word a g = length (word (G.op a (gen g))) < length (word a)

-- One letter of w can be struck out, and what is left multiplies to x: the conclusion of the exchange condition.
pub record Struck {A : Type 0} (G : GroupOver A) (gen : ℕ → A) (w : List ℕ) (x : A) : Type 0 where
  pub before : List ℕ
  pub letter : ℕ
  pub after : List ℕ
  pub is : w ≡ before ++ letter ∷ after
  pub left : x ≡ word_product G gen (before ++ after)
