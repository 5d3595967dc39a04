-- Words, the walks that they describe, and the words that are recorded for the elements.
use Rattle.std.specs.Prelude.{◌≡◌, List, [], ◌∷◌, ◌++◌, ℕ, zero, suc, ◌<◌}

-- A word over n generators is a list of numbers below n.
pub data Word (n : ℕ) : List ℕ → Type 0 where
  empty : Word n []
  letter : {g : ℕ} {w : List ℕ} → g < n → Word n w → Word n (g ∷ w)

-- Where the word w leads from the element e.
abbrev pub walk : (ℕ → ℕ → ℕ) → ℕ → List ℕ → ℕ
walk step e [] = e
walk step e (g ∷ w) = walk step (step e g) w

-- The element from which the word w leads to e: "the reversed word through predecessors", from its last letter to its first.
abbrev pub retrace : (ℕ → ℕ → ℕ) → ℕ → List ℕ → ℕ
retrace back e [] = e
retrace back e (g ∷ w) = back (retrace back e w) g

-- Each element has a word that leads to it from the identity; that of the identity is empty.
pub record Spelled (n N : ℕ) (step : ℕ → ℕ → ℕ) (word : ℕ → List ℕ) : Type 0 where
  pub start : word 0 ≡ []
  pub over : {e : ℕ} → e < N → Word n (word e)
  pub spells : {e : ℕ} → e < N → walk step 0 (word e) ≡ e

-- Each element e > 0 is reached from an earlier one, its parent, by one generator, the last of its word.
pub record Parents (n N : ℕ) (step : ℕ → ℕ → ℕ) (parent last : ℕ → ℕ) : Type 0 where
  pub earlier : {e : ℕ} → 0 < e → e < N → parent e < e
  pub generator : {e : ℕ} → 0 < e → e < N → last e < n
  pub arrives : {e : ℕ} → 0 < e → e < N → step (parent e) (last e) ≡ e

-- "Each element's word is its parent's word and one generator."
pub record Recorded (N : ℕ) (parent last : ℕ → ℕ) (word : ℕ → List ℕ) : Type 0 where
  pub start : word 0 ≡ []
  pub grow : {e : ℕ} → 0 < e → e < N → word e ≡ word (parent e) ++ last e ∷ []

-- Such words are found by going from parent to parent, here at most k times; e times are enough, since a parent is earlier.
abbrev pub trace : (ℕ → ℕ) → (ℕ → ℕ) → ℕ → ℕ → List ℕ
trace parent last zero e = []
trace parent last (suc k) zero = []
trace parent last (suc k) (suc e) = trace parent last k (parent (suc e)) ++ last (suc e) ∷ []

-- The word of e by its parents and last generators.
abbrev pub word_of_lem : (ℕ → ℕ) → (ℕ → ℕ) → ℕ → List ℕ
word_of_lem parent last e = trace parent last e e
