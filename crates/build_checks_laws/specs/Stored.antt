-- What it is for a list of numbers to hold a table, and to be kept but for what is filled in at the end of a build.
use Rattle.std.specs.Prelude.{ℕ, suc, ◌+◌, ◌*◌, ◌<◌, ◌≡◌, List, length, get_or}
use Rattle.egg.specs.Table.{start_of, parent_of, last_of, length_of, step_of, back_of}
use Rattle.theory.specs.Words.{word_of_lem}

-- The first N rows of t hold these steps and steps back, none of them missing, and for each element the parent, last generator and length of its
-- recorded word. Document 01: "parent, last generator and length per element". Nothing is said of the inverses, nor of the identity's parent.
pub record StoredTable (t : List ℕ) (n N : ℕ) (step back : ℕ → ℕ → ℕ) (parent last : ℕ → ℕ) (word : ℕ → List ℕ) : Type 0 where
  pub successor : {e g : ℕ} → e < N → g < n → get_or t (start_of n e + g) 0 ≡ suc (step e g)
  pub predecessor : {e g : ℕ} → e < N → g < n → get_or t (start_of n e + n + g) 0 ≡ suc (back e g)
  pub parents : {e : ℕ} → 0 < e → e < N → parent_of t n e ≡ parent e
  pub letters : {e : ℕ} → 0 < e → e < N → last_of t n e ≡ last e
  pub lengths : {e : ℕ} → e < N → length_of t n e ≡ length (word e)

-- The word that t records for an element.
abbrev pub word_of : List ℕ → ℕ → ℕ → List ℕ
word_of t n e = word_of_lem (parent_of t n) (last_of t n) e

-- t₁ is t but for what is put into the rows of the first N elements once the table stands: the letters before the last, which share its cell,
-- and the inverses. So what else is read of every row reads the same.
pub record Kept (t t₁ : List ℕ) (n N : ℕ) : Type 0 where
  pub size : length t₁ ≡ length t
  pub other : (i : ℕ) → ((e : ℕ) → e < N → (i ≡ start_of n e + 2 * n + 1 → ⊥) × (i ≡ start_of n e + 2 * n + 3 → ⊥)) → get_or t₁ i 0 ≡ get_or t i 0
  pub step_same : (e : ℕ) {g : ℕ} → g < n → step_of t₁ n e g ≡ step_of t n e g
  pub back_same : (e : ℕ) {g : ℕ} → g < n → back_of t₁ n e g ≡ back_of t n e g
  pub parent_same : (e : ℕ) → parent_of t₁ n e ≡ parent_of t n e
  pub last_same : (e : ℕ) → last_of t₁ n e ≡ last_of t n e
  pub length_same : (e : ℕ) → length_of t₁ n e ≡ length_of t n e
