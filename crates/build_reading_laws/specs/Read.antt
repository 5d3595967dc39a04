-- What reading a table of composed numbers comes to, in the words of the theory: what an accepted reading leaves, which numbers it takes, and why
-- others are refused. Document 01, module 3: "at (e,g), in order, a number below the count is set, the count itself is a new element, more is 7."
use Rattle.std.specs.Prelude.{ℕ, suc, ◌+◌, ◌*◌, ◌≤◌, ◌<◌, ◌≡◌, List, length, get_or}
use Rattle.egg.specs.Table.{start_of, parent_of, hop_of, last_of, length_of, inverse_of}
use Rattle.egg.specs.declared.Refusal.{Refusal}
use Rattle.egg.specs.Answers.{numbered}
use Rattle.theory.specs.Numbering.{Known, Numbered}
use Rattle.theory.specs.Appearance.{FirstAppearance, recorded}

-- An accepted reading: the numbers have N rows by the numbering rule, and t holds them. Each step is stored one more than its number, and a predecessor,
-- where there is one, is one from which the generator leads there. Parent and last generator of an element are the place where it first appears.
-- "After acceptance, rows .. beyond the last element .. are zero"; the inverses are still to be found, and a last generator's cell has that one letter.
pub record Read (src : ℕ → ℕ → ℕ) (n room size N : ℕ) (t : List ℕ) : Type 0 where
  pub by_rule : Numbered n N src
  pub origin : 1 ≤ N
  pub within : N ≤ room
  pub whole : length t ≡ size
  pub successor : {e g : ℕ} → e < N → g < n → get_or t (start_of n e + g) 0 ≡ suc (src e g)
  pub predecessor : {r g e : ℕ} → r < N → g < n → get_or t (start_of n r + n + g) 0 ≡ suc e → (e < N) × (src e g ≡ r)
  pub arrived : {r g e : ℕ} → e < N → g < n → src e g ≡ r → ¬ (get_or t (start_of n r + n + g) 0 ≡ 0)
  pub appearance : FirstAppearance n N src (parent_of t n) (last_of t n)
  pub no_letters : length_of t n 0 ≡ 0
  pub one_more : {e : ℕ} → 0 < e → e < N → length_of t n e ≡ suc (length_of t n (parent_of t n e))
  pub short : {e : ℕ} → e < N → length_of t n e ≤ 4096
  pub no_inverse : {e : ℕ} → e < N → inverse_of t n e ≡ 0
  pub no_parent : parent_of t n 0 ≡ 0
  pub no_last : last_of t n 0 ≡ 0
  pub one_letter : {e : ℕ} → e < N → hop_of t n e ≡ last_of t n e
  pub beyond : {i : ℕ} → N * (2 * n + 4) ≤ i → get_or t i 0 ≡ 0

-- What reading takes: numbers with N rows by the numbering rule, the elements within the room, and their words within 4,096.
pub record Readable (src : ℕ → ℕ → ℕ) (n room N : ℕ) : Type 0 where
  pub by_rule : Numbered n N src
  pub within : N ≤ room
  pub short : {e : ℕ} → e < N → length (recorded n src e) ≤ 4096

-- Nothing was to be refused before row x and column g: the numbering rule has held so far, the c elements that are known are within the room, and
-- their words are within 4,096.
pub record ReadSoFar (src : ℕ → ℕ → ℕ) (n room x g c : ℕ) : Type 0 where
  pub known : Known n src x g c
  pub within : c ≤ room
  pub short : {e : ℕ} → e < c → length (recorded n src e) ≤ 4096

-- Why the place at row x and column g cannot be read: 7, "a composed number skips ahead"; 5, "an element is needed beyond the room"; or 6, "its word
-- would pass 4,096". "During reading the order at one place is 7, 5, 6."
pub data Stops (src : ℕ → ℕ → ℕ) (n room x g c : ℕ) : Refusal → Type 0 where
  skips_ahead : c < src x g → Stops src n room x g c (numbered 7 x g (src x g))
  no_room : src x g ≡ c → c ≡ room → Stops src n room x g c (numbered 5 x g 0)
  long_word : src x g ≡ c → c < room → length (recorded n src x) ≡ 4096 → Stops src n room x g c (numbered 6 x g 0)

-- A refused reading: the first place that cannot be read, and why.
pub record ReadingRefused (src : ℕ → ℕ → ℕ) (n room : ℕ) (r : Refusal) : Type 0 where
  pub row : ℕ
  pub column : ℕ
  pub count : ℕ
  pub before : ReadSoFar src n room row column count
  pub place : column < n
  pub stops : Stops src n room row column count r
