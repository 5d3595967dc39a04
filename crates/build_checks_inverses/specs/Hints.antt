-- Hints, by which an inverse comes from an earlier one. Document 01: "The inverse follows the reversed word through predecessors from the identity."
-- Where the word of e is a letter and then the word of an earlier element, the inverse of e is that element's inverse and then a step back by that
-- letter. In a group's table that follows the numbering rule every word should be so, since it is the first of those that lead to its element;
-- elsewhere there may be no hint, and the word is walked. The definitions of the checks have no hints: an inverse that comes by one is proved to be
-- the one that the walk gives.
use Rattle.std.specs.Prelude.{ℕ, ◌+◌, ◌*◌, ◌-◌, ◌/◌, ◌%◌, ◌≤◌, ◌<◌, ◌≡◌, List, length, get_or, eqb}
use Rattle.egg.specs.Table.{pick, start_of, parent_of, last_of, length_of, inverse_of, back_of}
use Rattle.build_checks_inverses.specs.Inverses.{invert_from, invert_of}

-- Two tables of n generators that differ in the cells of the inverses at most.
pub record SameButInverses (t t' : List ℕ) (n : ℕ) : Type 0 where
  pub cells : (i e k : ℕ) → k < 2 * n + 3 → i ≡ start_of n e + k → get_or t' i 0 ≡ get_or t i 0

-- The walk back along the word of e gives the same while inverses are written into the table.
pub record Steady (t : List ℕ) (n e : ℕ) : Type 0 where
  pub same : (t' : List ℕ) → SameButInverses t t' n → (x : ℕ) → invert_from (length_of t n e) t' n e x ≡ invert_from (length_of t n e) t n e x

-- The word of e is the letter `first` and then the word of the earlier element `tail`, so that the walk back along it is that of `tail` and then a
-- step back by `first`.
pub record Tail (t : List ℕ) (n e tail first : ℕ) : Type 0 where
  pub earlier : tail < e
  pub letter : first < n
  pub longer : length_of t n e ≡ length_of t n tail + 1
  pub leads : (x : ℕ) → invert_from (length_of t n e) t n e x ≡ back_of t n (invert_from (length_of t n tail) t n tail x) first
  pub tail_steady : Steady t n tail
  pub steady : Steady t n e

-- A hint h is a tail and a first letter in one number, and 0 is no hint. This is its tail.
abbrev pub tail_of : ℕ → ℕ
tail_of h = (h - 1) / 256

-- The first letter of a hint.
abbrev pub first_of : ℕ → ℕ
first_of h = (h - 1) % 256

-- The number h is 0, or it holds this tail and this first letter.
pub record Packs (tail first h : ℕ) : Type 0 where
  pub tail_in : (h ≡ 0 → ⊥) → tail_of h ≡ tail
  pub first_in : (h ≡ 0 → ⊥) → first_of h ≡ first

-- The number h is no hint, or it is a right one for e.
pub record Hint (t : List ℕ) (n e h : ℕ) : Type 0 where
  pub right : (h ≡ 0 → ⊥) → Tail t n e (tail_of h) (first_of h)

-- The work has right hints, or none, for the elements before e.
pub record Hints (t w : List ℕ) (n e : ℕ) : Type 0 where
  pub each : (i : ℕ) → i < e → Hint t n i (get_or w i 0)

-- The word of y is that of `from` and the last letter of e, and y is earlier than e and has one letter less.
pub record Follows (t : List ℕ) (n from y e : ℕ) : Type 0 where
  pub earlier : y < e
  pub parent : parent_of t n y ≡ from
  pub letter : last_of t n y ≡ last_of t n e
  pub long : length_of t n y ≡ length_of t n from + 1
  pub longer : length_of t n e ≡ length_of t n y + 1

-- The inverse of e by the hint h, where it is one, else by the walk.
abbrev pub inverse_by : List ℕ → ℕ → ℕ → ℕ → ℕ
inverse_by t n e h = pick (eqb h 0) (invert_of t n e) (back_of t n (inverse_of t n (tail_of h)) (first_of h))

-- The work w₁ is w but for its first `count` numbers.
pub record Beyond (w w₁ : List ℕ) (count : ℕ) : Type 0 where
  pub size : length w₁ ≡ length w
  pub beyond : (i : ℕ) → count ≤ i → get_or w₁ i 0 ≡ get_or w i 0

-- The work w₁ is w with the hints of all elements in its first `count` numbers.
pub record Hinted (t w w₁ : List ℕ) (n count : ℕ) : Type 0 where
  pub hints : Hints t w₁ n count
  pub rest : Beyond w w₁ count

-- The work w₁ is w but for its first `count` numbers, and has n for each element before e: what the arrivals are where 9 has passed.
pub record CountedAgain (w w₁ : List ℕ) (n e count : ℕ) : Type 0 where
  pub each : (i : ℕ) → i < e → i < length w → get_or w₁ i 0 ≡ n
  pub rest : Beyond w w₁ count
