-- This file defines the listing's text. Document 01: "Head: generators, elements. Lines: element, inverse, word length, successors. A refusal prints
-- `refused` and its number."
use Rattle.std.specs.Prelude.{ℕ, zero, suc, ◌+◌, ◌/◌, ◌%◌, ◌<◌, ◌≡◌, List, [], ◌∷◌, ◌++◌, length, ltb}
use Rattle.std.proofs.lemmas.List.Edits.{sets}
use Rattle.egg.specs.Table.{pick, length_of, inverse_of, step_of}

-- The text was stored from place `at` on: `after` is what the buffer holds then, and `next` the place behind the text. What does not fit is dropped.
pub record Writes (before : List ℕ) (at : ℕ) (text after : List ℕ) (next : ℕ) : Type 0 where
  pub holds : after ≡ sets before at text
  pub moves : next ≡ at + length text

-- The place behind the text is a number that a usize can hold.
pub record EndFits (at : ℕ) (text : List ℕ) : Type 0 where
  pub fits : at + length text < 18446744073709551616

-- A number in decimal digits, 48 being '0'; k digits at most.
unfoldable pub digits : ℕ → ℕ → List ℕ
digits zero x = []
digits (suc k) x = pick (ltb x 10) ((48 + x) ∷ []) (digits k (x / 10) ++ (48 + x % 10) ∷ [])

-- A number of 32 bits, for which ten digits are enough.
abbrev pub decimal : ℕ → List ℕ
decimal x = digits 10 x

-- A space and a number.
abbrev pub spaced : ℕ → List ℕ
spaced x = 32 ∷ decimal x

-- The successors of e, from generator g on, k of them.
unfoldable pub steps_text : (k : ℕ) (t : List ℕ) (n e g : ℕ) → List ℕ
steps_text zero t n e g = []
steps_text (suc k) t n e g = spaced (step_of t n e g) ++ steps_text k t n e (g + 1)

-- "element, inverse, word length, successors"
abbrev pub line_text : List ℕ → ℕ → ℕ → List ℕ
line_text t n e = decimal e ++ (spaced (inverse_of t n e) ++ (spaced (length_of t n e) ++ (steps_text n t n e 0 ++ 10 ∷ [])))

-- The lines of k elements, from e on.
unfoldable pub lines_text : ℕ → List ℕ → ℕ → ℕ → List ℕ
lines_text zero t n e = []
lines_text (suc k) t n e = line_text t n e ++ lines_text k t n (e + 1)

-- The word "group", generators, elements; then the lines.
abbrev pub group_text : List ℕ → ℕ → ℕ → List ℕ
group_text t n count = (103 ∷ 114 ∷ 111 ∷ 117 ∷ 112 ∷ []) ++ (spaced n ++ (spaced count ++ (10 ∷ lines_text count t n 0)))

-- The word "refused" and the number.
abbrev pub refused_text : ℕ → List ℕ
refused_text number = (114 ∷ 101 ∷ 102 ∷ 117 ∷ 115 ∷ 101 ∷ 100 ∷ []) ++ (spaced number ++ 10 ∷ [])
