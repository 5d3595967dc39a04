-- This file defines how a word is walked on an image's rows. Document 01: "The walk checks the image head, then the start and each generator (14),
-- then each number read (17)."
use Rattle.std.specs.Prelude.{ℕ, List, [], ◌∷◌, Bool, true, ◌&&◌, ltb, leb}
use Rattle.egg.specs.Table.{pick}
use Rattle.build_reading.specs.Reading.{composed_at}

-- True where each letter is a generator.
unfoldable pub letters_below : ℕ → List ℕ → Bool
letters_below n [] = true
letters_below n (g ∷ w) = ltb g n && letters_below n w

-- Walks from e along the word, in a list of rows of n numbers. Answers the element reached, or 65,553, which is 65,536 + 17, where a number read is
-- no element.
unfoldable pub follow_rows : List ℕ → ℕ → ℕ → ℕ → List ℕ → ℕ
follow_rows rows n count e [] = e
follow_rows rows n count e (g ∷ w) = pick (leb count (composed_at rows n e g)) 65553 (follow_rows rows n count (composed_at rows n e g) w)
