-- This file defines how a word of the caller's letters is walked in a factor's stretch. Document 01: "The walk checks .. the start and each generator
-- (14), then each number read (17)", and 14 has the "position among these from 0, each entry of a word or list counted".
use Rattle.std.specs.Prelude.{ℕ, ◌+◌, List, length, get_or, ltb, leb}
use Rattle.egg.specs.Answers.{Reached, Verdict, fine}
use Rattle.egg.specs.Table.{pick}
use Rattle.egg.specs.Scan.{refused_of, scan}
use Rattle.egg.specs.Answers.{if_reach}
use Rattle.factor_word_walks.specs.Walks.{follow}

-- A length or a position as far as 32 bits can tell: 4,294,967,295 stands for all that is above.
abbrev pub shown : ℕ → ℕ
shown i = pick (ltb i 4294967295) i 4294967295

-- Refuses with 14 the letter at i where it is none of n generators. The start is the argument at position 0, so this one is at i + 1.
abbrev pub letter_right : ℕ → List ℕ → ℕ → Verdict
letter_right n w i = pick (leb n (get_or w i 0)) (refused_of 14 (shown (i + 1)) 0 0) fine

-- The first refusal among the letters of the word.
unfoldable pub letters_right : ℕ → List ℕ → Verdict
letters_right n w = scan (length w) (letter_right n w) 0

-- The walk from e along the word, in the stretch s of a factor with n generators and `count` elements: all letters are looked at, and then the steps
-- are read one after another. An empty word ends where it starts.
unfoldable pub walk_in : (s : List ℕ) (n count e : ℕ) (w : List ℕ) → Reached
walk_in s n count e w = if_reach (letters_right n w) (follow s n count e w)
