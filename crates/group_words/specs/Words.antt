-- This file defines the word of an element of a product: the words of its digits, one after the other. The generators of each factor are numbered
-- after those of the factors before. Document 01: "9 splits (3,1), word 0,1,2".
use Rattle.std.specs.Prelude.{ℕ, ◌+◌, ◌/◌, ◌%◌, List, [], ◌∷◌, Bool, true, ◌&&◌, ltb}
use Rattle.egg.specs.declared.Factor.{Factor}
use Rattle.egg.specs.Answers.{Counted}
use Rattle.egg.specs.Refusals.{numbered}
use Rattle.std.specs.Prelude.{Ok, Err}
use Rattle.egg.specs.Table.{pick, length_of}
use Rattle.egg.specs.Factor.{stretch}
use Rattle.factor_word_letters.specs.Spell.{readable, spell_from}
use Rattle.factor_words.specs.Words.{length_in}
use Rattle.group_handles.specs.Counts.{on_counted}

-- The recorded lengths of the digits' words, added up. Refuses with 17 a length over 4,096.
unfoldable pub lengths : List ℕ → List Factor → ℕ → Counted
lengths t [] e = Ok 0
lengths t (h ∷ hs) e =
    on_counted (length_in (stretch t h) h.generators (e % h.elements)) (λ k. on_counted (lengths t hs (e / h.elements)) (λ m. Ok (k + m)))

-- True where every letter of every digit's word can be read.
unfoldable pub readables : List ℕ → List Factor → ℕ → Bool
readables t [] e = true
readables t (h ∷ hs) e =
    readable (length_of (stretch t h) h.generators (e % h.elements)) (stretch t h) h.generators h.elements (e % h.elements)
    && readables t hs (e / h.elements)

-- Writes each digit's word after that of the digit before: `start` is where it begins, `offset` is added to its letters.
unfoldable pub spells : List ℕ → List Factor → ℕ → ℕ → ℕ → List ℕ → List ℕ
spells t [] e start offset out = out
spells t (h ∷ hs) e start offset out =
    spells t hs (e / h.elements) (start + length_of (stretch t h) h.generators (e % h.elements)) (offset + h.generators)
    (spell_from (length_of (stretch t h) h.generators (e % h.elements)) (stretch t h) h.generators (e % h.elements) start offset out)

-- "4 if short, after 17 in a length"; then 17 for a cell of letters that is out of range. The length is known or refused, and `readable` says whether all
-- letters can be read.
abbrev pub writes_by : Counted → Bool → ℕ → Counted
writes_by (Ok k) readable size =
    pick (ltb size k) (Err (numbered 4 0 0 0))
    (pick readable (Ok k) (Err (numbered 17 0 0 0)))
writes_by (Err r) readable size = Err r

-- How many letters are written into a buffer of `size` bytes.
unfoldable pub writes : List ℕ → List Factor → ℕ → ℕ → Counted
writes t hs e size = writes_by (lengths t hs e) (readables t hs e) size

-- What the buffer holds afterwards: the word at its start where the answer is a count, else what it held.
abbrev pub leaves : Counted → List ℕ → List Factor → ℕ → List ℕ → List ℕ
leaves (Ok k) t hs e out = spells t hs e 0 0 out
leaves (Err r) t hs e out = out
