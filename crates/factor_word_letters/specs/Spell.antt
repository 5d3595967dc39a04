-- The letters of recorded words, on a factor's stretch s with n generators and `count` elements: whether they can be read, and where they are written.
use Rattle.std.specs.Prelude.{ℕ, zero, suc, ◌+◌, ◌/◌, ◌%◌, List, [], ◌∷◌, ◌++◌, Bool, true, ◌&&◌, set, ltb}
use Rattle.egg.specs.Table.{hop_of}

-- What is left of a cell of letters is in range as a whole: its k letters, the lowest of them first, are generators, and what stands above them is an element.
abbrev pub cell_by : (k n count c : ℕ) → Bool
cell_by zero n count c = ltb c count
cell_by (suc k) n count c = ltb (c % 8) n && cell_by k n count (c / 8)

-- So is the cell of an element's row, which has five letters. Document 01: 17 when "a number read from it is out of range". The cell is one number: where it is read
-- all of it is tested, also what stands above a word's first letter, which in an accepted table is 0.
abbrev pub cell_within : (n count c : ℕ) → Bool
cell_within n count c = cell_by 5 n count c

-- Every cell can be read that the last k letters of a recorded word stand in. Of these letters j stand in c, the last lowest, which has been tested, and above them the
-- element at which the word ends without them; where none is left there, that element's row has five more (`build_word_cells`).
unfoldable pub readable_by : (k j : ℕ) (s : List ℕ) (n count c : ℕ) → Bool
readable_by zero j s n count c = true
readable_by (suc k) zero s n count c = ltb c count && (cell_within n count (hop_of s n c) && readable_by k 4 s n count (hop_of s n c / 8))
readable_by (suc k) (suc j) s n count c = readable_by k j s n count (c / 8)

-- The same of the word that ends at e.
abbrev pub readable : (k : ℕ) (s : List ℕ) (n count e : ℕ) → Bool
readable k s n count e = readable_by k 0 s n count e

-- The letters themselves, the first first.
unfoldable pub letters_by : (k j : ℕ) (s : List ℕ) (n c : ℕ) → List ℕ
letters_by zero j s n c = []
letters_by (suc k) zero s n c = letters_by k 4 s n (hop_of s n c / 8) ++ (hop_of s n c % 8 ∷ [])
letters_by (suc k) (suc j) s n c = letters_by k j s n (c / 8) ++ (c % 8 ∷ [])

-- .. of the word that ends at e.
abbrev pub letters : (k : ℕ) (s : List ℕ) (n e : ℕ) → List ℕ
letters k s n e = letters_by k 0 s n e

-- The buffer with these letters written to the k places from `start` on, the first letter first, each with `offset` added; the rest of the buffer
-- stays. (Where all is in range the sum is below 64, so that its remainder by 256 is itself.)
unfoldable pub spell_by : (k j : ℕ) (s : List ℕ) (n c start offset : ℕ) (out : List ℕ) → List ℕ
spell_by zero j s n c start offset out = out
spell_by (suc k) zero s n c start offset out =
    spell_by k 4 s n (hop_of s n c / 8) start offset (set out (start + k) ((offset + hop_of s n c % 8) % 256))
spell_by (suc k) (suc j) s n c start offset out = spell_by k j s n (c / 8) start offset (set out (start + k) ((offset + c % 8) % 256))

-- The same of the word that ends at e.
abbrev pub spell_from : (k : ℕ) (s : List ℕ) (n e start offset : ℕ) (out : List ℕ) → List ℕ
spell_from k s n e start offset out = spell_by k 0 s n e start offset out

-- The same of a factor's own word, which starts at 0 and to whose letters nothing is added.
abbrev pub spell : (k : ℕ) (s : List ℕ) (n e : ℕ) (out : List ℕ) → List ℕ
spell k s n e out = spell_from k s n e 0 0 out
