-- The questions about recorded words, on a factor's stretch s with n generators and `count` elements. Document 01: "A refused question writes
-- nothing."
use Rattle.std.specs.Prelude.{ℕ, List, ltb}
use Rattle.egg.specs.Answers.{Counted}
use Rattle.egg.specs.Refusals.{numbered}
use Rattle.std.specs.Prelude.{Ok, Err}
use Rattle.egg.specs.Table.{pick, length_of}
pub use Rattle.factor_word_letters.specs.Spell.{readable, spell_from, spell}
unfoldable pub use Rattle.factor_word_letters.specs.Spell.{readable_by, spell_by}

-- The recorded length of a word; 17, "a number read from it is out of range", where it is over 4,096.
unfoldable pub length_in : List ℕ → ℕ → ℕ → Counted
length_in s n e = pick (ltb 4096 (length_of s n e)) (Err (numbered 17 0 0 0)) (Ok (length_of s n e))

-- The length of the word that is written into a buffer of `size` bytes. "4 if short, after 17 in a length"; then 17 in a cell of letters. After any refusal
-- the buffer is as it was.
unfoldable pub write_in : (s : List ℕ) (n count e size : ℕ) → Counted
write_in s n count e size =
    pick (ltb 4096 (length_of s n e)) (Err (numbered 17 0 0 0))
    (pick (ltb size (length_of s n e)) (Err (numbered 4 0 0 0))
    (pick (readable (length_of s n e) s n count e) (Ok (length_of s n e)) (Err (numbered 17 0 0 0))))

-- What the buffer holds: the word at its start where the answer is a count.
abbrev pub written_by : Counted → List ℕ → ℕ → ℕ → List ℕ → List ℕ
written_by (Ok k) s n e out = spell k s n e out
written_by (Err r) s n e out = out
