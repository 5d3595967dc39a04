-- The letters that stand in one number c, the last lowest, as the code takes them: the k that are left of a word, but no more than j. What it comes to is `spell_by`.
use Rattle.std.specs.Prelude.{ℕ, zero, suc, ◌+◌, ◌/◌, ◌%◌, List, set}

-- The buffer with each of them written to its place, as in `spell_by`.
unfoldable pub letters_put : (k j c start offset : ℕ) (out : List ℕ) → List ℕ
letters_put zero j c start offset out = out
letters_put (suc k) zero c start offset out = out
letters_put (suc k) (suc j) c start offset out = letters_put k j (c / 8) start offset (set out (start + k) ((offset + c % 8) % 256))
