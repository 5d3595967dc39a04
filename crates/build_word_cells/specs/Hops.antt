-- Five letters of a recorded word in one number, which is called a hop. Document 01: "parent, last generator and length per element". A last
-- generator has three bits, and its cell has room for the four letters before it and for the element before these: so who walks a word back reads one
-- number for five letters.
use Rattle.std.specs.Prelude.{ℕ, zero, suc, ◌+◌, ◌*◌, ◌/◌, ◌%◌, ◌<◌, ◌≡◌, List}
use Rattle.egg.specs.Table.{put_at, start_of, parent_of, hop_of, last_of}

-- The last k letters of the recorded word that ends at e, the last one lowest, and above them the element at which the word ends without them, whose
-- number has 16 bits. (Where a word has fewer letters it goes on as the identity's row has it: who reads it knows how many letters it has.)
unfoldable pub hop_from : (k : ℕ) (t : List ℕ) (n e : ℕ) → ℕ
hop_from zero t n e = e % 65536
hop_from (suc k) t n e = last_of t n e + 8 * hop_from k t n (parent_of t n e)

-- A number without the k letters that are lowest in it.
unfoldable pub without : (k c : ℕ) → ℕ
without zero c = c
without (suc k) c = without k (c / 8)

-- The table with five letters in the cell of each of the first k elements.
unfoldable pub with_hops : (k : ℕ) (t : List ℕ) (n : ℕ) → List ℕ
with_hops zero t n = t
with_hops (suc k) t n = with_hops k (put_at t (start_of n k + 2 * n + 1) (hop_from 5 t n k)) n

-- In each of the first N rows the last generator's cell holds the last five letters of the word, and the element before them.
pub record Hops (t : List ℕ) (n N : ℕ) : Type 0 where
  pub five : {e : ℕ} → e < N → hop_of t n e ≡ hop_from 5 t n e
