-- Letters that stand in a number, walked from the first as the code does it, one after the other, each of them tested. What they come to is `along`, where the rest of
-- the number is in range too.
use Rattle.std.specs.Prelude.{ℕ, zero, suc, ◌-◌, ◌*◌, ◌/◌, ◌%◌, ◌^◌, ◌≤◌, ◌≡◌, List, leb}
use Rattle.egg.specs.Answers.{Reached}
use Rattle.std.specs.Prelude.{Ok}
use Rattle.egg.specs.Table.{pick}
use Rattle.egg.specs.Factor.{refused_reach, read_step}
use Rattle.egg.specs.Answers.{on_reached}

-- From an element along the k letters that stand in c, the last lowest.
unfoldable pub ahead : (k : ℕ) (s : List ℕ) (n count from c : ℕ) → Reached
ahead zero s n count from c = Ok (record { 0 = from })
ahead (suc k) s n count from c =
    pick (leb n (c % 8)) (refused_reach 17 0) (on_reached (ahead k s n count from (c / 8)) (λ x. read_step s n count x (c % 8)))

-- Of a word of so many letters in a cell: if the letters above the j lowest have led to what is stored as y, those above the k lowest lead to what is
-- stored as r. Where the word has no more than k letters, none has been walked.
pub record Onward (s : List ℕ) (n count cell letters j y k r : ℕ) : Type 0 where
  pub small : r ≤ count
  pub leads : (from : ℕ) → ahead (letters - j) s n count from (cell / 2 ^ (3 * j)) ≡ Ok (record { 0 = y - 1 })
      → ahead (letters - k) s n count from (cell / 2 ^ (3 * k)) ≡ Ok (record { 0 = r - 1 })
