-- What the stores of a build do to the table. Document 01, module 2: "`add_successor`, `set_successor` (overwrites, and says whether the place was
-- new)".
use Rattle.std.specs.Prelude.{ℕ, ◌+◌, ◌*◌, List, Bool, get_or, leb, eqb}
use Rattle.egg.specs.declared.GroupElementId.{GroupElementId}
use Rattle.egg.specs.declared.GeneratorId.{GeneratorId}
use Rattle.egg.specs.Answers.{Reached}
use Rattle.std.specs.Prelude.{Ok, Err}
use Rattle.egg.specs.Answers.{numbered}
use Rattle.egg.specs.Table.{pick, put_at, start_of, succ_at, pred_at, length_of}

-- True where the step is not known yet.
abbrev pub is_new : List ℕ → ℕ → GroupElementId → GeneratorId → Bool
is_new t n e g = eqb (get_or t (succ_at n e g) 0) 0

-- The table with the step e·g = r and the step back stored; what stood there is overwritten.
unfoldable pub set_step : (t : List ℕ) (n : ℕ) (e : GroupElementId) (g : GeneratorId) (r : GroupElementId) → List ℕ
set_step t n e g r = put_at (put_at t (succ_at n e g) (r.0 + 1)) (pred_at n r g) (e.0 + 1)

-- The table with the word of a new element recorded, by parent, last generator and length. "Each element's word is its parent's word and one
-- generator."
unfoldable pub set_word : (t : List ℕ) (n : ℕ) (new e : GroupElementId) (g : GeneratorId) (len : ℕ) → List ℕ
set_word t n new e g len =
    put_at (put_at (put_at t (start_of n new.0 + 2 * n) e.0) (start_of n new.0 + 2 * n + 1) g.0) (start_of n new.0 + 2 * n + 2) len

-- What adding an element answers, and the table then.
pub record Adds : Type 0 where
  pub answer : Reached
  pub table : List ℕ

-- A new element, reached from e by g; it has the count for its number. 5 comes first, "an element is needed beyond the room", then 6, "its word would
-- pass 4,096".
unfoldable pub adds : (t : List ℕ) (n room count : ℕ) (e : GroupElementId) (g : GeneratorId) → Adds
adds t n room count e g =
    pick (leb room count) (record { answer = Err (numbered 5 e.0 g.0 0); table = t })
    (pick (leb 4096 (length_of t n e.0)) (record { answer = Err (numbered 6 e.0 g.0 0); table = t })
    (record {
      answer = Ok (record { 0 = count });
      table = set_step (set_word t n (record { 0 = count }) e g (length_of t n e.0 + 1)) n e g (record { 0 = count });
    }))
