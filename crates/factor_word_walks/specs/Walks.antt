-- Walks through a factor's stretch s, with n generators and `count` elements, along the letters of recorded words. Document 01: "Calls on handles
-- check 17 in the handle, then 14, .. then 17 in what they read." The handle is looked at before.
use Rattle.std.specs.Prelude.{ℕ, zero, suc, ◌+◌, ◌-◌, ◌/◌, ◌%◌, List, [], ◌∷◌, get_or, eqb, ltb, leb}
use Rattle.egg.specs.Answers.{Reached}
use Rattle.std.specs.Prelude.{Ok}
use Rattle.egg.specs.Table.{pick, start_of, hop_of}
use Rattle.egg.specs.Answers.{on_reached}
use Rattle.egg.specs.Factor.{refused_reach, read_step}
use Rattle.factor_word_letters.specs.Spell.{cell_within, readable, letters}

-- From an element along the letters of a word, each of which is a generator.
unfoldable pub follow : (s : List ℕ) (n count from : ℕ) (w : List ℕ) → Reached
follow s n count from [] = Ok (record { 0 = from })
follow s n count from (g ∷ w) = on_reached (read_step s n count from g) (λ x. follow s n count x w)

-- From an element along the last k letters of the recorded word that ends at e. The letters stand there from the last to the first: so all are read before the first
-- step, and 17 in one of their cells is met before 17 in a step.
unfoldable pub along : (k : ℕ) (s : List ℕ) (n count from e : ℕ) → Reached
along k s n count from e = pick (readable k s n count e) (follow s n count from (letters k s n e)) (refused_reach 17 0)

-- The answer for a stored step back, as `read_step` of egg gives that for a step.
unfoldable pub read_step_back : (s : List ℕ) (n count e g : ℕ) → Reached
read_step_back s n count e g =
    pick (eqb (get_or s (start_of n e + n + g) 0) 0) (refused_reach 17 0)
    (pick (ltb count (get_or s (start_of n e + n + g) 0)) (refused_reach 17 0) (Ok (record { 0 = get_or s (start_of n e + n + g) 0 - 1 })))

-- From an element back along the last k letters of a recorded word, the last letter first. Of these j stand in c, the last lowest, and above them the element at
-- which the word ends without them; where none is left there, that element's row has five more (`build_word_cells`), in one cell, which is tested as a whole.
unfoldable pub back_by : (k j : ℕ) (s : List ℕ) (n count from c : ℕ) → Reached
back_by zero j s n count from c = Ok (record { 0 = from })
back_by (suc k) zero s n count from c =
    pick (leb count c) (refused_reach 17 0)
    (pick (cell_within n count (hop_of s n c))
    (on_reached (read_step_back s n count from (hop_of s n c % 8)) (λ x. back_by k 4 s n count x (hop_of s n c / 8))) (refused_reach 17 0))
back_by (suc k) (suc j) s n count from c = on_reached (read_step_back s n count from (c % 8)) (λ x. back_by k j s n count x (c / 8))

-- The walk from an element back along the last k letters of the word that ends at e.
abbrev pub back_along : (k : ℕ) (s : List ℕ) (n count from e : ℕ) → Reached
back_along k s n count from e = back_by k 0 s n count from e
