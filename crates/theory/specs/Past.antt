-- What an enumeration has done so far, said only of the words of its elements, so that it stays true whatever steps are set later.
use Rattle.std.specs.Prelude.{ℕ, ◌+◌, ◌<◌, ◌≡◌, List, [], ◌∷◌, ◌++◌}
use Rattle.theory.specs.Presentation.{Equiv}

-- The places before row x and column g have been visited, and there are c elements. Where the step was known, it led, under the relations, to an
-- element that was there already; where it was not, it made a new element, whose word is that of the row's element and the column's letter.
pub data Past (n : ℕ) (m : ℕ → ℕ → ℕ) (word : ℕ → List ℕ) : ℕ → ℕ → ℕ → Type 0 where
  start : Past n m word 0 0 1
  old : {x g c : ℕ} (r : ℕ) → Past n m word x g c → x < c → g < n → r < c → Equiv n m (word x ++ g ∷ []) (word r) → Past n m word x (g + 1) c
  new : {x g c : ℕ} → Past n m word x g c → x < c → g < n → word c ≡ word x ++ g ∷ [] → Past n m word x (g + 1) (c + 1)
  next_row : {x c : ℕ} → Past n m word x n c → x < c → Past n m word (x + 1) 0 c
