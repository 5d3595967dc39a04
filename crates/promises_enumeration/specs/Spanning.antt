-- Finitely many words to which, under the relations, every word is equal: what the run leaves before it is known which of them are equal to one another.
use Rattle.std.specs.Prelude.{ℕ, ◌<◌, ◌≡◌, List, [], ◌∷◌, ◌++◌}
use Rattle.theory.specs.Words.{Word}
use Rattle.theory.specs.Presentation.{Equiv}

-- N words, the empty one among them: one letter more is, under the relations, another of them.
pub record Spanning (n N : ℕ) (m : ℕ → ℕ → ℕ) (word : ℕ → List ℕ) (next : ℕ → ℕ → ℕ) : Type 0 where
  pub some : 0 < N
  pub start : word 0 ≡ []
  pub over : {e : ℕ} → e < N → Word n (word e)
  pub closed : {e g : ℕ} → e < N → g < n → next e g < N
  pub leads : {e g : ℕ} → e < N → g < n → Equiv n m (word e ++ g ∷ []) (word (next e g))

-- It is decided which of them are equal under the relations.
pub record Decided (n N : ℕ) (m : ℕ → ℕ → ℕ) (word : ℕ → List ℕ) : Type 0 where
  pub decide : (x y : ℕ) → x < N → y < N → Dec (Equiv n m (word x) (word y))
