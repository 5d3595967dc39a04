-- What the relations let strike out of a word, and cancel at the end of two.
use mathlib.Core.List.{List, [], ◌∷◌, ◌++◌, append-nil, append_assoc}
use Prim.Native.Nat.{ℕ, ◌<◌}
use Rattle.theory.specs.Words.{Word, empty, letter}
use Rattle.theory.specs.Presentation.{Relator, double, Equiv, insert, turn, join}
use Rattle.theory.proofs.Relations.{append_right}

-- A relator at the end of a word may be struck out, in particular a doubled generator; so a word at the end of both sides may be cancelled.
module _ {n : ℕ} {m : ℕ → ℕ → ℕ} where
  pub strike : (u : List ℕ) {r : List ℕ} → Relator n m r → Equiv n m (u ++ r) u
  strike u h = turn (simp append-nil at (insert u [] h))

  pub strike_double : (u : List ℕ) {g : ℕ} → g < n → Equiv n m (u ++ g ∷ [] ++ g ∷ []) u
  strike_double u h = rw append_assoc (strike u (double h))

  pub cancel : (u v : List ℕ) {b : List ℕ} → Word n b → Equiv n m (u ++ b) (v ++ b) → Equiv n m u v
  cancel u v empty h = simp append-nil at h
  cancel u v (letter {g = g} {w = b} k w) h =
      let shorter = cancel (u ++ g ∷ []) (v ++ g ∷ []) w (simp append_assoc h) in
      join (turn (strike_double u k)) (join (append_right shorter (g ∷ [])) (strike_double v k))
