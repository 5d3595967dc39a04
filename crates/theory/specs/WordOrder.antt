-- The order of words that order 11 speaks of: by length, and those of one length as in a dictionary.
use Rattle.std.specs.Prelude.{◌≡◌, ◌⊎◌, List, ◌∷◌, ℕ, ◌<◌, length}

-- "Earlier by generator number, compared from the first": where u and v first differ, u has the smaller letter.
pub data Lex : List ℕ → List ℕ → Type 0 where
  here : {g h : ℕ} {u v : List ℕ} → g < h → Lex (g ∷ u) (h ∷ v)
  there : {g : ℕ} {u v : List ℕ} → Lex u v → Lex (g ∷ u) (g ∷ v)

-- u is shorter than v, or as long and earlier in that sense.
pub data Before (u v : List ℕ) : Type 0 where
  shorter : length u < length v → Before u v
  earlier : length u ≡ length v → Lex u v → Before u v

-- u is v or comes before it.
abbrev pub AtMost : List ℕ → List ℕ → Type 0
AtMost u v = (u ≡ v) ⊎ Before u v
