-- What is used of words and walks.
use mathlib.Core.Path.{◌≡◌, refl, ap}
use mathlib.Core.List.{List, [], ◌∷◌, ◌++◌}
use Prim.Native.Nat.{ℕ, ◌<◌}
use Rattle.theory.specs.Table.{Table, Columns}
use Rattle.theory.specs.Words.{Word, empty, letter, walk, retrace}

pub word_append : {n : ℕ} {u v : List ℕ} → Word n u → Word n v → Word n (u ++ v)
word_append empty v = v
word_append (letter h u) v = letter h (word_append u v)

pub word_left : {n : ℕ} (u v : List ℕ) → Word n (u ++ v) → Word n u
word_left [] v w = empty
word_left (g ∷ u) v (letter h w) = letter h (word_left u v w)

pub word_right : {n : ℕ} (u v : List ℕ) → Word n (u ++ v) → Word n v
word_right [] v w = w
word_right (g ∷ u) v (letter h w) = word_right u v w

pub walk_append : (step : ℕ → ℕ → ℕ) (e : ℕ) (u v : List ℕ) → walk step e (u ++ v) ≡ walk step (walk step e u) v
walk_append step e [] v = refl
walk_append step e (g ∷ u) v = walk_append step (step e g) u v

-- To go back along two words is to go back along the second and then along the first.
pub retrace_append : (back : ℕ → ℕ → ℕ) (e : ℕ) (u v : List ℕ) → retrace back e (u ++ v) ≡ retrace back (retrace back e v) u
retrace_append back e [] v = refl
retrace_append back e (g ∷ u) v = ap (λ x. back x g) (retrace_append back e u v)

module _ {n N : ℕ} {step : ℕ → ℕ → ℕ} (T : Table n N step) where
  pub walk_closed : {e : ℕ} {w : List ℕ} → e < N → Word n w → walk step e w < N
  walk_closed e empty = e
  walk_closed {e = x} e (letter {g = h} g w) = walk_closed {e = step x h} (T.closed e g) w

module _ {n N : ℕ} {step back : ℕ → ℕ → ℕ} (B : Columns n N step back) where
  pub retrace_closed : {e : ℕ} {w : List ℕ} → e < N → Word n w → retrace back e w < N
  retrace_closed e empty = e
  retrace_closed e (letter g w) = B.closed (retrace_closed e w) g

  pub walk_retrace : {e : ℕ} {w : List ℕ} → e < N → Word n w → walk step (retrace back e w) w ≡ e
  walk_retrace e empty = refl
  walk_retrace e (letter g w) = rw (B.step_back (retrace_closed e w) g) (walk_retrace e w)

-- What leads the same way by each generator leads the same way along a word, and back along it.
module _ {n N : ℕ} {step step' : ℕ → ℕ → ℕ} (T : Table n N step) (agree : (e g : ℕ) → e < N → g < n → step' e g ≡ step e g) where
  pub walk_agree : {e : ℕ} {w : List ℕ} → e < N → Word n w → walk step' e w ≡ walk step e w
  walk_agree e empty = refl
  walk_agree {e} h (letter {g = g} k w) = rw (agree e g h k) (walk_agree {e = step e g} (T.closed h k) w)

module _ {n N : ℕ} {step back back' : ℕ → ℕ → ℕ} (B : Columns n N step back) (agree : (e g : ℕ) → e < N → g < n → back' e g ≡ back e g) where
  pub retrace_agree : {e : ℕ} {w : List ℕ} → e < N → Word n w → retrace back' e w ≡ retrace back e w
  retrace_agree e empty = refl
  retrace_agree {e} h (letter {g = g} {w = u} k w) = rw (retrace_agree h w) (agree (retrace back e u) g (retrace_closed B h w) k)
