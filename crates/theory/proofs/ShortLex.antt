-- What is used of the order of words.
use mathlib.Core.Path.{◌≡◌, refl}
use mathlib.Core.Logic.{inl, inr}
use mathlib.Core.List.{List, [], ◌∷◌, ◌++◌}
use Prim.Native.Nat.{ℕ, ◌<◌}
use native.Mathlib.Nat.{lt_trans}
use native.Mathlib.Omega.{arith}
use lib.ListN.{length-append}
use Rattle.theory.specs.WordOrder.{Lex, here, there, Before, shorter, earlier, AtMost}

lex_append : {u v : List ℕ} → Lex u v → (s t : List ℕ) → Lex (u ++ s) (v ++ t)
lex_append (here h) s t = here h
lex_append (there l) s t = there (lex_append l s t)

lex_last : (u : List ℕ) {g h : ℕ} → g < h → Lex (u ++ g ∷ []) (u ++ h ∷ [])
lex_last [] h = here h
lex_last (x ∷ u) h = there (lex_last u h)

lex_trans : {u v w : List ℕ} → Lex u v → Lex v w → Lex u w
lex_trans (here h) (here k) = here (lt_trans h k)
lex_trans (here h) (there k) = here h
lex_trans (there h) (here k) = here k
lex_trans (there h) (there k) = there (lex_trans h k)

pub lex_differs : {u v : List ℕ} → Lex u v → ¬ (u ≡ v)
lex_differs (here {g} {h} l) e = let q : g ≡ h = cc in omega arith
lex_differs (there {u = u} {v} l) e = lex_differs l (let q : u ≡ v = cc in q)

-- Of two words not each is earlier than the other.
pub lex_asym : {u v : List ℕ} → Lex u v → ¬ (Lex v u)
lex_asym h k = lex_differs (lex_trans h k) refl

pub before_trans : {u v w : List ℕ} → Before u v → Before v w → Before u w
before_trans (shorter h) (shorter k) = shorter (omega arith)
before_trans (shorter h) (earlier e k) = shorter (omega arith)
before_trans (earlier e h) (shorter k) = shorter (omega arith)
before_trans (earlier e h) (earlier f k) = earlier (omega arith) (lex_trans h k)

-- A letter more at the end of both keeps the order, and the last letter decides between words that are equal before it.
pub before_append : {u v : List ℕ} → Before u v → (g h : ℕ) → Before (u ++ g ∷ []) (v ++ h ∷ [])
before_append (shorter k) g h = shorter (simp length-append (omega arith))
before_append (earlier e k) g h = earlier (simp length-append (omega arith)) (lex_append k _ _)

pub before_last : (u : List ℕ) {g h : ℕ} → g < h → Before (u ++ g ∷ []) (u ++ h ∷ [])
before_last u h = earlier (simp length-append) (lex_last u h)

pub nil_before : (u : List ℕ) (g : ℕ) → Before [] (u ++ g ∷ [])
nil_before u g = shorter (simp length-append (omega arith))

pub at_most_trans : {u v w : List ℕ} → AtMost u v → AtMost v w → AtMost u w
at_most_trans (inl e) m = rw e m
at_most_trans (inr h) (inl e) = inr (rw e at h)
at_most_trans (inr h) (inr k) = inr (before_trans h k)

pub at_most_append : {u v : List ℕ} → AtMost u v → (g : ℕ) → AtMost (u ++ g ∷ []) (v ++ g ∷ [])
at_most_append (inl e) g = inl (rw e)
at_most_append (inr b) g = inr (before_append b g g)
