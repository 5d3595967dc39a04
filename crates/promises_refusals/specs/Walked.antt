-- What a walk is answered with, on every input, altered or not. Document 01: "Calls on handles check 17 in the handle, then 14, then 15, .. then 17 in what they
-- read"; 14 has its "position among these from 0, each entry of a word or list counted": the start has 0, and the letter at i has i + 1.
use Rattle.std.specs.Prelude.{ℕ, ◌≡◌, Bool, true, false, List, ◌∷◌, map, length}
use Rattle.egg.specs.Factor.{Paper}
use Rattle.factor_walk.specs.Walked.{shown}
use Rattle.promises_refusals.specs.Firsts.{FirstOf}
use Rattle.promises_refusals.specs.Papers.{paper}
use Rattle.promises_refusals.specs.Asked.{Argument, below, Outside, AllInside}

-- The arguments of a walk in their order: the start, of N elements, and then each letter, of n generators.
abbrev pub walk_arguments : (N n e : ℕ) (w : List ℕ) → List Argument
walk_arguments N n e w = below e N ∷ map (λ g. below g n) w

-- 17 where a handle does not fit; then 14 with the position of the first argument out of range, as far as 32 bits can tell it; then 15 where the product is not
-- within its limits, as a factor always is; and else what the steps one after another come to, which is `inside`.
pub data WalkAsked (fits : Bool) (l : List Argument) (within : Bool) (inside : Paper) : Paper → Type 0 where
  no_handle : fits ≡ false → WalkAsked fits l within inside (paper 17 0 0 0)
  out_of_range : {k : ℕ} → fits ≡ true → FirstOf (length l) (Outside l) k → WalkAsked fits l within inside (paper 14 (shown k) 0 0)
  too_large : fits ≡ true → AllInside l → within ≡ false → WalkAsked fits l within inside (paper 15 0 0 0)
  in_range : fits ≡ true → AllInside l → within ≡ true → WalkAsked fits l within inside inside
