-- This file defines where the rows of a subgroup's table lead: to the overgroup's products.
use Rattle.std.specs.Prelude.{ℕ, List, get_or}
use Rattle.egg.specs.declared.Factor.{Factor}
use Rattle.egg.specs.Answers.{Reached}
use Rattle.group_digits.specs.Digits.{composes}

-- What appears at x by the generator g is the overgroup's `compose` of x with the element that `gens` lists for g. Document 01: "Numbering in order
-- of first appearance".
abbrev pub product_by : (from : List ℕ) (hs : List Factor) (gens : List ℕ) (x g : ℕ) → Reached
product_by from hs gens x g = composes from hs x (get_or gens g 0)
