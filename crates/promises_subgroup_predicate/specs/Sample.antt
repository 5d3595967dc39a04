-- This file has the group of the numbers modulo 6, for what is computed of a subgroup by a predicate.
use Rattle.std.specs.Prelude.{ℕ, ◌+◌, ◌%◌, List, get_or, replicate}
use Rattle.egg.specs.Answers.{Counted, Reached}
use Rattle.std.specs.Prelude.{Ok}
use Rattle.build_lending.specs.Finish.{built}
use Rattle.build_numbering.specs.Build.{renumbering}
use Rattle.subgroup_predicate_choices.specs.Choices.{Picked, picked}
use Rattle.subgroup_predicate.specs.Predicate.{predicate_in}

-- What is compared of a build by a predicate: the elements that it was made by, its answer, and the two maps.
pub record Sampled : Type 0 where
  pub gens : List ℕ
  pub answer : Counted
  pub inn : List ℕ
  pub outw : List ℕ

-- These parts of a build's outcome.
abbrev pub sampled : Picked → Sampled
sampled (picked gens (renumbering (built c t w) inn outw)) = record { gens = gens; answer = c; inn = inn; outw = outw }

-- The product of two elements in the group of the numbers modulo 6.
abbrev pub plus_six : ℕ → ℕ → Reached
plus_six y x = Ok (record { 0 = (y + x) % 6 })

-- The build in that group, with this room, by the predicate that is true where the byte is not 0.
abbrev pub tells_six : List ℕ → ℕ → Sampled
tells_six bytes room = sampled (predicate_in 120 (replicate 200 0) plus_six room 6 room (λ y. get_or bytes y 0))
