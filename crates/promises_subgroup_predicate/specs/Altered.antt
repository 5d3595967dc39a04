-- By what `from_predicate` is refused whatever the overgroup's buffer holds.
use Rattle.std.specs.Prelude.{ℕ, ◌<◌, ◌≡◌, List, [], ◌∷◌, length, get_or, replicate}
use Rattle.egg.specs.declared.Refusal.{Refusal}
use Rattle.std.specs.Prelude.{Err}
use Rattle.egg.specs.Answers.{numbered}
use Rattle.build_reading.specs.Reading.{read_all}
use Rattle.build_lending.specs.Finish.{built, finished_placed}
use Rattle.build_lending.specs.Lending.{table_need}
use Rattle.build_checks_laws.specs.Numbers.{RefusalIn}
use Rattle.group_handles.specs.declared.Group.{Group}
use Rattle.group_handles.specs.Handles.{handles, elements_of}
use Rattle.theory.specs.Orbit.{Orbit, numbered_step, Appearing}
use Rattle.build_numbering_laws.specs.Source.{AllAnswered, RefusedAt}
use Rattle.subgroup_rows.specs.Rows.{product_by}
use Rattle.promises_subgroup.specs.Altered.{steps_read}
use Rattle.promises_subgroup_predicate.specs.Predicate.{Gathered}

-- By what a call of `from_predicate` is refused that has started: by 15, where eight members are chosen and a further one is to be the ninth; or a build by at most
-- eight members in their order (`Gathered`) is. That is by 17, as the first product that this build asked for and that was not answered: its element has been
-- reached and its generator is one of those (`RefusedAt`); or as the build of composed rows is, of the steps that are read, each product that it asked for being
-- answered (`AllAnswered`).
pub data ToldStops (from : List ℕ) (over : Group) (members : List ℕ) (room : ℕ) (r : Refusal) : Type 0 where
  ninth : (gens : List ℕ) (x : ℕ) → Gathered (λ y. get_or members y 0) x gens → length gens ≡ 8 → x < elements_of (handles over) → ¬ (get_or members x 0 ≡ 0)
      → r ≡ numbered 15 0 0 0 → ToldStops from over members room r
  stopped : (gens : List ℕ) (count : ℕ) (elt : ℕ → ℕ) → Gathered (λ y. get_or members y 0) (elements_of (handles over)) gens → RefusalIn (17 ∷ []) r
      → Appearing (length gens) (elements_of (handles over)) (steps_read from over gens) 0 count elt
      → (asked : RefusedAt (product_by from (handles over) gens) 0 (length gens) room count elt r)
      → Orbit (length gens) (steps_read from over gens) 0 (elt asked.row) → ToldStops from over members room r
  by_steps : (gens : List ℕ) (count : ℕ) (elt : ℕ → ℕ) (w t w' : List ℕ) → Gathered (λ y. get_or members y 0) (elements_of (handles over)) gens
      → Appearing (length gens) (elements_of (handles over)) (steps_read from over gens) 0 count elt
      → AllAnswered (product_by from (handles over) gens) 0 (length gens) room count elt
      → finished_placed (read_all (numbered_step count elt (steps_read from over gens)) (length gens) room (replicate (table_need 8 room) 0)) (length gens) w
      ≡ built (Err r) t w' → ToldStops from over members room r
