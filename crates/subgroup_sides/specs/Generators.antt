-- This file defines the generators of the subgroup's side, below · factor · above, and which elements they are.
use Rattle.std.specs.Prelude.{ℕ, ◌*◌, ◌-◌, List, ltb}
use Rattle.egg.specs.Answers.{Reached}
use Rattle.std.specs.Prelude.{Ok}
use Rattle.egg.specs.Table.{pick}
use Rattle.egg.specs.Factor.{read_step, stretch}
use Rattle.egg.specs.Answers.{on_reached}
use Rattle.group_handles.specs.Handles.{handles, generators_of}
use Rattle.group_digits.specs.Digits.{step_in}
use Rattle.subgroup_build.specs.declared.Subgroup.{Subgroup}
use Rattle.subgroup_sides.specs.Sides.{stride_of}

-- The number k·y for the element y that was reached: y's number in a product that has k elements below its factors.
abbrev pub scaled : ℕ → Reached → Reached
scaled k r = on_reached r (λ y. Ok (record { 0 = k * y }))

-- The generator g as an element of the subgroup's product. The generators are numbered in order: those of the factors below, the factor's own, those
-- above.
unfoldable pub side_generator : List ℕ → List ℕ → Subgroup → ℕ → Reached
side_generator from table s g =
    pick (ltb g (generators_of (handles s.below))) (step_in from (handles s.below) 0 g)
    (pick (ltb (g - generators_of (handles s.below)) s.factor.generators)
    (scaled (stride_of s)
    (read_step (stretch table s.factor) s.factor.generators s.factor.elements 0 (g - generators_of (handles s.below))))
    (scaled (stride_of s * s.factor.elements)
    (step_in from (handles s.above) 0 (g - generators_of (handles s.below) - s.factor.generators))))
