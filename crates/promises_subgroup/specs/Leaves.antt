-- This file states what a refused call that makes a subgroup leaves, in the words of every call that makes a factor (`Leaves` of promises): its four
-- lent buffers with their needed stretches, and the numbers that `from_generators` may give before the build starts and afterwards.
use Rattle.std.specs.Prelude.{ℕ, List, [], ◌∷◌}
use Rattle.build_lending.specs.Lending.{work_need}
use Rattle.build_checks_laws.specs.Numbers.{late_numbers}
use Rattle.promises.specs.Leaves.{Lent, table_for}
use Rattle.promises.specs.Unaltered.{Wrote}

-- The four buffers: "a subgroup's maps need the overgroup's count and R", here M and the room; table and work are needed as by any build with n
-- generators.
abbrev pub maps_for : (table : List ℕ) (start : ℕ) (work inn outw : List ℕ) (n M room : ℕ) (t w i o : List ℕ) → List Lent
maps_for table start work inn outw n M room t w i o =
    table_for table start n room t
    ∷ record { entry = work; start = 0; need = work_need n room; exit = w }
    ∷ record { entry = inn; start = 0; need = M; exit = i }
    ∷ record { entry = outw; start = 0; need = room; exit = o }
    ∷ []

-- The numbers before `from_generators` starts: "Calls on handles check 17 in the handle, then 14, then 15, then 1 to 4".
abbrev pub generators_before : List ℕ
generators_before = 17 ∷ 14 ∷ 15 ∷ 1 ∷ 4 ∷ []

-- The numbers afterwards, whatever the overgroup's buffer holds: 17, for "then 17 in what they read", and what a build from composed rows may give
-- but for 7: a number in order of first appearance never skips ahead.
abbrev pub generators_after : List ℕ
generators_after = 17 ∷ 5 ∷ 6 ∷ 8 ∷ late_numbers

-- "Longer buffers are taken and the excess is untouched": of each buffer at most the needed stretch was written.
abbrev pub AllWrote : List Lent → Type 0
AllWrote [] = Unit {0}
AllWrote (b ∷ l) = Wrote b × AllWrote l
