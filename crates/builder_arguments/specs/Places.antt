-- What is tested before a step of a build is stored. Document 01: "Calls on handles check 17 in the handle, then 14".
use Rattle.std.specs.Prelude.{ℕ, List, Bool, ◌&&◌, ltb, leb, length}
use Rattle.egg.specs.declared.GroupElementId.{GroupElementId}
use Rattle.egg.specs.declared.GeneratorId.{GeneratorId}
use Rattle.egg.specs.declared.Factor.{Factor}
use Rattle.egg.specs.Answers.{Verdict, fine}
use Rattle.egg.specs.Table.{pick, length_of}
use Rattle.egg.specs.Scan.{refused_of, and_then}
use Rattle.egg.specs.Factor.{fits_in, stored_step}

-- Refusal 17 in the handle, then 14 for an element (place 0) and a generator (place 1).
unfoldable pub placed : ℕ → Factor → GroupElementId → GeneratorId → Verdict
placed len f e g =
    pick (fits_in len f)
    (pick (leb f.elements e.0) (refused_of 14 0 0 0) (pick (leb f.generators g.0) (refused_of 14 1 0 0) fine))
    (refused_of 17 0 0 0)

-- The same, then 14 for a second element (place 2).
unfoldable pub placed_step : (len : ℕ) (f : Factor) (e : GroupElementId) (g : GeneratorId) (r : GroupElementId) → Verdict
placed_step len f e g r = and_then (placed len f e g) (pick (leb f.elements r.0) (refused_of 14 2 0 0) fine)

-- The same, "then 17 in what they read": the step that would be overwritten is read, to say whether the place was new, and it is out of range where it
-- leads beyond the elements of the build.
unfoldable pub storable : (t : List ℕ) (f : Factor) (e : GroupElementId) (g : GeneratorId) (r : GroupElementId) → Verdict
storable t f e g r = and_then (placed_step (length t) f e g r) (pick (ltb f.elements (stored_step t f e.0 g.0)) (refused_of 17 0 0 0) fine)

-- True where 17 is due, "a number read from it is out of range": there is room, since 5 comes before, and the recorded word of e is longer than any
-- word may be.
unfoldable pub over_long : List ℕ → Factor → GroupElementId → Bool
over_long s f e = ltb f.elements f.room && ltb 4096 (length_of s f.generators e.0)
