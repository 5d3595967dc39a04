-- This file defines how a question that answers a count goes on from an earlier answer, so that the first refusal stands. Document 01: "17 in what
-- they read (13 or 17 as met)".
use Rattle.std.specs.Prelude.{ℕ}
use Rattle.egg.specs.Answers.{Counted, Reached}
use Rattle.std.specs.Prelude.{Ok, Err}

-- Goes on with a count; a refusal stands.
abbrev pub on_counted : Counted → (ℕ → Counted) → Counted
on_counted (Ok k) f = f k
on_counted (Err r) f = Err r

-- Goes on with an element's number; a refusal stands.
abbrev pub on_element : Reached → (ℕ → Counted) → Counted
on_element (Ok e) f = f e.0
on_element (Err r) f = Err r
