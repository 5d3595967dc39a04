-- How the builder's answers are passed: by numbers, as those of a factor are.
use Rattle.std.specs.Prelude.{ℕ, List, [], ◌∷◌}
use Rattle.std.specs.Prelude.{Ok, Err}
use Rattle.egg.specs.Answers.{Made, Reached, answer_of}
use Rattle.egg.specs.Table.{put_at}
use Rattle.egg.specs.Factor.{verdict_paper, reached_paper}
use Rattle.builder.specs.Answers.{Begun, Storing}
use Rattle.builder.specs.declared.Grown.{Grown}
use Rattle.builder.specs.declared.Stored.TheVariants as stored
use Rattle.builder.specs.Calls.{Leaving, leaving}
use Rattle.capi_values.specs.Bridge.{refusal_code, papered, made_into, Telling, telling}

-- One number for a stored step, which "says whether the place was new": 1 or 0, or the refusal's.
abbrev pub stored_code : Storing → ℕ
stored_code (Ok stored.New) = 1
stored_code (Ok stored.Known) = 0
stored_code (Err r) = refusal_code r

-- An answer about elements there: 0 and the element, or the refusal with its places.
unfoldable pub reached_into : Reached → List ℕ → List ℕ
reached_into r out = papered (reached_paper r) out

-- What `begin` answers as what a build does: the handle of its builder is as a factor's.
abbrev pub begun_made : Begun → Made
begun_made (Ok b) = Ok b.0
begun_made (Err r) = Err r

-- What `begin` answers, and after it how many elements its builder knows: 0 where it was refused.
unfoldable pub begun_into : Begun → List ℕ → List ℕ
begun_into b out = made_into (begun_made b) out

-- What `add_successor` answers, and after it how many elements its builder knows: 0 where a refusal ended the build.
unfoldable pub grown_into : Grown → List ℕ → List ℕ
grown_into g out = put_at (reached_into g.answer out) 4 g.builder.0.elements

-- What `begin` leaves: its number, its answer in `out`, and the table.
abbrev pub begun_told : Leaving Begun → List ℕ → Telling
begun_told (leaving b t) out = telling (verdict_paper (answer_of b)).number (begun_into b out) (t ∷ [])

-- The same of `add_successor`; its number is 0 where it has made an element.
abbrev pub grown_told : Leaving Grown → List ℕ → Telling
grown_told (leaving g t) out = telling (reached_paper g.answer).number (grown_into g out) (t ∷ [])

-- The one number of a stored step, and what the table holds.
abbrev pub stored_told : Leaving Storing → Leaving ℕ
stored_told (leaving s t) = leaving (stored_code s) t
