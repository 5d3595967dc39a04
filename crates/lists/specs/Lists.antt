-- A question asked over lists. Order 2: "The result at each place equals the single call at that place. If any place would be refused, the first such place
-- and its refusal come back and the output list is unchanged. Empty lists are fine. .. Refusals: 4 when the lists' lengths differ or pass 4,096, before
-- anything else; then the first refused place."
-- Assumes nothing.
use Rattle.std.specs.Prelude.{ℕ, zero, suc, ◌+◌, List, [], ◌∷◌, Bool, ◌&&◌, eqb, leb}
use Rattle.egg.specs.Answers.{Reached, numbered}
use Rattle.std.specs.Prelude.{Result, Ok, Err}
use Rattle.egg.specs.declared.GroupElementId.{GroupElementId}
use Rattle.egg.specs.Table.{pick}
use Rattle.egg.specs.Factor.{Paper, refusal_paper}
use Rattle.lists.specs.Answers.{Listed, fine}
use Rattle.lists.specs.declared.ListRefusal.{ListRefusal}
use Rattle.lists.specs.declared.ListRefusal.TheVariants.{RefusedAt, ListsRefused}

-- "When an answer is an enum, a definition sets out this paper's number and values for each of its cases": the paper's refusal, number 0 where there is none,
-- and the place of the lists that it was given at. Refused lists have no such place, and 0 stands for it; no single call that is asked over
-- lists gives their number, 4 (`factor_places`, `product_places`).
pub record ListPaper : Type 0 where
  pub place : ℕ
  pub refusal : Paper

abbrev pub listed_paper : Listed → ListPaper
listed_paper (Ok _) = record { place = 0; refusal = record { number = 0; a = 0; b = 0; c = 0 } }
listed_paper (Err (RefusedAt at)) = record { place = at.place; refusal = refusal_paper at.why }
listed_paper (Err (ListsRefused why)) = record { place = 0; refusal = refusal_paper why }

-- "4 when the lists' lengths differ or pass 4,096". A question with one list gives its length twice.
unfoldable pub lengths_right : (first second out : ℕ) → Bool
lengths_right first second out = eqb first second && (eqb first out && leb first 4096)

abbrev pub lists_refused : Listed
lists_refused = Err (ListsRefused (numbered 4 0 0 0))

-- A place that is refused decides; else what comes after it.
abbrev pub or_here : Reached → ℕ → Listed → Listed
or_here (Ok e) place later = later
or_here (Err r) place later = Err (RefusedAt (record { place = place; why = r }))

-- The single call's answer at a place, whose refusal is the place's.
abbrev pub placed : Reached → ℕ → Result GroupElementId ListRefusal
placed (Ok e) place = Ok e
placed (Err r) place = Err (RefusedAt (record { place = place; why = r }))

-- The first refusal among the single calls at i, i + 1, .. , k of them.
unfoldable pub first_refused : (k : ℕ) (single : ℕ → Reached) (i : ℕ) → Listed
first_refused zero single i = fine
first_refused (suc k) single i = or_here (single i) i (first_refused k single (i + 1))

-- What a single call's answer puts into a list. A refused place's number is never handed over.
abbrev pub number_of : Reached → ℕ
number_of (Ok e) = e.0
number_of (Err r) = 0

-- The numbers of the single calls at i, i + 1, .. , k of them.
unfoldable pub numbers : (k : ℕ) (single : ℕ → Reached) (i : ℕ) → List ℕ
numbers zero single i = []
numbers (suc k) single i = number_of (single i) ∷ numbers k single (i + 1)

-- "the output list is unchanged", but where all places are right.
abbrev pub left_by : Listed → List ℕ → List ℕ → List ℕ
left_by (Ok _) results out = results
left_by (Err why) results out = out

-- What a question over lists answers, and what the output list holds then.
pub data Answered : Type 0 where
  answered : Listed → List ℕ → Answered

-- The single calls at all k places.
unfoldable pub each_place : (k : ℕ) (single : ℕ → Reached) (out : List ℕ) → Answered
each_place k single out = answered (first_refused k single 0) (left_by (first_refused k single 0) (numbers k single 0) out)

-- The whole question: 4, before any place is looked at; then the places.
unfoldable pub over_lists : (right : Bool) (k : ℕ) (single : ℕ → Reached) (out : List ℕ) → Answered
over_lists right k single out = pick right (each_place k single out) (answered lists_refused out)
