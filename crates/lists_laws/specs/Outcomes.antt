-- What the answer of a question over lists means, each outcome with exactly when it comes. Order 2: "The result at each place equals the single call at that
-- place. If any place would be refused, the first such place and its refusal come back and the output list is unchanged."
-- Assumes nothing.
use Rattle.std.specs.Prelude.{ℕ, ◌≤◌, ◌<◌, ◌≡◌, List, length, get_or}
use Rattle.egg.specs.declared.Refusal.{Refusal}
use Rattle.egg.specs.declared.GroupElementId.{GroupElementId}
use Rattle.egg.specs.Answers.{Reached}
use Rattle.std.specs.Prelude.{Ok, Err}
use Rattle.lists.specs.Answers.{fine}
use Rattle.lists.specs.declared.ListRefusal.TheVariants.{RefusedAt}
use Rattle.lists.specs.Lists.{Answered, answered, lists_refused}
use Rattle.lists.specs.Worked.{AllRight}

-- The single call is not refused.
pub record Right (x : Reached) : Type 0 where
  pub element : GroupElementId
  pub reached : x ≡ Ok element

-- Lists that are taken: 4 is given "when the lists' lengths differ or pass 4,096". A question with one list gives its length twice.
pub record Alike (first second out : ℕ) : Type 0 where
  pub inputs : first ≡ second
  pub output : first ≡ out
  pub within : first ≤ 4096

-- "the first such place and its refusal", among k places: the single call is refused there, and at no place before.
pub record FirstRefusal (k : ℕ) (single : ℕ → Reached) (place : ℕ) (why : Refusal) : Type 0 where
  pub within : place < k
  pub refused : single place ≡ Err why
  pub before : (earlier : ℕ) → earlier < place → Right (single earlier)

-- "The result at each place equals the single call at that place": a list of k places, with the element that the single call reaches at each.
pub record Results (k : ℕ) (single : ℕ → Reached) (results : List ℕ) : Type 0 where
  pub long : length results ≡ k
  pub right : AllRight k single results

-- The outcomes of a question over lists of `first` and `second` places and the output list `out`. "Refusals: 4 when the lists' lengths differ or pass 4,096,
-- before anything else; then the first refused place", each with "the output list .. unchanged"; else a new output.
pub data Outcome (first second : ℕ) (single : ℕ → Reached) (out : List ℕ) : Answered → Type 0 where
  unlike : (Alike first second (length out) → ⊥) → Outcome first second single out (answered lists_refused out)
  stops : (place : ℕ) (why : Refusal) → Alike first second (length out) → FirstRefusal first single place why
      → Outcome first second single out (answered (Err (RefusedAt (record { place = place; why = why }))) out)
  fills : (results : List ℕ) → Alike first second (length out) → Results first single results → Outcome first second single out (answered fine results)

-- Nothing is refused, and the output has these k values.
pub record Filled (whole : Answered) (k : ℕ) (value : ℕ → ℕ) : Type 0 where
  pub results : List ℕ
  pub answers : whole ≡ answered fine results
  pub long : length results ≡ k
  pub each : (place : ℕ) → place < k → get_or results place 0 ≡ value place
