-- What the list of the verdict holds after its stores, and what a question over lists leaves.
use Prim.Native.Nat.{ℕ}
use mathlib.Core.Path.{◌≡◌, refl, ap, ◌∙◌}
use mathlib.Core.Bool.{true}
use mathlib.Core.List.{List, [], ◌∷◌}
use Rattle.std.specs.Prelude.{Ok, Err}
use Rattle.egg.specs.declared.Refusal.{Refusal}
use Rattle.egg.specs.Refusals.{refusal_paper}
use Rattle.egg.specs.Answers.{Reached, Verdict}
use Rattle.egg.specs.Table.{put_at}
use Rattle.egg.specs.Factor.{verdict_paper}
use Rattle.capi_values.specs.Bridge.{paper_into, telling}
use Rattle.capi_values.proofs.Laws.{told}
use Rattle.lists.specs.declared.RefusedPlace.{RefusedPlace}
use Rattle.lists.specs.declared.ListRefusal.{ListRefusal}
use Rattle.lists.specs.declared.ListRefusal.TheVariants.{RefusedAt, ListsRefused}
use Rattle.lists.specs.Answers.{Listed}
use Rattle.lists.specs.Lists.{lengths_right, listed_paper, Answered, answered, each_place, over_lists}
use Rattle.lists.proofs.Answers.{lists_right, only_place}
use Rattle.capi_lists.specs.Told.{listed_into, listed_told}

-- The verdict that a question's answer comes to, and the place after it.
module _ (l : List ℕ) {r : ℕ} {l₁ : List ℕ} where
  listed_written : (said : Listed) (v : Verdict) (place : ℕ) → listed_paper said ≡ record { place = place; refusal = verdict_paper v }
      → (r ≡ (verdict_paper v).number) × (l₁ ≡ put_at (paper_into v l) 4 place) → (r ≡ (listed_paper said).refusal.number) × (l₁ ≡ listed_into said l)
  unfolding listed_into paper_into
  listed_written said v place e (p, q) = (rw e p, q ∙ rw e)

  pub told_at : {why : ListRefusal} {at : RefusedPlace} → why ≡ RefusedAt at → (r ≡ (refusal_paper at.why).number) × (l₁ ≡ put_at (paper_into (Err at.why) l) 4 at.place)
      → (r ≡ (listed_paper (Err why)).refusal.number) × (l₁ ≡ listed_into (Err why) l)
  told_at {why} {at} q h = listed_written (Err why) (Err at.why) at.place (ap (λ (x : ListRefusal). listed_paper (Err x)) q) h

  pub told_lists : {all : ListRefusal} {why : Refusal} → all ≡ ListsRefused why → (r ≡ (refusal_paper why).number) × (l₁ ≡ put_at (paper_into (Err why) l) 4 0)
      → (r ≡ (listed_paper (Err all)).refusal.number) × (l₁ ≡ listed_into (Err all) l)
  told_lists {all} {why} q h = listed_written (Err all) (Err why) 0 (ap (λ (x : ListRefusal). listed_paper (Err x)) q) h

  pub told_fine : {said : Listed} → said ≡ Ok tt → (r ≡ 0) × (l₁ ≡ put_at (paper_into (Ok tt) l) 4 0) → (r ≡ (listed_paper said).refusal.number) × (l₁ ≡ listed_into said l)
  told_fine {said} q h = listed_written said (Ok tt) 0 (ap listed_paper q) h

pub listed_told_lem : {said : Listed} {out : List ℕ} {x : Answered} (l : List ℕ) {r : ℕ} {l₁ : List ℕ} → answered said out ≡ x
    → (r ≡ (listed_paper said).refusal.number) × (l₁ ≡ listed_into said l) → telling r l₁ (out ∷ []) ≡ listed_told x l
listed_told_lem l e p = told p ∙ ap (λ (y : Answered). listed_told y l) e

-- Lists of one place each are right, and the single call's answer is handed over and told.
module _ {first second third : ℕ} (one : (first ≡ 1) × ((second ≡ 1) × (third ≡ 1))) where
  one_right : lengths_right first second third ≡ true
  unfolding lengths_right
  one_right = rw (one.0, one.1.0, one.1.1)

  pub one_told : (single : ℕ → Reached) (out l : List ℕ) {reached : Reached} {said : Listed} {left : List ℕ} {r : ℕ} {l₁ : List ℕ} → reached ≡ single 0
      → answered said left ≡ each_place 1 (λ i. reached) out → (r ≡ (listed_paper said).refusal.number) × (l₁ ≡ listed_into said l)
      → telling r l₁ (left ∷ []) ≡ listed_told (over_lists (lengths_right first second third) first single out) l
  one_told single out l q e = listed_told_lem l (lists_right refl first single out one_right (only_place out single one.0 q e))
