-- From the list that the results were gathered in to the answer of the whole call.
-- Assumes nothing.
use Prim.Native.Nat.{ℕ}
use mathlib.Core.Path.{◌≡◌, refl, sym, ap, ◌∙◌}
use mathlib.Core.Bool.{Bool, true, false}
use mathlib.Core.List.{List, [], ◌∷◌}
use native.Mathlib.Omega.{arith}
use lib.ListN.{length, take, set}
use Rattle.egg.specs.declared.Refusal.{Refusal}
use Rattle.egg.specs.declared.GroupElementId.{GroupElementId}
use Rattle.egg.specs.Answers.{Reached}
use Rattle.std.specs.Prelude.{Result, Ok, Err}
use Rattle.lists.specs.Answers.{Listed, fine}
use Rattle.lists.specs.declared.ListRefusal.TheVariants.{RefusedAt}
use Rattle.lists.specs.declared.ListRefusal.{ListRefusal}
use Rattle.lists.specs.Lists.{placed, first_refused, numbers, left_by, Answered, answered, each_place, lists_refused, over_lists}
use Rattle.lists.specs.Worked.{Worked}
use Rattle.lists.proofs.Places.{refused_at}

-- Only the results of right places are looked at.
pub left_same : (said : Listed) {results numbered : List ℕ} (out : List ℕ) → (said ≡ fine → results ≡ numbered) → left_by said results out ≡ left_by said numbered out
left_same (Ok _) out h = h refl
left_same (Err why) out h = refl

pub handed : {k : ℕ} {single : ℕ → Reached} {said : Listed} {results : List ℕ} {whole : Answered} (out : List ℕ) → Worked k single said results → length out ≡ k
    → whole ≡ answered said (left_by said (take (length out) results) out) → whole ≡ each_place k single out
unfolding each_place
handed {k} {single} {said} {results} out w long e =
    e ∙ ap (λ (j : ℕ). answered said (left_by said (take j results) out)) long ∙ ap (λ (l : List ℕ). answered said l) (left_same said out w.filled)
    ∙ ap (λ (v : Listed). answered v (left_by v (numbers k single 0) out)) w.told

-- One place alone.
module _ {said : Reached} (out : List ℕ) where
  one_stopped : {r : Refusal} → said ≡ Err r → answered (Err (RefusedAt (record { place = 0; why = r }))) out ≡ each_place 1 (λ i. said) out
  unfolding each_place first_refused
  one_stopped told = rw told

  pub one_reached : {e : GroupElementId} → said ≡ Ok e → length out ≡ 1 → answered fine (set out 0 e.0) ≡ each_place 1 (λ i. said) out
  unfolding each_place first_refused numbers
  one_reached {e} told long = rw told (ap (answered fine) (whole out long)) where
    whole : (l : List ℕ) → length l ≡ 1 → set l 0 e.0 ≡ e.0 ∷ []
    whole [] h = absurd (omega (arith, h))
    whole (x ∷ []) h = refl
    whole (x ∷ y ∷ l) h = absurd (omega (arith, h))

  pub only_place : {k : ℕ} (single : ℕ → Reached) {whole : Answered} → k ≡ 1 → said ≡ single 0 → whole ≡ each_place 1 (λ i. said) out
      → whole ≡ each_place k single out
  unfolding each_place first_refused numbers
  only_place single one q e = e ∙ rw (one, q)

pub one_refused : (said : Reached) (out : List ℕ) {at : Result GroupElementId ListRefusal} {why : ListRefusal} → at ≡ placed said 0 → at ≡ Err why
    → answered (Err why) out ≡ each_place 1 (λ i. said) out
one_refused said out p stop =
    let R = refused_at said 0 (sym p ∙ stop) in
    ap (λ (y : ListRefusal). answered (Err y) out) (sym R.2) ∙ one_stopped out R.1

module _ {right test : Bool} (q : test ≡ right) (k : ℕ) (single : ℕ → Reached) (out : List ℕ) where
  pub lists_wrong : {r : Listed} → test ≡ false → r ≡ lists_refused → answered r out ≡ over_lists right k single out
  unfolding over_lists
  lists_wrong h e = rw (← q, h, e)

  pub lists_right : {whole : Answered} → test ≡ true → whole ≡ each_place k single out → whole ≡ over_lists right k single out
  unfolding over_lists
  lists_right h e = rw (← q, h, e)
