-- A refused `from_predicate` that has started leaves zeros in its needed stretches. Every build keeps the lengths of its lists, or leaves zeros.
use Prim.Native.Nat.{ℕ, zero, suc, ◌+◌}
use mathlib.Core.Path.{◌≡◌, refl, sym, ap, ◌∙◌}
use mathlib.Core.Bool.{Bool, true, false}
use mathlib.Core.List.{List, [], ◌∷◌, ◌++◌}
use lib.Dec.{ltb}
use lib.ListN.{length, get_or, take, replicate}
use Rattle.egg.specs.declared.Refusal.{Refusal}
use Rattle.egg.specs.Answers.{Reached}
use Rattle.std.specs.Prelude.{Ok, Err}
use Rattle.egg.specs.Table.{pick}
use Rattle.build_lending.specs.Finish.{built}
use Rattle.build_lending.specs.Lending.{table_need, work_need, within}
use Rattle.promises.specs.Leaves.{AllCleared}
use Rattle.group_handles.specs.declared.Group.{Group}
use Rattle.group_handles.specs.Handles.{handles, elements_of}
use Rattle.group_digits.specs.Digits.{composes}
use Rattle.build_numbering.specs.Build.{Renumbering, renumbering, renumber_in}
use Rattle.build_numbering_laws.proofs.Builds.{refused_maps}
use Rattle.subgroup_build.specs.Lent.{subgrouping}
use Rattle.subgroup_predicate_choices.specs.Choices.{Picked, picked, is_new_member, ninth, chooses, again_in}
use Rattle.subgroup_predicate.specs.Predicate.{predicate_in, told_back, from_predicate}
use Rattle.promises_subgroup.specs.Leaves.{maps_for}
use Rattle.promises_subgroup_predicate.specs.Tells.{Predicated}
use Rattle.promises_subgroup.proofs.Leaving.{refused_stretches, accepted_lengths, four_cleared}
use Rattle.promises_subgroup.proofs.Called.{fine_refused}
use Rattle.promises_subgroup_predicate.proofs.ToldCalls.{is_told, work_long}

-- Lists of these lengths, or zeros.
data Kept (size L M K : ℕ) : Renumbering → Type 0 where
  counted : {c : ℕ} {t w i o : List ℕ} → length t ≡ size → length w ≡ L → length i ≡ M → length o ≡ K → Kept size L M K (renumbering (built (Ok c) t w) i o)
  cleared : {f : Refusal} {t w i o : List ℕ} → t ≡ replicate size 0 → w ≡ replicate L 0 → i ≡ replicate M 0 → o ≡ replicate K 0
      → Kept size L M K (renumbering (built (Err f) t w) i o)

build_kept : (size : ℕ) (w₀ : List ℕ) (source : ℕ → ℕ → Reached) (n room M K x₀ : ℕ) {L : ℕ} → length w₀ ≡ L → Kept size L M K (renumber_in size w₀ source n room M K x₀)
build_kept size w₀ source n room M K x₀ {L} l = by (renumber_in size w₀ source n room M K x₀) refl where
  by : (r : Renumbering) → renumber_in size w₀ source n room M K x₀ ≡ r → Kept size L M K r
  by (renumbering (built (Ok c) t w) i o) q =
      let P = accepted_lengths size w₀ source n room M K x₀ q in counted P.0 (P.1.0 ∙ l) P.1.1.0 P.1.1.1
  by (renumbering (built (Err f) t w) i o) q =
      let Z = refused_stretches size w₀ source n room M K x₀ q in
      let Y = refused_maps size w₀ source n room M K x₀ q in
      cleared Z.0 (Z.1 ∙ ap (λ (k : ℕ). replicate k 0) l) Y.0 Y.1

abbrev last_of : Picked → Renumbering
last_of (picked gens r) = r

module _ (size L M K : ℕ) (again : List ℕ → List ℕ → Renumbering) (keeps : (gens w : List ℕ) → length w ≡ L → Kept size L M K (again gens w)) (byte : ℕ → ℕ) where
  turn : (a b : Bool) (u v : Picked) (gens t w i o : List ℕ) → length t ≡ size → length w ≡ L → length i ≡ M → length o ≡ K
      → Kept size L M K (last_of u) → Kept size L M K (last_of v) → Kept size L M K (last_of (pick a (pick b u (picked gens (ninth t w i o))) v))
  turn true true u v gens t w i o p q r s h k = h
  turn true false u v gens t w i o p q r s h k =
      cleared (ap (λ (m : ℕ). replicate m 0) p) (ap (λ (m : ℕ). replicate m 0) q) (ap (λ (m : ℕ). replicate m 0) r) (ap (λ (m : ℕ). replicate m 0) s)
  turn false b u v gens t w i o p q r s h k = k

  chooses_kept : (k x : ℕ) (gens : List ℕ) (r : Renumbering) → Kept size L M K r → Kept size L M K (last_of (chooses k again byte x gens r))
  unfolding chooses
  chooses_kept zero x gens r h = h
  chooses_kept (suc k) x gens (renumbering (built (Err f) t w) i o) h = h
  chooses_kept (suc k) x gens (renumbering (built (Ok c) t w) i o) (counted p q r s) =
      turn (is_new_member i byte x) (ltb (length gens) 8) (chooses k again byte (x + 1) (gens ++ (x ∷ [])) (again (gens ++ (x ∷ [])) w))
      (chooses k again byte (x + 1) gens (renumbering (built (Ok c) t w) i o)) gens t w i o p q r s
      (chooses_kept k (x + 1) (gens ++ (x ∷ [])) (again (gens ++ (x ∷ [])) w) (keeps (gens ++ (x ∷ [])) w q))
      (chooses_kept k (x + 1) gens (renumbering (built (Ok c) t w) i o) (counted p q r s))

predicate_kept : (size : ℕ) (w : List ℕ) (source : ℕ → ℕ → Reached) (room M K : ℕ) (byte : ℕ → ℕ)
    → Kept size (length w) M K (last_of (predicate_in size w source room M K byte))
predicate_kept size w source room M K byte =
    chooses_kept size (length w) M K (again_in size source room M K)
    (λ gens w₀ l. build_kept size w₀ (λ y g. source y (get_or gens g 0)) (length gens) room M K 0 l) byte M 0 [] (again_in size source room M K [] w)
    (build_kept size w (λ y g. source y (get_or [] g 0)) 0 room M K 0 refl)

module _ (from : List ℕ) (over : Group) (members table : List ℕ) (start : ℕ) (work inn outw : List ℕ) (room : ℕ) where
  -- Once it has started, every needed stretch is zero after a refusal.
  pub predicate_cleared : Predicated from over members table start work inn outw room → {r : Refusal} {t w i o : List ℕ}
      → from_predicate from over members table start work inn outw room ≡ subgrouping (Err r) t w i o
      → AllCleared (maps_for table start work inn outw 8 (elements_of (handles over)) room t w i o)
  predicate_cleared S {r} {t} {w} {i} {o} q =
      put (length (take (work_need 8 room) work)) (work_long from over members table start work inn outw room S)
      (predicate_in (table_need 8 room) (take (work_need 8 room) work) (composes from (handles over)) room (elements_of (handles over)) room (λ x. get_or members x 0))
      (predicate_kept (table_need 8 room) (take (work_need 8 room) work) (composes from (handles over)) room (elements_of (handles over)) room (λ x. get_or members x 0))
      (sym (is_told from over members table start work inn outw room S) ∙ q)
    where
      put : (L : ℕ) → L ≡ work_need 8 room → (b : Picked) → Kept (table_need 8 room) L (elements_of (handles over)) room (last_of b)
          → told_back over table start work inn outw (elements_of (handles over)) room b ≡ subgrouping (Err r) t w i o
          → AllCleared (maps_for table start work inn outw 8 (elements_of (handles over)) room t w i o)
      put L l (picked gens (renumbering (built (Ok c) t' w') i' o')) k e = absurd (fine_refused (sym e))
      put L l (picked gens (renumbering (built (Err f) t' w') i' o')) (cleared a b c d) e =
          let x₁ : t ≡ within table start (start + table_need 8 room) t' = cc in
          let x₂ : w ≡ within work 0 (work_need 8 room) w' = cc in
          let x₃ : i ≡ within inn 0 (elements_of (handles over)) i' = cc in
          let x₄ : o ≡ within outw 0 room o' = cc in
          four_cleared table start work inn outw 8 (elements_of (handles over)) room S.lent
          (x₁ ∙ ap (λ (y : List ℕ). within table start (start + table_need 8 room) y) a)
          (x₂ ∙ ap (λ (y : List ℕ). within work 0 (work_need 8 room) y) (b ∙ ap (λ (m : ℕ). replicate m 0) l))
          (x₃ ∙ ap (λ (y : List ℕ). within inn 0 (elements_of (handles over)) y) c) (x₄ ∙ ap (λ (y : List ℕ). within outw 0 room y) d)
