-- More room changes nothing of what is chosen: where the predicate form is accepted, it is with builds that accept more, by the same elements.
use Prim.Native.Nat.{ℕ, zero, suc, ◌+◌, ◌<◌, ◌≤◌}
use mathlib.Core.Path.{◌≡◌, refl, sym, ◌∙◌, ap, subst}
use mathlib.Core.Logic.{inl, inr}
use mathlib.Core.List.{List, [], ◌∷◌, ◌++◌}
use native.Mathlib.Decide.{ℕ_discrete, dec_lt}
use native.Mathlib.Omega.{arith}
use lib.ListN.{length, get_or}
use Rattle.egg.specs.declared.Refusal.{Refusal}
use Rattle.std.specs.Prelude.{Ok, Err}
use Rattle.build_lending.specs.Finish.{built}
use Rattle.build_numbering.specs.Renumber as appear
use Rattle.build_numbering.specs.Build.{Renumbering, renumbering}
use Rattle.subgroup_predicate_choices.specs.Choices.{Picked, picked, ninth, chooses}
use Rattle.promises_subgroup_predicate.specs.Predicate.{Chosen, Knows, Faithful}
use Rattle.promises_subgroup_predicate.specs.Accepts.{Counts, Accepts}
use Rattle.promises_subgroup_predicate.proofs.Choosing.{chosen_same, chosen_more}
use Rattle.build_numbering_laws.proofs.Builds.{not_refused}
use Rattle.promises_subgroup_predicate.proofs.Telling.{same_gens, same_build}
use Rattle.promises_subgroup_predicate.proofs.Loop.{choose_end, choose_stop, choose_known, choose_no_member, choose_next, choose_ninth}

-- Where one build accepts a list that may be chosen, so does the other.
pub record Grows (op : ℕ → ℕ → ℕ) (M L L' : ℕ) (again more : List ℕ → List ℕ → Renumbering) : Type 0 where
  pub grows : {byte : ℕ → ℕ} {x : ℕ} {gens w w' : List ℕ} → x ≤ M → Chosen op byte x gens → length w ≡ L → length w' ≡ L' → Counts (again gens w) → Counts (more gens w')

refused_stays : (k : ℕ) (again : List ℕ → List ℕ → Renumbering) (byte : ℕ → ℕ) (x : ℕ) (gens t w inn outw : List ℕ) (f : Refusal)
    → chooses k again byte x gens (renumbering (built (Err f) t w) inn outw) ≡ picked gens (renumbering (built (Err f) t w) inn outw)
refused_stays zero again byte x gens t w inn outw f = choose_end again byte 0 x gens t w inn outw (renumbering (built (Err f) t w) inn outw)
refused_stays (suc k) again byte x gens t w inn outw f = choose_stop again byte k x gens t w inn outw f

ninth_never : (gs gens t w inn outw : List ℕ) → Accepts gs (picked gens (ninth t w inn outw)) → ⊥
ninth_never gs gens t w inn outw Z = not_refused (same_build Z.is ∙ Z.counts.is)

-- What was accepted at the end was accepted before.
counted_before : (k : ℕ) (again : List ℕ → List ℕ → Renumbering) (byte : ℕ → ℕ) (x : ℕ) (gens gs : List ℕ) (r : Renumbering)
    → Accepts gs (chooses k again byte x gens r) → Counts r
counted_before k again byte x gens gs (renumbering (built (Ok c) t w) inn outw) A =
    record { count = c; table = t; work = w; inn = inn; outw = outw; is = refl }
counted_before k again byte x gens gs (renumbering (built (Err f) t w) inn outw) A =
    absurd (not_refused (same_build (sym (refused_stays k again byte x gens t w inn outw f) ∙ A.is) ∙ A.counts.is))

module _ {op : ℕ → ℕ → ℕ} {byte : ℕ → ℕ} {M L L' : ℕ} {again more : List ℕ → List ℕ → Renumbering} (F : Faithful op M L again) (F' : Faithful op M L' more)
    (R : Grows op M L L' again more) where
  knows_one : {x : ℕ} {gens w₀ : List ℕ} → x ≤ M → Chosen op byte x gens → length w₀ ≡ L → (A : Counts (again gens w₀)) → Knows op M L gens A.inn A.work
  knows_one h C l A = F.knows C.few (λ g k. omega (arith, C.before k)) l A.is

  knows_two : {x : ℕ} {gens w₀ : List ℕ} → x ≤ M → Chosen op byte x gens → length w₀ ≡ L' → (A : Counts (more gens w₀)) → Knows op M L' gens A.inn A.work
  knows_two h C l A = F'.knows C.few (λ g k. omega (arith, C.before k)) l A.is

  -- One turn, by what the rest of the run gives.
  module _ (k x : ℕ) (gens gs w₀ w₁ : List ℕ) (h : x < M) (C : Chosen op byte x gens) (l : length w₀ ≡ L) (m : length w₁ ≡ L')
      (A : Accepts gs (chooses (suc k) again byte x gens (again gens w₀)))
      (rest : (gens' v v' : List ℕ) → Chosen op byte (x + 1) gens' → length v ≡ L → length v' ≡ L'
      → Accepts gs (chooses k again byte (x + 1) gens' (again gens' v)) → Accepts gs (chooses k more byte (x + 1) gens' (more gens' v'))) where
    B : Counts (again gens w₀)
    B = counted_before (suc k) again byte x gens gs (again gens w₀) A

    B' : Counts (more gens w₁)
    B' = R.grows (omega arith) C l m B

    K : Knows op M L gens B.inn B.work
    K = knows_one (omega arith) C l B

    K' : Knows op M L' gens B'.inn B'.work
    K' = knows_two (omega arith) C m B'

    turn : Accepts gs (chooses (suc k) more byte x gens (more gens w₁))
    turn = by (ℕ_discrete (get_or B.inn x 0) appear.no_number) (ℕ_discrete (get_or B'.inn x 0) appear.no_number) (ℕ_discrete (byte x) 0) (dec_lt (length gens) 8) where
      one : {p : Picked} → chooses (suc k) again byte x gens (renumbering (built (Ok B.count) B.table B.work) B.inn B.outw) ≡ p → Accepts gs p
      one q = subst (Accepts gs) (ap (chooses (suc k) again byte x gens) B.is ∙ q) A

      two : {p : Picked} → chooses (suc k) more byte x gens (renumbering (built (Ok B'.count) B'.table B'.work) B'.inn B'.outw) ≡ p
          → Accepts gs p → Accepts gs (chooses (suc k) more byte x gens (more gens w₁))
      two q a = subst (Accepts gs) (sym (ap (chooses (suc k) more byte x gens) B'.is ∙ q)) a

      by : Dec (get_or B.inn x 0 ≡ appear.no_number) → Dec (get_or B'.inn x 0 ≡ appear.no_number) → Dec (byte x ≡ 0) → Dec (length gens < 8)
          → Accepts gs (chooses (suc k) more byte x gens (more gens w₁))
      by (no a) (yes b) d e = absurd (K'.missing h b (K.inside h a))
      by (yes a) (no b) d e = absurd (K.missing h a (K'.inside h b))
      by (no a) (no b) d e =
          two (choose_known more byte k x gens B'.table B'.work B'.inn B'.outw B'.count b)
          (subst (λ r. Accepts gs (chooses k more byte (x + 1) gens r)) B'.is
          (rest gens w₀ w₁ (chosen_same C (inr (K.inside h a))) l m
          (subst (λ r. Accepts gs (chooses k again byte (x + 1) gens r)) (sym B.is)
          (one (choose_known again byte k x gens B.table B.work B.inn B.outw B.count a)))))
      by (yes a) (yes b) (yes d) e =
          two (choose_no_member more byte k x gens B'.table B'.work B'.inn B'.outw B'.count b d)
          (subst (λ r. Accepts gs (chooses k more byte (x + 1) gens r)) B'.is
          (rest gens w₀ w₁ (chosen_same C (inl d)) l m
          (subst (λ r. Accepts gs (chooses k again byte (x + 1) gens r)) (sym B.is)
          (one (choose_no_member again byte k x gens B.table B.work B.inn B.outw B.count a d)))))
      by (yes a) (yes b) (no d) (yes e) =
          two (choose_next more byte k x gens B'.table B'.work B'.inn B'.outw B'.count b d e)
          (rest (gens ++ (x ∷ [])) B.work B'.work (chosen_more C e d (K.missing h a)) K.work K'.work
          (one (choose_next again byte k x gens B.table B.work B.inn B.outw B.count a d e)))
      by (yes a) (yes b) (no d) (no e) =
          absurd (ninth_never gs gens B.table B.work B.inn B.outw
          (one (choose_ninth again byte k x gens B.table B.work B.inn B.outw B.count a d (omega arith))))

  pub same_chosen : (k x : ℕ) (gens gs w₀ w₁ : List ℕ) → k + x ≡ M → Chosen op byte x gens → length w₀ ≡ L → length w₁ ≡ L'
      → Accepts gs (chooses k again byte x gens (again gens w₀)) → Accepts gs (chooses k more byte x gens (more gens w₁))
  same_chosen zero x gens gs w₀ w₁ z C l m A =
      let B = counted_before zero again byte x gens gs (again gens w₀) A in
      let e : gens ≡ gs = same_gens (sym (choose_end again byte 0 x gens [] [] [] [] (again gens w₀)) ∙ A.is) in
      record {
        build = more gens w₁;
        is = choose_end more byte 0 x gens [] [] [] [] (more gens w₁) ∙ ap (λ (g : List ℕ). picked g (more gens w₁)) e;
        counts = R.grows (omega arith) C l m B;
      }
  same_chosen (suc k) x gens gs w₀ w₁ z C l m A =
      turn k x gens gs w₀ w₁ (omega arith) C l m A
      (λ gens' v v' D a b. same_chosen k (x + 1) gens' gs v v' (omega arith) D a b)
