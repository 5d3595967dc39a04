-- Which predicates are accepted, by the builds alone: exactly where there are elements to be chosen and every build on the way accepts. The elements that may
-- be chosen below x are the first ones of those that are chosen in the end.
use Prim.Native.Nat.{ℕ, zero, suc, ◌+◌, ◌<◌, ◌≤◌}
use mathlib.Core.Path.{◌≡◌, refl, sym, ◌∙◌, ap, subst}
use mathlib.Core.Logic.{◌⊎◌, inl, inr}
use mathlib.Core.List.{List, [], ◌∷◌, ◌++◌}
use native.Mathlib.Nat.{add-zero, le_refl}
use native.Mathlib.Decide.{dec_lt}
use native.Mathlib.Omega.{arith}
use lib.ListN.{length, get_or, take}
use lib.Seq.{take_all, take-append-le, get_or-take, length-take-le, ext_get_or}
use lib.Dec.{ltb}
use borrow.Author.Tests.{ltb-true}
use Rattle.std.specs.Prelude.{Ok, Err}
use Rattle.build_lending.specs.Finish.{built}
use Rattle.build_numbering.specs.Build.{Renumbering, renumbering}
use Rattle.build_numbering_laws.proofs.Builds.{not_refused}
use Rattle.build_numbering_laws.proofs.Chosen.{orbit_more}
use Rattle.subgroup_predicate_choices.specs.Choices.{Picked, picked, is_new_member, chooses}
use Rattle.promises_subgroup_predicate.specs.Predicate.{Reach, Chosen, Faithful, Ends, accepted, refused, too_many}
use Rattle.promises_subgroup_predicate.proofs.Choosing.{orbit_as, more_length, pick_ends, new_member, new_outside, not_new, knowing, chosen_same, chosen_more, nothing_chosen, chooses_ends}
use Rattle.promises_subgroup_predicate.proofs.Telling.{ends_accepted}
use Rattle.promises_subgroup_predicate.specs.Accepts.{Counts, Accepts}

-- The chosen below x are the first of those that are chosen in the end.
module _ {op : ℕ → ℕ → ℕ} {byte : ℕ → ℕ} {x M : ℕ} {gens gs : List ℕ} (C : Chosen op byte x gens) (D : Chosen op byte M gs) (h : x ≤ M) where
  abbrev Agree : ℕ → Type 0
  Agree j = (j ≤ length gs) × ((i : ℕ) → i < j → get_or gens i 0 ≡ get_or gs i 0)

  module _ (j : ℕ) (k : j < length gens) (A : Agree j) where
    rising : (g : ℕ) → j ≤ g → g < length gens → get_or gens j 0 ≤ get_or gens g 0
    rising g l m = by (dec_lt j g) where
      by : Dec (j < g) → get_or gens j 0 ≤ get_or gens g 0
      by (yes d) = omega (arith, C.ascending d m)
      by (no d) = let e : g ≡ j = omega arith in rw e (le_refl (get_or gens j 0))

    -- None of those in the end is passed over.
    none_sooner : j < length gs → get_or gs j 0 < get_or gens j 0 → ⊥
    none_sooner l s =
        let a : get_or gs j 0 < x = omega (arith, C.before k) in
        found (C.complete a (D.members l))
      where
        found : ((g : ℕ) × (g < length gens) × (get_or gens g 0 ≡ get_or gs j 0))
            ⊎ ((m : ℕ) × (m ≤ length gens) × (((g : ℕ) → g < m → get_or gens g 0 < get_or gs j 0) × Reach op gens m (get_or gs j 0))) → ⊥
        found (inl (g, b, q)) = by (dec_lt g j) where
          by : Dec (g < j) → ⊥
          by (yes d) = omega (arith, D.ascending d l, A.1 g d, q)
          by (no d) = omega (arith, rising g (omega arith) b, q)
        found (inr (m, b, f)) = by (dec_lt j m) where
          by : Dec (j < m) → ⊥
          by (yes d) = omega (arith, f.0 j d)
          by (no d) = D.outside l (orbit_more {n = m} {m = j} (omega arith) (orbit_as op (λ i e. A.1 i (omega arith)) f.1))

    next : Agree (suc j)
    next = found (D.complete (omega (arith, C.before k)) (C.members k)) where
      found : ((g : ℕ) × (g < length gs) × (get_or gs g 0 ≡ get_or gens j 0))
          ⊎ ((m : ℕ) × (m ≤ length gs) × (((g : ℕ) → g < m → get_or gs g 0 < get_or gens j 0) × Reach op gs m (get_or gens j 0))) → Agree (suc j)
      found (inl (g, b, q)) = by (dec_lt g j) (dec_lt j g) where
        by : Dec (g < j) → Dec (j < g) → Agree (suc j)
        by (yes d) e = absurd (omega (arith, C.ascending d k, A.1 g d, q))
        by (no d) (yes e) = absurd (none_sooner (omega arith) (omega (arith, D.ascending e b, q)))
        by (no d) (no e) = let z : g ≡ j = omega arith in (omega arith, λ i l. at i l z (dec_lt i j)) where
          at : (i : ℕ) → i < suc j → g ≡ j → Dec (i < j) → get_or gens i 0 ≡ get_or gs i 0
          at i l z (yes d) = A.1 i d
          at i l z (no d) = let y : i ≡ g = omega arith in let y' : i ≡ j = omega arith in ap (λ (v : ℕ). get_or gens v 0) y' ∙ sym q ∙ ap (λ (v : ℕ). get_or gs v 0) (sym y)
      found (inr (m, b, f)) = by (dec_lt j m) where
        by : Dec (j < m) → Agree (suc j)
        by (yes d) = absurd (none_sooner (omega arith) (f.0 j d))
        by (no d) = absurd (C.outside k (orbit_more {n = m} {m = j} (omega arith) (orbit_as op (λ i e. sym (A.1 i (omega arith))) f.1)))

  agree : (j : ℕ) → j ≤ length gens → Agree j
  agree zero l = (omega arith, λ i k. absurd (omega arith))
  agree (suc j) l = next j (omega arith) (agree j (omega arith))

  pub first_chosen : (length gens ≤ length gs) × (gens ≡ take (length gens) gs)
  first_chosen =
      let A = agree (length gens) (le_refl (length gens)) in (
        A.0,
        ext_get_or 0 gens (take (length gens) gs) (sym (length-take-le (length gens) gs A.0)) (λ i l. A.1 i l ∙ sym (get_or-take (length gens) gs i 0 l)),
      )

-- P is what a build asks of a list that may be chosen.
module _ {op : ℕ → ℕ → ℕ} {byte : ℕ → ℕ} {M L : ℕ} {again : List ℕ → List ℕ → Renumbering} (F : Faithful op M L again) (P : List ℕ → Type 0)
    (asks : (x : ℕ) (gens w : List ℕ) → x ≤ M → Chosen op byte x gens → length w ≡ L → Counts (again gens w) → P gens)
    (suffices : (x : ℕ) (gens w : List ℕ) → x ≤ M → Chosen op byte x gens → length w ≡ L → P gens → Counts (again gens w)) where
  abbrev EachOf : Picked → Type 0
  EachOf (picked gs r) = (j : ℕ) → j < length gs → P (take j gs)

  pub each_of : (gens : List ℕ) → P gens → ((j : ℕ) → j < length gens → P (take j gens)) → (j : ℕ) → j ≤ length gens → P (take j gens)
  each_of gens p B j h = by (dec_lt j (length gens)) where
    by : Dec (j < length gens) → P (take j gens)
    by (yes d) = B j d
    by (no d) = subst P (sym (take_all j gens (omega arith))) p

  each_ends : (k x : ℕ) (gens : List ℕ) (r : Renumbering) (w₀ : List ℕ) → k + x ≡ M → Chosen op byte x gens → length w₀ ≡ L → again gens w₀ ≡ r
      → ((j : ℕ) → j < length gens → P (take j gens)) → EachOf (chooses k again byte x gens r)
  unfolding chooses
  each_ends zero x gens r w₀ z C l q B = B
  each_ends (suc k) x gens (renumbering (built (Err f) t w) inn outw) w₀ z C l q B = B
  each_ends (suc k) x gens (renumbering (built (Ok c) t w) inn outw) w₀ z C l q B =
      let h : x < M = omega arith in
      let K = knowing F C (omega arith) l q in
      let p : P gens = asks x gens w₀ (omega arith) C l (record { count = c; table = t; work = w; inn = inn; outw = outw; is = q }) in
      pick_ends EachOf (is_new_member inn byte x) (ltb (length gens) 8)
      (λ n d. each_ends k (x + 1) (gens ++ (x ∷ [])) (again (gens ++ (x ∷ [])) w) w (omega arith)
      (chosen_more C (ltb-true (length gens) 8 d) (new_member F C h K n) (new_outside F C h K n)) K.work refl
      (λ j i.
      let i' : j ≤ length gens = omega (arith, more_length gens x) in
      subst P (sym (take-append-le j gens (x ∷ []) i')) (each_of gens p B j i')))
      (λ n d. B)
      (λ n. each_ends k (x + 1) gens (renumbering (built (Ok c) t w) inn outw) w₀ (omega arith) (chosen_same C (not_new F C h K n)) l q B)

  -- However it ends, every list before the last one was accepted.
  pub each_before : (w gs : List ℕ) {r : Renumbering} → length w ≡ L → chooses M again byte 0 [] (again [] w) ≡ picked gs r → (j : ℕ) → j < length gs → P (take j gs)
  each_before w gs l q = subst EachOf q (each_ends M 0 [] (again [] w) w (add-zero M) (nothing_chosen F) l refl (λ j i. absurd (omega arith)))

  -- Where it is accepted, every list on the way was.
  pub each_asked : (w gs : List ℕ) → length w ≡ L → Accepts gs (chooses M again byte 0 [] (again [] w)) → (j : ℕ) → j ≤ length gs → P (take j gs)
  each_asked w gs l A =
      let B = A.counts in
      let E = ends_accepted (chooses_ends F w l) (A.is ∙ ap (λ (r : Renumbering). picked gs r) B.is) in
      each_of gs (asks M gs E.1.0 (le_refl M) E.0 E.1.1
      (record { count = B.count; table = B.table; work = B.work; inn = B.inn; outw = B.outw; is = E.1.2 })) (each_before w gs l A.is)

  -- And where there are elements to be chosen, each list on the way as it has to be, it is accepted by them.
  pub each_suffices : (w gs : List ℕ) → length w ≡ L → Chosen op byte M gs → ((j : ℕ) → j ≤ length gs → P (take j gs))
      → ((x : ℕ) → x < M → ¬ (byte x ≡ 0) → Reach op gs (length gs) x)
      → Accepts gs (chooses M again byte 0 [] (again [] w))
  each_suffices w gs l D each all = go (chooses_ends F w l) where
    go : {p : Picked} → Ends op byte M L again p → Accepts gs p
    go (accepted {gens} {c} {t} {w = w₁} {inn} {outw} w₀ m C q) =
        let S = first_chosen C D (le_refl M) in
        let R = first_chosen D C (le_refl M) in
        let e : gens ≡ gs = S.1 ∙ take_all (length gens) gs R.0 in
        record {
          build = renumbering (built (Ok c) t w₁) inn outw;
          is = ap (λ (g : List ℕ). picked g (renumbering (built (Ok c) t w₁) inn outw)) e;
          counts = record { count = c; table = t; work = w₁; inn = inn; outw = outw; is = refl };
        }
    go (refused {gens} x w₀ h m C q) =
        let S = first_chosen C D h in
        let B = suffices x gens w₀ h C m (subst P (sym S.1) (each (length gens) S.0)) in
        absurd (not_refused (sym q ∙ B.is))
    go (too_many {gens} x w₀ h m C e b n q) =
        let S = first_chosen C D (omega arith) in
        let y : length gs ≡ 8 = omega (arith, D.few, S.0) in
        let z : gens ≡ gs = S.1 ∙ take_all (length gens) gs (omega (arith, y, e)) in
        absurd (n (subst (λ (g : List ℕ). Reach op g 8 x) (sym z) (subst (λ (k : ℕ). Reach op gs k x) y (all x h b))))
