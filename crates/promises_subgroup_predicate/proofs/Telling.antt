-- The predicate form over a group: how it ends, by the group's own words.
use Prim.Native.Nat.{ℕ, ◌+◌, ◌*◌, ◌<◌, ◌≤◌}
use mathlib.Core.Path.{◌≡◌, sym, ◌∙◌, ap, subst}
use mathlib.Core.Logic.{◌↔◌, ◌⊎◌, inl, inr}
use mathlib.Core.List.{List}
use native.Mathlib.Nat.{mul-le-mul, le_refl, le_trans}
use native.Mathlib.Decide.{dec_lt}
use native.Mathlib.Omega.{arith}
use lib.ListN.{length, get_or, replicate, length-replicate}
use Rattle.egg.specs.Answers.{Reached}
use Rattle.std.specs.Prelude.{Ok}
use Rattle.egg.specs.Table.{step_of}
use Rattle.build_lending.specs.Finish.{built}
use Rattle.build_lending.specs.Lending.{work_need}
use Rattle.theory.specs.Group.{GroupOn}
use Rattle.build_numbering.specs.Renumber as appear
use Rattle.build_numbering.specs.Build.{Renumbering, renumbering}
use Rattle.build_numbering_laws.specs.Source.{Answering}
use Rattle.build_numbering_laws.specs.Maps.{RenumberedLists}
use Rattle.theory.specs.Subgroup.{right_by, IsSubgroup, Proper}
use Rattle.build_numbering_laws.proofs.Order.{appearing}
use Rattle.theory.proofs.Subgroups.{right_inside, orbit_generated}
use Rattle.build_numbering_laws.proofs.Builds.{not_refused, renumber_work, renumber_maps}
use Rattle.build_numbering_laws.proofs.Chosen.{chosen_proper, chosen_all, orbit_more}
use Rattle.subgroup_predicate_choices.specs.Choices.{Picked, picked, again_in}
use Rattle.subgroup_predicate.specs.Predicate.{predicate_in}
use Rattle.promises_subgroup_predicate.specs.Predicate.{Reach, Chosen, Knows, Faithful, Ends, accepted, refused, too_many}
use Rattle.promises_subgroup_predicate.proofs.Choosing.{chooses_ends}

-- The stretches for 8 generators are enough for fewer.
pub eight_rows : (n room size : ℕ) → n ≤ 8 → room * (2 * 8 + 4) ≤ size → room * (2 * n + 4) ≤ size
eight_rows n room size h k = let l : 2 * n + 4 ≤ 2 * 8 + 4 = omega arith in le_trans (mul-le-mul (le_refl room) l) k

pub eight_work : (n room size : ℕ) → n ≤ 8 → work_need 8 room ≤ size → work_need n room ≤ size
eight_work n room size h k =
    let m : 6 * n ≤ 6 * 8 = omega arith in
    let i : 6 * n * n ≤ 6 * 8 * 8 = mul-le-mul m h in
    let l : 6 * n * n + 4 * n ≤ 6 * 8 * 8 + 4 * 8 = omega arith in
    le_trans (mul-le-mul (le_refl room) l) k

module _ {M : ℕ} {op : ℕ → ℕ → ℕ} {inv : ℕ → ℕ} (G : GroupOn M op inv) (small : M ≤ 4294967295) (source : ℕ → ℕ → Reached)
    (answers : (y x : ℕ) → y < M → x < M → source y x ≡ Ok (record { 0 = op y x }))
    (room K : ℕ) (lo : 1 ≤ room) (hi : room ≤ 65535) (lent : room ≤ K) (size L : ℕ) (fits : room * (2 * 8 + 4) ≤ size)
    (work : room * (6 * 8 * 8 + 4 * 8) ≤ L) where
  module _ (gens : List ℕ) (few : length gens ≤ 8) (below : (g : ℕ) → g < length gens → get_or gens g 0 < M) where
    pub answering : Answering (length gens) M (right_by op (λ g. get_or gens g 0)) (λ y g. source y (get_or gens g 0))
    answering = record { answers = λ {x = y} {g} hy hg. answers y (get_or gens g 0) hy (below g hg) }

    module _ (w₀ : List ℕ) (l : length w₀ ≡ L) {c : ℕ} {t w inn outw : List ℕ}
        (q : again_in size source room M K gens w₀ ≡ renumbering (built (Ok c) t w) inn outw) where
      pub again_held : RenumberedLists (length gens) M room K (right_by op (λ g. get_or gens g 0)) 0 c (step_of t (length gens)) inn outw
      again_held =
          renumber_maps (appearing (right_inside G below)).2 (right_inside G below) small (λ y g. source y (get_or gens g 0)) answering room K lo hi lent size w₀ few
          (eight_rows (length gens) room size few fits) (eight_work (length gens) room (length w₀) few (rw l work)) q

      pub again_work : w ≡ replicate (length w₀) 0
      again_work =
          renumber_work (appearing (right_inside G below)).2 (right_inside G below) small (λ y g. source y (get_or gens g 0)) answering room K lo hi lent size w₀ few
          (eight_rows (length gens) room size few fits) (eight_work (length gens) room (length w₀) few (rw l work)) q

      again_knows : Knows op M L gens inn w
      again_knows = record {
        work = ap length again_work ∙ length-replicate {A = ℕ} (length w₀) 0 ∙ l;
        inside = λ {y} h k. again_held.reached h k;
        missing = λ {y} h k o. apart y k (again_held.renumbered.inward o) again_held.within;
      } where
        apart : (y : ℕ) → get_or inn y 0 ≡ appear.no_number → get_or inn y 0 < c → c ≤ room → ⊥
        apart y k a b = omega arith

  pub again_faithful : Faithful op M L (again_in size source room M K)
  again_faithful = record { knows = λ {gens} {w₀} few below l q. again_knows gens few below w₀ l q }

  -- How the predicate form ends, for every predicate.
  pub predicate_ends : (byte : ℕ → ℕ) (w : List ℕ) → length w ≡ L → Ends op byte M L (again_in size source room M K) (predicate_in size w source room M K byte)
  predicate_ends byte w l = chooses_ends again_faithful w l

-- What an accepted call gives.
pub same_gens : {gs gens : List ℕ} {r r' : Renumbering} → picked gs r ≡ picked gens r' → gs ≡ gens
same_gens h = cc

pub same_build : {gs gens : List ℕ} {r r' : Renumbering} → picked gs r ≡ picked gens r' → r ≡ r'
same_build h = cc

module _ {op : ℕ → ℕ → ℕ} {byte : ℕ → ℕ} {M L : ℕ} {again : List ℕ → List ℕ → Renumbering} {gens : List ℕ} where
  pub ends_accepted : {p : Picked} {c : ℕ} {t w inn outw : List ℕ} → Ends op byte M L again p → p ≡ picked gens (renumbering (built (Ok c) t w) inn outw)
      → Chosen op byte M gens × ((w₀ : List ℕ) × (length w₀ ≡ L) × (again gens w₀ ≡ renumbering (built (Ok c) t w) inn outw))
  ends_accepted (accepted w₀ l C z) q =
      let e = same_gens q in
      (subst (Chosen op byte M) e C, (w₀, l, ap (λ (gs : List ℕ). again gs w₀) (sym e) ∙ z ∙ same_build q))
  ends_accepted (refused x w₀ h l C z) q = absurd (not_refused (same_build q))
  ends_accepted (too_many x w₀ h l C e m n z) q = absurd (not_refused (same_build q))

-- The chosen are exactly the members, by the predicate, that the chosen ones before them do not generate.
module _ {M : ℕ} {op : ℕ → ℕ → ℕ} {byte : ℕ → ℕ} {gens : List ℕ} (C : Chosen op byte M gens) where
  pub chosen_exactly : {y : ℕ} → y < M → ((g : ℕ) × (g < length gens) × (get_or gens g 0 ≡ y))
      ↔ ((¬ (byte y ≡ 0)) × ((k : ℕ) → k ≤ length gens → ((g : ℕ) → g < k → get_or gens g 0 < y) → ¬ Reach op gens k y))
  chosen_exactly {y} hy = (
    λ a. (rw (← a.2) (C.members a.1), λ k h f r. sooner a.0 k a.1 h (λ g l. rw a.2 (f g l)) (subst (Reach op gens k) (sym a.2) r) (dec_lt a.0 k)),
    λ b. found b.0 b.1 (C.complete hy b.0),
  ) where
    sooner : (g k : ℕ) → g < length gens → k ≤ length gens → ((i : ℕ) → i < k → get_or gens i 0 < get_or gens g 0) → Reach op gens k (get_or gens g 0) → Dec (g < k) → ⊥
    sooner g k h l f r (yes d) = omega (arith, f g d)
    sooner g k h l f r (no d) = let e : k ≤ g = omega arith in C.outside h (orbit_more e r)

    found : ¬ (byte y ≡ 0) → ((k : ℕ) → k ≤ length gens → ((g : ℕ) → g < k → get_or gens g 0 < y) → ¬ Reach op gens k y)
        → ((g : ℕ) × (g < length gens) × (get_or gens g 0 ≡ y))
        ⊎ ((k : ℕ) × (k ≤ length gens) × (((g : ℕ) → g < k → get_or gens g 0 < y) × Reach op gens k y))
        → (g : ℕ) × (g < length gens) × (get_or gens g 0 ≡ y)
    found m n (inl a) = a
    found m n (inr (k, h, f)) = absurd (n k h f.0 f.1)

  module _ {inv : ℕ → ℕ} (G : GroupOn M op inv) where
    -- They are different and none is the identity: 9 and 11 never come.
    pub predicate_proper : Proper (length gens) (λ g. get_or gens g 0)
    predicate_proper = chosen_proper G (λ g h. C.before h) (λ g h. C.outside h)

    -- Every member is in what they generate.
    pub members_reached : {y : ℕ} → y < M → ¬ (byte y ≡ 0) → Reach op gens (length gens) y
    members_reached {y} hy m = by (C.complete hy m) where
      by : ((g : ℕ) × (g < length gens) × (get_or gens g 0 ≡ y))
          ⊎ ((k : ℕ) × (k ≤ length gens) × (((g : ℕ) → g < k → get_or gens g 0 < y) × Reach op gens k y))
          → Reach op gens (length gens) y
      by (inl (g, h, q)) = subst (Reach op gens (length gens)) q ((orbit_generated G {gen = λ g. get_or gens g 0} (λ g k. C.before k)).generators h)
      by (inr (k, h, f)) = orbit_more h f.1

    -- A predicate that is true of exactly a subgroup gives that subgroup.
    pub predicate_subgroup : {K : ℕ → Type 0} → IsSubgroup M op inv K → ((y : ℕ) → y < M → K y ↔ ¬ (byte y ≡ 0))
        → (y : ℕ) → Reach op gens (length gens) y ↔ K y
    predicate_subgroup {K} S exact y =
        chosen_all G {gen = λ g. get_or gens g 0} (λ g h. C.before h) S (λ g h. (exact (get_or gens g 0) (C.before h)).1 (C.members h))
        (λ x k. members_reached (S.below k) ((exact x (S.below k)).0 k))
