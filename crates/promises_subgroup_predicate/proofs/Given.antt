-- What an accepted predicate form gives.
use Prim.Native.Nat.{ℕ, ◌+◌, ◌*◌, ◌<◌, ◌≤◌}
use mathlib.Core.Path.{◌≡◌, refl, sym, ◌∙◌, ap}
use mathlib.Core.Logic.{◌↔◌}
use mathlib.Core.List.{List}
use native.Mathlib.Omega.{arith}
use lib.ListN.{length, get_or, replicate, take}
use Rattle.egg.specs.Answers.{Reached}
use Rattle.std.specs.Prelude.{Ok}
use Rattle.build_word_cells.specs.Hops.{Hops}
use Rattle.build_lending.specs.Finish.{built}
use Rattle.build_lending.specs.Lending.{table_need}
use Rattle.theory.specs.Group.{GroupOn}
use Rattle.build_checks_laws.specs.Sound.{Sound, Ruled}
use Rattle.build_numbering.specs.Renumber as appear
use Rattle.build_numbering.specs.Build.{renumbering}
use Rattle.theory.specs.Orbit.{numbered_step}
use Rattle.theory.specs.Subgroup.{right_by, IsSubgroup}
use Rattle.build_numbering_laws.proofs.Order.{appearing}
use Rattle.theory.proofs.Subgroups.{right_inside, orbit_generated}
use Rattle.build_numbering_laws.proofs.Builds.{built_of, renumber_built, renumber_holds}
use Rattle.subgroup_predicate_choices.specs.Choices.{picked}
use Rattle.subgroup_predicate.specs.Predicate.{predicate_in}
use Rattle.promises_subgroup_predicate.specs.Told.{Told}
use Rattle.promises_subgroup.proofs.Narrow.{narrow}
use Rattle.promises_subgroup_predicate.proofs.Telling.{eight_rows, eight_work, answering, again_held, again_work, predicate_ends, ends_accepted, predicate_proper, predicate_subgroup}
use Rattle.promises_subgroup.proofs.Held.{held_carried, held_homomorphic}

module _ {M : ℕ} {op : ℕ → ℕ → ℕ} {inv : ℕ → ℕ} (G : GroupOn M op inv) (small : M ≤ 4294967295) (source : ℕ → ℕ → Reached)
    (answers : (y x : ℕ) → y < M → x < M → source y x ≡ Ok (record { 0 = op y x }))
    (room K : ℕ) (lo : 1 ≤ room) (hi : room ≤ 65535) (lent : room ≤ K) (size : ℕ) (fits : room * (2 * 8 + 4) ≤ size)
    (byte : ℕ → ℕ) (w : List ℕ) (work : room * (6 * 8 * 8 + 4 * 8) ≤ length w) (gens : List ℕ) where
  module _ {c : ℕ} {t w₁ inn outw : List ℕ} (q : predicate_in size w source room M K byte ≡ picked gens (renumbering (built (Ok c) t w₁) inn outw)) where
    pub predicate_told : Told op inv byte M room K size (length w) gens c t w₁ inn outw
    predicate_told =
        let E = ends_accepted (predicate_ends G small source answers room K lo hi lent size (length w) fits work byte w refl) q in
        let C = E.0 in
        let w₀ = E.1.0 in
        let l = E.1.1 in
        let z = E.1.2 in
        let below : (g : ℕ) → g < length gens → get_or gens g 0 < M = λ g h. C.before h in
        let A = (appearing (right_inside G below)).2 in
        let D = again_held G small source answers room K lo hi lent size (length w) fits work gens C.few below w₀ l z in
        let H = renumber_holds A (right_inside G below) small (λ y g. source y (get_or gens g 0))
        (answering G small source answers room K lo hi lent size (length w) fits work gens C.few below) room K lo hi lent size w₀ C.few
        (eight_rows (length gens) room size C.few fits) (eight_work (length gens) room (length w₀) C.few (rw l work)) z in
        let W = again_work G small source answers room K lo hi lent size (length w) fits work gens C.few below w₀ l z in
        record {
          chosen = C;
          proper = predicate_proper C G;
          generated = orbit_generated G below;
          in_map = λ y h. (λ k. D.reached h k, λ o k. apart inn y k (D.renumbered.inward o) D.within);
          held = D;
          sound = H.sound;
          carried = held_carried D hi;
          homomorphic = held_homomorphic G below D H.sound;
          size_kept = H.size_kept;
          beyond = H.beyond;
          work_zero = W ∙ ap (λ (k : ℕ). replicate k 0) l;
        }
      where
        apart : (l : List ℕ) (y : ℕ) → get_or l y 0 ≡ appear.no_number → get_or l y 0 < c → c ≤ room → ⊥
        apart l y k a b = omega arith

    -- The first part of the stretch, as long as the chosen need it, is a sound table by itself, follows the numbering rule, and has the letters of its words.
    pub predicate_narrow : Sound (take (table_need (length gens) room) t) (length gens) c × Ruled (take (table_need (length gens) room) t) (length gens) c
        × Hops (take (table_need (length gens) room) t) (length gens) c
    predicate_narrow =
        let E = ends_accepted (predicate_ends G small source answers room K lo hi lent size (length w) fits work byte w refl) q in
        let C = E.0 in
        let w₀ = E.1.0 in
        let l = E.1.1 in
        let z = E.1.2 in
        let below : (g : ℕ) → g < length gens → get_or gens g 0 < M = λ g h. C.before h in
        let A = (appearing (right_inside G below)).2 in
        let rows = eight_rows (length gens) room size C.few fits in
        let enough = eight_work (length gens) room (length w₀) C.few (rw l work) in
        let b = sym (renumber_built A (right_inside G below) small (λ y g. source y (get_or gens g 0))
        (answering G small source answers room K lo hi lent size (length w) fits work gens C.few below) room K lo hi lent size w₀ C.few rows enough)
        ∙ ap built_of z in
        let m = narrow (numbered_step (appearing (right_inside G below)).0 (appearing (right_inside G below)).1 (right_by op (λ g. get_or gens g 0))) (length gens) room size
        w₀ C.few lo hi rows enough b in
        (m.sound, m.ruled, m.hops)

    -- A predicate that is true of exactly a subgroup gives that subgroup.
    pub told_subgroup : {H : ℕ → Type 0} → IsSubgroup M op inv H → ((y : ℕ) → y < M → H y ↔ ¬ (byte y ≡ 0))
        → (y : ℕ) → y < M → (¬ (get_or inn y 0 ≡ appear.no_number)) ↔ H y
    told_subgroup {H} S exact y h =
        let T = predicate_told in
        let P = predicate_subgroup T.chosen G S exact y in
        (λ k. P.0 ((T.in_map y h).0 k), λ k. (T.in_map y h).1 (P.1 k))
