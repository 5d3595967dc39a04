-- With more room, and longer stretches, the predicate form chooses the same elements and is accepted.
use Prim.Native.Nat.{ℕ, ◌+◌, ◌*◌, ◌<◌, ◌≤◌}
use mathlib.Core.Path.{◌≡◌, subst}
use mathlib.Core.List.{List, []}
use native.Mathlib.Nat.{add-zero}
use native.Mathlib.Omega.{arith}
use lib.ListN.{length, get_or}
use Rattle.egg.specs.Answers.{Reached}
use Rattle.std.specs.Prelude.{Ok}
use Rattle.theory.specs.Group.{GroupOn}
use Rattle.theory.proofs.Reading.{numbered_once}
use Rattle.build_laws.specs.Taken.{Taken}
use Rattle.theory.specs.Orbit.{numbered_step}
use Rattle.theory.specs.Subgroup.{right_by}
use Rattle.build_numbering_laws.proofs.Order.{appearing}
use Rattle.theory.proofs.Subgroups.{right_inside}
use Rattle.build_numbering_laws.proofs.Builds.{renumber_holds, renumber_exactly}
use Rattle.subgroup_predicate_choices.specs.Choices.{again_in}
use Rattle.subgroup_predicate.specs.Predicate.{predicate_in}
use Rattle.promises_subgroup_predicate.specs.Predicate.{Chosen}
use Rattle.promises_subgroup_predicate.proofs.Choosing.{nothing_chosen}
use Rattle.promises_subgroup_predicate.proofs.Telling.{eight_rows, eight_work, answering, again_faithful}
use Rattle.promises_subgroup_predicate.proofs.Roomier.{Grows, same_chosen}
use Rattle.promises_subgroup_predicate.specs.Accepts.{Counts, Accepts}

taken_roomier : {src : ℕ → ℕ → ℕ} {n room room' N : ℕ} → room ≤ room' → Taken src n room N → Taken src n room' N
taken_roomier h T = record {
  readable = record { by_rule = T.readable.by_rule; within = omega (arith, T.readable.within); short = λ {e} k. T.readable.short k };
  identity_row_lem = T.identity_row_lem;
  group = T.group;
}

module _ {M : ℕ} {op : ℕ → ℕ → ℕ} {inv : ℕ → ℕ} (G : GroupOn M op inv) (small : M ≤ 4294967295) (source : ℕ → ℕ → Reached)
    (answers : (y x : ℕ) → y < M → x < M → source y x ≡ Ok (record { 0 = op y x }))
    (room K : ℕ) (lo : 1 ≤ room) (hi : room ≤ 65535) (lent : room ≤ K) (size L : ℕ) (fits : room * (2 * 8 + 4) ≤ size)
    (work : room * (6 * 8 * 8 + 4 * 8) ≤ L)
    (room' K' : ℕ) (lo' : 1 ≤ room') (hi' : room' ≤ 65535) (lent' : room' ≤ K') (size' L' : ℕ) (fits' : room' * (2 * 8 + 4) ≤ size')
    (work' : room' * (6 * 8 * 8 + 4 * 8) ≤ L') (wider : room ≤ room') where
  module _ {byte : ℕ → ℕ} {x : ℕ} (gens w w' : List ℕ) (h : x ≤ M) (C : Chosen op byte x gens) (l : length w ≡ L) (l' : length w' ≡ L')
      (B : Counts (again_in size source room M K gens w)) where
    below : (g : ℕ) → g < length gens → get_or gens g 0 < M
    below g k = omega (arith, C.before k)

    grown : Counts (again_in size' source room' M K' gens w')
    grown =
        let I = right_inside G below in
        let A = (appearing I).2 in
        let T = (renumber_holds A I small (λ y g. source y (get_or gens g 0)) (answering G small source answers room K lo hi lent size L fits work gens C.few below)
        room K lo hi lent size w C.few (eight_rows (length gens) room size C.few fits) (eight_work (length gens) room (length w) C.few (rw l work)) B.is).taken in
        let e : B.count ≡ (appearing I).0 = numbered_once T.readable.by_rule A.by_rule in
        let T' : Taken (numbered_step (appearing I).0 (appearing I).1 (right_by op (λ g. get_or gens g 0))) (length gens) room' (appearing I).0
        = subst (Taken (numbered_step (appearing I).0 (appearing I).1 (right_by op (λ g. get_or gens g 0))) (length gens) room') e (taken_roomier wider T) in
        let b = (renumber_exactly A I small (λ y g. source y (get_or gens g 0)) (answering G small source answers room K lo hi lent size L fits work gens C.few below)
        room' K' lo' hi' lent' size' w' C.few (eight_rows (length gens) room' size' C.few fits')
        (eight_work (length gens) room' (length w') C.few (rw l' work'))).1 T' in
        record { count = (appearing I).0; table = b.0; work = b.1; inn = b.2; outw = b.3; is = b.4 }

  again_grows : Grows op M L L' (again_in size source room M K) (again_in size' source room' M K')
  again_grows = record { grows = λ {byte} {x} {gens} {w} {w'} h C l l' B. grown gens w w' h C l l' B }

  pub predicate_roomier : (byte : ℕ → ℕ) (gens w w' : List ℕ) → length w ≡ L → length w' ≡ L'
      → Accepts gens (predicate_in size w source room M K byte) → Accepts gens (predicate_in size' w' source room' M K' byte)
  predicate_roomier byte gens w w' l l' A =
      let F = again_faithful G small source answers room K lo hi lent size L fits work in
      let F' = again_faithful G small source answers room' K' lo' hi' lent' size' L' fits' work' in
      same_chosen F F' again_grows M 0 [] gens w w' (add-zero M) (nothing_chosen F) l l' A
