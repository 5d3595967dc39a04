-- `from_predicate` is accepted exactly when at most eight elements are chosen and each build on the way can be made.
use Prim.Native.Nat.{ℕ, ◌+◌, ◌*◌, ◌<◌, ◌≤◌}
use mathlib.Core.Path.{◌≡◌, refl, sym, ◌∙◌, ap, subst}
use mathlib.Core.Logic.{◌↔◌}
use mathlib.Core.List.{List, []}
use native.Mathlib.Nat.{le_refl}
use native.Mathlib.Omega.{arith}
use lib.ListN.{length, get_or, take}
use Rattle.egg.specs.Answers.{Reached}
use Rattle.std.specs.Prelude.{Ok}
use Rattle.build_lending.specs.Finish.{built}
use Rattle.build_lending.specs.Lending.{table_need, work_need, within}
use Rattle.theory.specs.Group.{GroupOn}
use Rattle.theory.proofs.Reading.{numbered_once}
use Rattle.build_reading_laws.specs.Read.{Readable}
use Rattle.build_laws.proofs.Lent.{handle}
use Rattle.group_handles.specs.declared.Group.{Group}
use Rattle.group_handles.specs.Handles.{handles, elements_of, group_of}
use Rattle.group_digits.specs.Digits.{composes}
use Rattle.promises_group.specs.Products.{AllAccepted, direct}
use Rattle.build_numbering.specs.Build.{Renumbering, renumbering}
use Rattle.theory.specs.Orbit.{numbered_step}
use Rattle.theory.specs.Subgroup.{right_by}
use Rattle.build_numbering_laws.proofs.Order.{appearing}
use Rattle.theory.proofs.Subgroups.{right_inside}
use Rattle.build_numbering_laws.proofs.Builds.{renumber_holds}
use Rattle.build_numbering_laws.proofs.Chosen.{chosen_proper}
use Rattle.build_numbering_laws.proofs.SubgroupBuilds.{subgroup_exactly}
use Rattle.subgroup_build.specs.declared.Subgroup.{Subgroup}
use Rattle.subgroup_build.specs.Lent.{subgrouping}
use Rattle.subgroup_predicate_choices.specs.Choices.{Picked, picked, again_in}
use Rattle.subgroup_predicate.specs.Predicate.{predicate_in, told_back, from_predicate}
use Rattle.promises_subgroup_predicate.specs.Predicate.{Chosen}
use Rattle.promises_subgroup_predicate.specs.Tells.{Predicated}
use Rattle.promises_subgroup_predicate.specs.Tellable.{Buildable, Tellable}
use Rattle.promises_subgroup_predicate.proofs.Telling.{eight_rows, eight_work, answering, again_faithful, predicate_ends, ends_accepted, members_reached}
use Rattle.promises_subgroup_predicate.specs.Accepts.{Counts, Accepts}
use Rattle.promises_subgroup_predicate.proofs.Firsts.{each_asked, each_suffices}
use Rattle.promises_subgroup_predicate.proofs.ToldCalls as told

module _ {M : ℕ} {op : ℕ → ℕ → ℕ} {inv : ℕ → ℕ} (G : GroupOn M op inv) (small : M ≤ 4294967295) (source : ℕ → ℕ → Reached)
    (answers : (y x : ℕ) → y < M → x < M → source y x ≡ Ok (record { 0 = op y x }))
    (room K : ℕ) (lo : 1 ≤ room) (hi : room ≤ 65535) (lent : room ≤ K) (size L : ℕ) (fits : room * (2 * 8 + 4) ≤ size)
    (work : room * (6 * 8 * 8 + 4 * 8) ≤ L) where
  module _ {byte : ℕ → ℕ} (x : ℕ) (gens w : List ℕ) (h : x ≤ M) (C : Chosen op byte x gens) (l : length w ≡ L) where
    below : (g : ℕ) → g < length gens → get_or gens g 0 < M
    below g k = omega (arith, C.before k)

    rows : room * (2 * length gens + 4) ≤ size
    rows = eight_rows (length gens) room size C.few fits

    enough : room * (6 * length gens * length gens + 4 * length gens) ≤ length w
    enough = eight_work (length gens) room (length w) C.few (rw l work)

    -- What a build asks, and all that it asks.
    pub asks : Counts (again_in size source room M K gens w) → Buildable op M room gens
    asks B =
        let I = right_inside G below in
        let A = (appearing I).2 in
        let T = (renumber_holds A I small (λ y g. source y (get_or gens g 0)) (answering G small source answers room K lo hi lent size L fits work gens C.few below)
        room K lo hi lent size w C.few rows enough B.is).taken in
        let e : B.count ≡ (appearing I).0 = numbered_once T.readable.by_rule A.by_rule in
        let R = subst (Readable (numbered_step (appearing I).0 (appearing I).1 (right_by op (λ g. get_or gens g 0))) (length gens) room) e T.readable in
        record { count = (appearing I).0; elt = (appearing I).1; appearing = A; within_room = R.within; short = λ e k. R.short k }

    pub suffices : Buildable op M room gens → Counts (again_in size source room M K gens w)
    suffices B =
        let b = (subgroup_exactly G below B.appearing small (λ y g. source y (get_or gens g 0))
        (answering G small source answers room K lo hi lent size L fits work gens C.few below) room K lo hi lent size w C.few rows enough
        ).1 (B.within_room, (B.short, chosen_proper G below (λ g k. C.outside k))) in
        record { count = B.count; table = b.0; work = b.1; inn = b.2; outw = b.3; is = b.4 }

  pub builds_exactly : (byte : ℕ → ℕ) (w : List ℕ) → length w ≡ L
      → ((gs : List ℕ) × Accepts gs (predicate_in size w source room M K byte)) ↔ Tellable op byte M room
  builds_exactly byte w l =
      let F = again_faithful G small source answers room K lo hi lent size L fits work in (
        λ a.
            let z = a.1.is ∙ ap (λ (r : Renumbering). picked a.0 r) a.1.counts.is in
            let E = ends_accepted (predicate_ends G small source answers room K lo hi lent size L fits work byte w l) z in
            record { gens = a.0; chosen = E.0; each = each_asked F (Buildable op M room) asks suffices w a.0 l a.1 },
        λ T. (
          T.gens,
          each_suffices F (Buildable op M room) asks suffices w T.gens l T.chosen T.each (λ x k b. members_reached T.chosen G k b),
        ),
      )

module _ (from : List ℕ) (over : Group) (members table : List ℕ) (start : ℕ) (work inn outw : List ℕ) (room : ℕ)
    (S : Predicated from over members table start work inn outw room) (As : AllAccepted from (handles over)) where
  abbrev M : ℕ
  M = elements_of (handles over)

  abbrev byte : ℕ → ℕ
  byte x = get_or members x 0

  abbrev whole : Picked
  whole = predicate_in (table_need 8 room) (take (work_need 8 room) work) (composes from (handles over)) room M room (λ x. get_or members x 0)

  builds : ((gs : List ℕ) × Accepts gs whole) ↔ Tellable (direct from over).op (λ x. get_or members x 0) M room
  builds =
      builds_exactly (told.G from over members table start work inn outw room S As) (told.small from over members table start work inn outw room S)
      (composes from (handles over)) (told.answers from over members table start work inn outw room S As) room room
      (told.lo from over members table start work inn outw room S) (told.hi from over members table start work inn outw room S) (le_refl room)
      (table_need 8 room) (length (take (work_need 8 room) work)) (le_refl (table_need 8 room)) (told.work_fits from over members table start work inn outw room S)
      (λ x. get_or members x 0) (take (work_need 8 room) work) refl

  -- Accepted exactly when.
  pub predicate_exactly : ((s : Subgroup) × (t : List ℕ) × (w : List ℕ) × (i : List ℕ) × (o : List ℕ)
      × (from_predicate from over members table start work inn outw room ≡ subgrouping (Ok s) t w i o))
      ↔ Tellable (direct from over).op (λ x. get_or members x 0) (elements_of (handles over)) room
  predicate_exactly = (
    λ a.
        let B = told.back_accepted from over members table start work inn outw room whole (sym (told.is_told from over members table start work inn outw room S) ∙ a.5) in
        builds.0 (
          B.gens,
          record {
            build = renumbering (built (Ok B.count) B.table' B.work') B.inn' B.outw';
            is = B.is;
            counts = record { count = B.count; table = B.table'; work = B.work'; inn = B.inn'; outw = B.outw'; is = refl };
          },
        ),
    λ T.
        let A = builds.1 T in
        let b = A.1.counts in (
          record { below = group_of []; factor = handle start (length A.0) room b.count; over = over; above = group_of [] },
          within table start (start + table_need 8 room) b.table,
          within work 0 (work_need 8 room) b.work,
          within inn 0 M b.inn,
          within outw 0 room b.outw,
          told.is_told from over members table start work inn outw room S
              ∙ ap (λ (p : Picked). told_back over table start work inn outw M room p) (A.1.is ∙ ap (λ (r : Renumbering). picked A.0 r) b.is),
        ),
  )
