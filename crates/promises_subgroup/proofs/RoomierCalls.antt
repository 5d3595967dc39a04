-- More room changes nothing: a subgroup that is accepted is accepted with at least that room in any buffers that are not short, with as many elements, the
-- same numbers in its stretch, and the same maps.
use Prim.Native.Nat.{ℕ, ◌+◌, ◌*◌, ◌-◌, ◌≤◌, ◌<◌}
use mathlib.Core.Path.{◌≡◌, refl, sym, ap, ◌∙◌}
use mathlib.Core.List.{List, []}
use native.Mathlib.Nat.{le_refl, mul-le-mul}
use native.Mathlib.Omega.{arith}
use lib.ListN.{length, get_or, take, replicate}
use Rattle.egg.specs.Answers.{Reached}
use Rattle.std.specs.Prelude.{Ok}
use Rattle.build_lending.specs.Finish.{Built, built, finished_placed}
use Rattle.build_lending.specs.Lending.{table_need, work_need, within}
use Rattle.build_reading.specs.Reading.{read_all}
use Rattle.theory.specs.Group.{GroupOn}
use Rattle.enumeration_run_laws.specs.Longer.{longer}
use Rattle.enumeration_run_laws.proofs.LongerStores.{longer_get}
use Rattle.promises.proofs.Roomier.{built_roomier}
use Rattle.build_laws.proofs.Lent.{handle, stretch_cell}
use Rattle.group_handles.specs.declared.Group.{Group}
use Rattle.group_handles.specs.Handles.{handles, elements_of, group_of}
use Rattle.promises_group.specs.Products.{AllAccepted}
use Rattle.build_numbering.specs.Build.{Renumbering, renumbering, renumber_in}
use Rattle.build_numbering_laws.specs.Source.{Answering}
use Rattle.build_numbering_laws.specs.Maps.{MapsFilled}
use Rattle.theory.specs.Subgroup.{right_by}
use Rattle.theory.specs.Orbit.{numbered_step}
use Rattle.build_numbering_laws.proofs.Order.{appearing}
use Rattle.theory.proofs.Subgroups.{right_inside}
use Rattle.build_numbering_laws.proofs.Builds.{built_of, renumber_built, renumber_filled}
use Rattle.build_numbering_laws.proofs.RoomierMaps.{inward_same, outward_same}
use Rattle.subgroup_build.specs.declared.Subgroup.{Subgroup}
use Rattle.subgroup_build.specs.Lent.{subgrouping, maps_back}
use Rattle.subgroup_rows.specs.Rows.{product_by}
use Rattle.subgroup_build.specs.Generated.{from_generators}
use Rattle.promises_subgroup.specs.Generates.{Started, RoomierGenerates}
use Rattle.promises_subgroup.proofs.Called as called
use Rattle.promises_subgroup.proofs.Leaving.{accepted_lengths}

-- The build in its stretches, over any group.
module _ {M : ℕ} {op : ℕ → ℕ → ℕ} {inv : ℕ → ℕ} (G : GroupOn M op inv) (small : M ≤ 4294967295) {n : ℕ} {gen : ℕ → ℕ} (gens : (g : ℕ) → g < n → gen g < M)
    (source : ℕ → ℕ → Reached) (answering : Answering n M (right_by op gen) source) (few : n ≤ 8)
    (room K : ℕ) (lo : 1 ≤ room) (hi : room ≤ 65535) (lent : room ≤ K) (size : ℕ) (w : List ℕ) (fits : room * (2 * n + 4) ≤ size)
    (work : work_need n room ≤ length w)
    (room' K' : ℕ) (lo' : 1 ≤ room') (hi' : room' ≤ 65535) (lent' : room' ≤ K') (size' : ℕ) (w' : List ℕ) (fits' : room' * (2 * n + 4) ≤ size')
    (work' : work_need n room' ≤ length w') (more : room ≤ room') (wider : size ≤ size') where
  pub build_roomier : {c : ℕ} {t w₁ i o : List ℕ} → renumber_in size w source n room M K 0 ≡ renumbering (built (Ok c) t w₁) i o
      → (w₂ : List ℕ) × (i' : List ℕ) × (o' : List ℕ) × ((renumber_in size' w' source n room' M K' 0 ≡ renumbering (built (Ok c) (longer (size' - size) t) w₂) i' o')
      × ((i ≡ i') × ((e : ℕ) → get_or o e 0 ≡ get_or o' e 0)))
  build_roomier {c} {t} {w₁} {i} {o} q =
      let I = right_inside G gens in
      let A = (appearing I).2 in
      let src = numbered_step (appearing I).0 (appearing I).1 (right_by op gen) in
      let b : finished_placed (read_all src n room (replicate size 0)) n w ≡ built (Ok c) t w₁ =
      sym (renumber_built A I small source answering room K lo hi lent size w few fits work) ∙ ap built_of q in
      let r = built_roomier src n room size w few lo hi fits work room' size' w' hi' fits' work' more wider b in
      let F = renumber_filled A I small source answering room K lo hi lent size w few fits work q in
      go (renumber_in size' w' source n room' M K' 0) refl r.0
      (renumber_built A I small source answering room' K' lo' hi' lent' size' w' few fits' work' ∙ r.1) F.1
    where
      go : (m : Renumbering) → renumber_in size' w' source n room' M K' 0 ≡ m → (w₂ : List ℕ)
          → built_of (renumber_in size' w' source n room' M K' 0) ≡ built (Ok c) (longer (size' - size) t) w₂
          → MapsFilled M room K (appearing (right_inside G gens)).1 c i o
          → (w₂ : List ℕ) × (i' : List ℕ) × (o' : List ℕ) × ((renumber_in size' w' source n room' M K' 0 ≡ renumbering (built (Ok c) (longer (size' - size) t) w₂) i' o')
          × ((i ≡ i') × ((e : ℕ) → get_or o e 0 ≡ get_or o' e 0)))
      go (renumbering b' i' o') z w₂ y F =
          let q' : renumber_in size' w' source n room' M K' 0 ≡ renumbering (built (Ok c) (longer (size' - size) t) w₂) i' o' =
          z ∙ ap (λ (x : Built). renumbering x i' o') (sym (ap built_of z) ∙ y) in
          let F' = renumber_filled (appearing (right_inside G gens)).2 (right_inside G gens) small source answering room' K' lo' hi' lent' size' w' few fits' work' q' in
          (w₂, i', o', (q', (inward_same F F'.1, outward_same F F'.1)))

module _ (from : List ℕ) (over : Group) (gens table : List ℕ) (start : ℕ) (work inn outw : List ℕ) (room : ℕ) (As : AllAccepted from (handles over))
    {s : Subgroup} {t w i o : List ℕ}
    (q : from_generators from over gens table start work inn outw room ≡ subgrouping (Ok s) t w i o)
    (table' : List ℕ) (start' : ℕ) (work' inn' outw' : List ℕ) (room' : ℕ) (S' : Started from over gens table' start' work' inn' outw' room') (more : room ≤ room') where
  abbrev n : ℕ
  n = length gens

  abbrev M : ℕ
  M = elements_of (handles over)

  abbrev source : ℕ → ℕ → Reached
  source = product_by from (handles over) gens

  S : Started from over gens table start work inn outw room
  S = called.accepted_started from over gens table start work inn outw room q

  B : called.Backed from over gens table start work inn outw room
      (renumber_in (table_need n room) (take (work_need n room) work) (product_by from (handles over) gens) n room M room 0) s t w i o
  B = called.back_accepted from over gens table start work inn outw room _ (sym (called.is_build from over gens table start work inn outw room S) ∙ q)

  wider : table_need n room ≤ table_need n room'
  wider = mul-le-mul more (le_refl (2 * n + 4))

  R : (w₂ : List ℕ) × (i' : List ℕ) × (o' : List ℕ)
      × ((renumber_in (table_need n room') (take (work_need n room') work') (product_by from (handles over) gens) n room' M room' 0
      ≡ renumbering (built (Ok B.count) (longer (table_need n room' - table_need n room) B.table') w₂) i' o')
      × ((B.inn' ≡ i') × ((e : ℕ) → get_or B.outw' e 0 ≡ get_or o' e 0)))
  R =
      build_roomier (called.G from over gens table start work inn outw room S As) (called.small from over gens table start work inn outw room S)
      (called.gens_below from over gens table start work inn outw room S As) source (called.answering from over gens table start work inn outw room S As) S.few
      room room (called.lo from over gens table start work inn outw room S) (called.hi from over gens table start work inn outw room S) (le_refl room)
      (table_need n room) (take (work_need n room) work) (le_refl (table_need n room)) (called.work_fits from over gens table start work inn outw room S)
      room' room' (called.lo from over gens table' start' work' inn' outw' room' S') (called.hi from over gens table' start' work' inn' outw' room' S') (le_refl room')
      (table_need n room') (take (work_need n room') work') (le_refl (table_need n room')) (called.work_fits from over gens table' start' work' inn' outw' room' S')
      more wider B.is

  abbrev longest : List ℕ
  longest = longer (table_need n room' - table_need n room) B.table'

  first : (length B.table' ≡ table_need n room) × ((length B.work' ≡ length (take (work_need n room) work)) × ((length B.inn' ≡ M) × (length B.outw' ≡ room)))
  first = accepted_lengths (table_need n room) (take (work_need n room) work) (product_by from (handles over) gens) n room M room 0 B.is

  second : (length longest ≡ table_need n room') × ((length R.0 ≡ length (take (work_need n room') work')) × ((length R.1 ≡ M) × (length R.2 ≡ room')))
  second = accepted_lengths (table_need n room') (take (work_need n room') work') (product_by from (handles over) gens) n room' M room' 0 R.3.0

  same_cell : {k : ℕ} → k < table_need n room
      → get_or (within table' start' (start' + table_need n room') longest) (start' + k) 0 ≡ get_or t (start + k) 0
  same_cell {k} h =
      let l : k < table_need n room' = omega (arith, wider) in
      stretch_cell table' start' n room' (called.has from over gens table' start' work' inn' outw' room' S') longest second.0 B.count k l
      ∙ longer_get (table_need n room' - table_need n room) B.table' k
      ∙ sym (stretch_cell table start n room (called.has from over gens table start work inn outw room S) B.table' first.0 B.count k h)
      ∙ ap (λ (x : List ℕ). get_or x (start + k) 0) (sym B.table_is)

  pub generators_roomier : RoomierGenerates over (length gens) start room s t i o start' room' (from_generators from over gens table' start' work' inn' outw' room')
  generators_roomier = record {
    subgroup' = record { below = group_of []; factor = handle start' n room' B.count; over = over; above = group_of [] };
    table' = within table' start' (start' + table_need n room') longest;
    work' = within work' 0 (work_need n room') R.0;
    inn' = within inn' 0 M R.1;
    outw' = within outw' 0 room' R.2;
    accepted = called.is_build from over gens table' start' work' inn' outw' room' S'
        ∙ ap (λ (x : Renumbering). maps_back over table' start' work' inn' outw' M n n room' x) R.3.0;
    generators = sym (ap (λ (x : Subgroup). x.factor.generators) B.value);
    elements = sym (ap (λ (x : Subgroup). x.factor.elements) B.value);
    same = λ {k} h. same_cell h;
    inn_same = λ {x} h.
        called.front_cell inn' R.1 M second.1.1.0 x h ∙ ap (λ (y : List ℕ). get_or y x 0) (sym R.3.1.0)
        ∙ sym (called.front_cell inn B.inn' M first.1.1.0 x h) ∙ ap (λ (y : List ℕ). get_or y x 0) (sym B.inn_is);
    outw_same = λ {e} h.
        called.front_cell outw' R.2 room' second.1.1.1 e (omega arith) ∙ sym (R.3.1.1 e)
        ∙ sym (called.front_cell outw B.outw' room first.1.1.1 e h) ∙ ap (λ (y : List ℕ). get_or y e 0) (sym B.outw_is);
  }
