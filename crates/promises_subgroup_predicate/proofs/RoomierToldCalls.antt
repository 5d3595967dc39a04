-- More room changes nothing of what a predicate tells: `from_predicate` with at least that room, in any buffers that are not short, is accepted by the same
-- elements, with the same numbers in its stretch, and the same maps.
use Prim.Native.Nat.{ℕ, ◌+◌, ◌*◌, ◌-◌, ◌≤◌, ◌<◌}
use mathlib.Core.Path.{◌≡◌, refl, sym, ap, ◌∙◌}
use mathlib.Core.List.{List, []}
use native.Mathlib.Nat.{le_refl, mul-le-mul}
use native.Mathlib.Omega.{arith}
use lib.ListN.{length, get_or, take}
use Rattle.std.specs.Prelude.{Ok}
use Rattle.build_lending.specs.Finish.{built}
use Rattle.build_lending.specs.Lending.{table_need, work_need, within}
use Rattle.enumeration_run_laws.specs.Longer.{longer}
use Rattle.enumeration_run_laws.proofs.LongerStores.{longer_get}
use Rattle.build_laws.proofs.Lent.{handle, stretch_cell}
use Rattle.group_handles.specs.declared.Group.{Group}
use Rattle.group_handles.specs.Handles.{handles, elements_of, group_of}
use Rattle.group_digits.specs.Digits.{composes}
use Rattle.promises_group.specs.Products.{AllAccepted, direct}
use Rattle.build_numbering.specs.Build.{Renumbering, renumbering}
use Rattle.subgroup_build.specs.declared.Subgroup.{Subgroup}
use Rattle.subgroup_build.specs.Lent.{subgrouping}
use Rattle.subgroup_predicate_choices.specs.Choices.{Picked, picked, again_in}
use Rattle.subgroup_predicate.specs.Predicate.{predicate_in, told_back, from_predicate}
use Rattle.promises_subgroup_predicate.specs.Predicate.{Chosen}
use Rattle.promises_subgroup_predicate.specs.Tells.{Predicated}
use Rattle.promises_subgroup.specs.Generates.{RoomierGenerates}
use Rattle.promises_subgroup_predicate.proofs.Telling.{eight_rows, eight_work, answering, predicate_ends, ends_accepted}
use Rattle.promises_subgroup_predicate.specs.Accepts.{Accepts}
use Rattle.promises_subgroup_predicate.proofs.RoomierTold.{predicate_roomier}
use Rattle.promises_subgroup.proofs.RoomierCalls.{build_roomier}
use Rattle.promises_subgroup.proofs.Called.{front_cell}
use Rattle.promises_subgroup_predicate.proofs.ToldCalls as told
use Rattle.promises_subgroup.proofs.Leaving.{accepted_lengths}

module _ (from : List ℕ) (over : Group) (members table : List ℕ) (start : ℕ) (work inn outw : List ℕ) (room : ℕ) (As : AllAccepted from (handles over))
    {s : Subgroup} {t w i o : List ℕ}
    (q : from_predicate from over members table start work inn outw room ≡ subgrouping (Ok s) t w i o)
    (table' : List ℕ) (start' : ℕ) (work' inn' outw' : List ℕ) (room' : ℕ) (S' : Predicated from over members table' start' work' inn' outw' room')
    (more : room ≤ room') where
  abbrev M : ℕ
  M = elements_of (handles over)

  abbrev lent : List ℕ
  lent = take (work_need 8 room) work

  abbrev lent' : List ℕ
  lent' = take (work_need 8 room') work'

  S : Predicated from over members table start work inn outw room
  S = (told.predicate_given from over members table start work inn outw room As q).started

  B : told.Backed from over members table start work inn outw room
      (predicate_in (table_need 8 room) (take (work_need 8 room) work) (composes from (handles over)) room M room (λ x. get_or members x 0)) s t w i o
  B = told.back_accepted from over members table start work inn outw room _ (sym (told.is_told from over members table start work inn outw room S) ∙ q)

  wider : table_need 8 room ≤ table_need 8 room'
  wider = mul-le-mul more (le_refl (2 * 8 + 4))

  R : Accepts B.gens (predicate_in (table_need 8 room') (take (work_need 8 room') work') (composes from (handles over)) room' M room' (λ x. get_or members x 0))
  R =
      predicate_roomier (told.G from over members table start work inn outw room S As) (told.small from over members table start work inn outw room S)
      (composes from (handles over)) (told.answers from over members table start work inn outw room S As)
      room room (told.lo from over members table start work inn outw room S) (told.hi from over members table start work inn outw room S) (le_refl room)
      (table_need 8 room) (length lent) (le_refl (table_need 8 room)) (told.work_fits from over members table start work inn outw room S)
      room' room' (told.lo from over members table' start' work' inn' outw' room' S') (told.hi from over members table' start' work' inn' outw' room' S') (le_refl room')
      (table_need 8 room') (length lent') (le_refl (table_need 8 room')) (told.work_fits from over members table' start' work' inn' outw' room' S') more
      (λ x. get_or members x 0) B.gens lent lent' refl refl (record {
        build = renumbering (built (Ok B.count) B.table' B.work') B.inn' B.outw';
        is = B.is;
        counts = record { count = B.count; table = B.table'; work = B.work'; inn = B.inn'; outw = B.outw'; is = refl };
      })

  -- The last builds of both calls, by the same elements.
  E : Chosen (direct from over).op (λ x. get_or members x 0) M B.gens × ((w₀ : List ℕ) × (length w₀ ≡ length lent)
      × (again_in (table_need 8 room) (composes from (handles over)) room M room B.gens w₀
      ≡ renumbering (built (Ok B.count) B.table' B.work') B.inn' B.outw'))
  E =
      ends_accepted (predicate_ends (told.G from over members table start work inn outw room S As) (told.small from over members table start work inn outw room S)
      (composes from (handles over)) (told.answers from over members table start work inn outw room S As)
      room room (told.lo from over members table start work inn outw room S) (told.hi from over members table start work inn outw room S) (le_refl room)
      (table_need 8 room) (length lent) (le_refl (table_need 8 room)) (told.work_fits from over members table start work inn outw room S)
      (λ x. get_or members x 0) lent refl) B.is

  E' : Chosen (direct from over).op (λ x. get_or members x 0) M B.gens × ((w₀ : List ℕ) × (length w₀ ≡ length lent')
      × (again_in (table_need 8 room') (composes from (handles over)) room' M room' B.gens w₀
      ≡ renumbering (built (Ok R.counts.count) R.counts.table R.counts.work) R.counts.inn R.counts.outw))
  E' =
      ends_accepted (predicate_ends (told.G from over members table' start' work' inn' outw' room' S' As) (told.small from over members table' start' work' inn' outw' room' S')
      (composes from (handles over)) (told.answers from over members table' start' work' inn' outw' room' S' As)
      room' room' (told.lo from over members table' start' work' inn' outw' room' S') (told.hi from over members table' start' work' inn' outw' room' S') (le_refl room')
      (table_need 8 room') (length lent') (le_refl (table_need 8 room')) (told.work_fits from over members table' start' work' inn' outw' room' S')
      (λ x. get_or members x 0) lent' refl) (R.is ∙ ap (λ (r : Renumbering). picked B.gens r) R.counts.is)

  below : (g : ℕ) → g < length B.gens → get_or B.gens g 0 < M
  below g h = E.0.before h

  X : (w₂ : List ℕ) × (i' : List ℕ) × (o' : List ℕ)
      × ((again_in (table_need 8 room') (composes from (handles over)) room' M room' B.gens E'.1.0
      ≡ renumbering (built (Ok B.count) (longer (table_need 8 room' - table_need 8 room) B.table') w₂) i' o')
      × ((B.inn' ≡ i') × ((e : ℕ) → get_or B.outw' e 0 ≡ get_or o' e 0)))
  X =
      build_roomier (told.G from over members table start work inn outw room S As) (told.small from over members table start work inn outw room S)
      below (λ y g. composes from (handles over) y (get_or B.gens g 0))
      (answering (told.G from over members table start work inn outw room S As) (told.small from over members table start work inn outw room S)
      (composes from (handles over)) (told.answers from over members table start work inn outw room S As)
      room room (told.lo from over members table start work inn outw room S) (told.hi from over members table start work inn outw room S) (le_refl room)
      (table_need 8 room) (length lent) (le_refl (table_need 8 room)) (told.work_fits from over members table start work inn outw room S)
      B.gens E.0.few below) E.0.few
      room room (told.lo from over members table start work inn outw room S) (told.hi from over members table start work inn outw room S) (le_refl room)
      (table_need 8 room) E.1.0 (eight_rows (length B.gens) room (table_need 8 room) E.0.few (le_refl (table_need 8 room)))
      (eight_work (length B.gens) room (length E.1.0) E.0.few (rw E.1.1 (told.work_fits from over members table start work inn outw room S)))
      room' room' (told.lo from over members table' start' work' inn' outw' room' S') (told.hi from over members table' start' work' inn' outw' room' S') (le_refl room')
      (table_need 8 room') E'.1.0 (eight_rows (length B.gens) room' (table_need 8 room') E.0.few (le_refl (table_need 8 room')))
      (eight_work (length B.gens) room' (length E'.1.0) E.0.few (rw E'.1.1 (told.work_fits from over members table' start' work' inn' outw' room' S')))
      more wider E.1.2

  abbrev longest : List ℕ
  longest = longer (table_need 8 room' - table_need 8 room) B.table'

  is_told' : predicate_in (table_need 8 room') (take (work_need 8 room') work') (composes from (handles over)) room' M room' (λ x. get_or members x 0)
      ≡ picked B.gens (renumbering (built (Ok B.count) longest X.0) X.1 X.2)
  is_told' = R.is ∙ ap (λ (r : Renumbering). picked B.gens r) (R.counts.is ∙ sym E'.1.2 ∙ X.3.0)

  first : (length B.table' ≡ table_need 8 room) × ((length B.work' ≡ length E.1.0) × ((length B.inn' ≡ M) × (length B.outw' ≡ room)))
  first =
      accepted_lengths (table_need 8 room) E.1.0 (λ y g. composes from (handles over) y (get_or B.gens g 0)) (length B.gens) room M room 0 E.1.2

  second : (length longest ≡ table_need 8 room') × ((length X.0 ≡ length E'.1.0) × ((length X.1 ≡ M) × (length X.2 ≡ room')))
  second =
      accepted_lengths (table_need 8 room') E'.1.0 (λ y g. composes from (handles over) y (get_or B.gens g 0)) (length B.gens) room' M room' 0 X.3.0

  same_cell : {k : ℕ} → k < table_need 8 room → get_or (within table' start' (start' + table_need 8 room') longest) (start' + k) 0 ≡ get_or t (start + k) 0
  same_cell {k} h =
      let l : k < table_need 8 room' = omega (arith, wider) in
      stretch_cell table' start' 8 room' (told.has from over members table' start' work' inn' outw' room' S') longest second.0 B.count k l
      ∙ longer_get (table_need 8 room' - table_need 8 room) B.table' k
      ∙ sym (stretch_cell table start 8 room (told.has from over members table start work inn outw room S) B.table' first.0 B.count k h)
      ∙ ap (λ (x : List ℕ). get_or x (start + k) 0) (sym B.table_is)

  pub predicate_call_roomier : RoomierGenerates over 8 start room s t i o start' room' (from_predicate from over members table' start' work' inn' outw' room')
  predicate_call_roomier = record {
    subgroup' = record { below = group_of []; factor = handle start' (length B.gens) room' B.count; over = over; above = group_of [] };
    table' = within table' start' (start' + table_need 8 room') longest;
    work' = within work' 0 (work_need 8 room') X.0;
    inn' = within inn' 0 M X.1;
    outw' = within outw' 0 room' X.2;
    accepted = told.is_told from over members table' start' work' inn' outw' room' S'
        ∙ ap (λ (p : Picked). told_back over table' start' work' inn' outw' M room' p) is_told';
    generators = sym (ap (λ (x : Subgroup). x.factor.generators) B.value);
    elements = sym (ap (λ (x : Subgroup). x.factor.elements) B.value);
    same = λ {k} h. same_cell h;
    inn_same = λ {x} h.
        front_cell inn' X.1 M second.1.1.0 x h ∙ ap (λ (y : List ℕ). get_or y x 0) (sym X.3.1.0)
        ∙ sym (front_cell inn B.inn' M first.1.1.0 x h) ∙ ap (λ (y : List ℕ). get_or y x 0) (sym B.inn_is);
    outw_same = λ {e} h.
        front_cell outw' X.2 room' second.1.1.1 e (omega arith) ∙ sym (X.3.1.1 e)
        ∙ sym (front_cell outw B.outw' room first.1.1.1 e h) ∙ ap (λ (y : List ℕ). get_or y e 0) (sym B.outw_is);
  }
