-- `from_predicate` in its buffers: refused with nothing touched, or the builds put back; and what an accepted call gives.
use Prim.Native.Nat.{ℕ, ◌+◌, ◌*◌, ◌≤◌, ◌<◌}
use mathlib.Core.Path.{◌≡◌, refl, sym, ap, ◌∙◌, subst}
use mathlib.Core.Logic.{◌↔◌}
use mathlib.Core.Bool.{Bool, true, false, ◌&&◌}
use mathlib.Core.List.{List, []}
use native.Mathlib.Nat.{le_refl}
use native.Mathlib.Omega.{arith}
use borrow.Author.Tests.{le-leb, leb-true}
use lib.Dec.{leb}
use lib.ListN.{length, get_or, take}
use Rattle.egg.specs.declared.Refusal.{Refusal}
use Rattle.egg.specs.Answers.{Verdict, fine}
use Rattle.std.specs.Prelude.{Ok, Err}
use Rattle.egg.specs.Table.{step_of}
use Rattle.egg.specs.Factor.{has_room, stretch}
use Rattle.egg.proofs.Rooms.{positive, limited, and_first, and_second}
use Rattle.egg.specs.Answers.{numbered}
use Rattle.build_word_cells.specs.Hops.{Hops}
use Rattle.build_lending.specs.Finish.{built}
use Rattle.build_lending.specs.Lending.{table_need, work_need, lent_right, within, made_of}
use Rattle.build_lending.proofs.Lending.{lent_table_lem}
use Rattle.theory.specs.Group.{GroupOn}
use Rattle.build_laws.proofs.Lent.{work_taken, taken_enough, handle}
use Rattle.group_handles.specs.declared.Group.{Group}
use Rattle.group_handles.specs.Handles.{handles, elements_of, group_of}
use Rattle.group_digits.specs.Digits.{composes}
use Rattle.promises_group.specs.Products.{AllAccepted, direct}
use Rattle.build_numbering.specs.Renumber as appear
use Rattle.build_numbering.specs.Build.{renumbering}
use Rattle.subgroup_build.specs.declared.Subgroup.{Subgroup}
use Rattle.subgroup_build.specs.Lent.{subgroup_of, subgrouping, maps_right}
use Rattle.subgroup_build.proofs.Admits.{small_elements, maps_lent}
use Rattle.subgroup_predicate_choices.specs.Choices.{Picked, picked}
use Rattle.subgroup_predicate.specs.Predicate.{predicate_in, admits_over, told_back, told_into, from_predicate}
use Rattle.subgroup_predicate.proofs.Told.{over_fine, over_admitted}
use Rattle.build_checks_laws.specs.Sound.{Sound, Ruled}
use Rattle.build_checks_laws.proofs.Accepted.{sound_group}
use Rattle.build_numbering_laws.specs.Maps.{RenumberedLists}
use Rattle.theory.specs.Subgroup.{right_by}
use Rattle.theory.proofs.Subgroups.{generator_outside}
use Rattle.promises_subgroup_predicate.specs.Predicate.{Reach}
use Rattle.promises_subgroup_predicate.specs.Told.{Told}
use Rattle.promises_subgroup_predicate.specs.Tells.{Predicated, Tells}
use Rattle.promises_subgroup.proofs.Overgroup.{product_answers, product_overgroup, generated_as}
use Rattle.promises_subgroup.proofs.Held.{held_homomorphic}
use Rattle.promises_subgroup_predicate.proofs.Given.{predicate_told, told_subgroup, predicate_narrow}
use Rattle.promises_subgroup.proofs.Stretches.{step_cut, held_steps, first_part, handle_fits}
use Rattle.promises_subgroup.proofs.Called.{front_cell, carried_as, homomorphic_as, fine_refused, same_refusal, same_subgroup}

module _ (from : List ℕ) (over : Group) (members table : List ℕ) (start : ℕ) (work inn outw : List ℕ) (room : ℕ) where
  abbrev M : ℕ
  M = elements_of (handles over)

  abbrev byte : ℕ → ℕ
  byte x = get_or members x 0

  abbrev whole : Picked
  whole = predicate_in (table_need 8 room) (take (work_need 8 room) work) (composes from (handles over)) room M room (λ x. get_or members x 0)

  pub early_arguments : {r : Refusal} → admits_over (length from) over ≡ Err r
      → from_predicate from over members table start work inn outw room
      ≡ subgrouping (Err r) table work inn outw
  unfolding from_predicate
  early_arguments q = rw q

  pub early_short : admits_over (length from) over ≡ fine
      → maps_right (length table) start (length work) (length inn) (length outw) room 8 M && leb M (length members) ≡ false
      → from_predicate from over members table start work inn outw room ≡ subgrouping (Err (numbered 4 0 0 0)) table work inn outw
  unfolding from_predicate told_into
  early_short q l = rw (q, l)

  pub is_told : Predicated from over members table start work inn outw room
      → from_predicate from over members table start work inn outw room ≡ told_back over table start work inn outw M room whole
  unfolding from_predicate told_into
  is_told S =
      let v : admits_over (length from) over ≡ fine = sym (over_fine (length from) over S.fits refl S.small) in
      rw (v, S.lent, le-leb M (length members) S.bytes)

  pub data Ways : Type 0 where
    early : (r : Refusal)
        → from_predicate from over members table start work inn outw room
        ≡ subgrouping (Err r) table work inn outw → Ways
    late : Predicated from over members table start work inn outw room → Ways

  pub ways : Ways
  ways = by (admits_over (length from) over) (maps_right (length table) start (length work) (length inn) (length outw) room 8 M && leb M (length members)) refl refl
    where
      by : (v : Verdict) (b : Bool) → admits_over (length from) over ≡ v
          → maps_right (length table) start (length work) (length inn) (length outw) room 8 M && leb M (length members) ≡ b → Ways
      by (Err r) b q l = early r (early_arguments q)
      by (Ok _) false q l = early (numbered 4 0 0 0) (early_short q l)
      by (Ok _) true q l =
          let A = over_admitted (length from) over refl q in
          late (record {
            fits = A.0;
            small = A.1;
            lent = and_first _ _ l;
            bytes = leb-true _ _ (and_second (maps_right (length table) start (length work) (length inn) (length outw) room 8 M) _ l);
          })

  pub record Backed (b : Picked) (s : Subgroup) (t w i o : List ℕ) : Type 0 where
    pub gens : List ℕ
    pub count : ℕ
    pub table' : List ℕ
    pub work' : List ℕ
    pub inn' : List ℕ
    pub outw' : List ℕ
    pub is : b ≡ picked gens (renumbering (built (Ok count) table' work') inn' outw')
    pub value : s ≡ record { below = group_of []; factor = handle start (length gens) room count; over = over; above = group_of [] }
    pub table_is : t ≡ within table start (start + table_need 8 room) table'
    pub work_is : w ≡ within work 0 (work_need 8 room) work'
    pub inn_is : i ≡ within inn 0 M inn'
    pub outw_is : o ≡ within outw 0 room outw'

  pub back_accepted : (b : Picked) {s : Subgroup} {t w i o : List ℕ}
      → told_back over table start work inn outw M room b ≡ subgrouping (Ok s) t w i o → Backed b s t w i o
  back_accepted (picked gens (renumbering (built (Ok c) t' w') i' o')) {s} q =
      let m : subgroup_of over (made_of start room (length gens) (Ok c)) ≡ Ok s = cc in
      record {
        gens = gens;
        count = c;
        table' = t';
        work' = w';
        inn' = i';
        outw' = o';
        is = refl;
        value = sym (same_subgroup m);
        table_is = cc;
        work_is = cc;
        inn_is = cc;
        outw_is = cc;
      }
  back_accepted (picked gens (renumbering (built (Err r) t' w') i' o')) q = absurd (fine_refused q)

  pub back_refused : (b : Picked) {r : Refusal} {t w i o : List ℕ}
      → told_back over table start work inn outw M room b ≡ subgrouping (Err r) t w i o
      → (gens : List ℕ) × (t' : List ℕ) × (w' : List ℕ) × (i' : List ℕ) × (o' : List ℕ) × (b ≡ picked gens (renumbering (built (Err r) t' w') i' o'))
  back_refused (picked gens (renumbering (built (Ok c) t' w') i' o')) q = absurd (fine_refused (sym q))
  back_refused (picked gens (renumbering (built (Err f) t' w') i' o')) {r} q =
      let e : f ≡ r = same_refusal q in
      (gens, t', w', i', o', ap (λ (x : Refusal). picked gens (renumbering (built (Err x) t' w') i' o')) e)

  -- What has started: the room is within its limits, and the stretches are long enough.
  module _ (S : Predicated from over members table start work inn outw room) where
    pub small : M ≤ 4294967295
    small = omega (arith, small_elements over S.small)

    lent : lent_right (length table) start (length work) room 8 ≡ true
    lent = maps_lent (length table) start (length work) (length inn) (length outw) room 8 M S.lent

    pub has : has_room (length table) start room 8 ≡ true
    has = lent_table_lem (length table) start (length work) room 8 lent

    pub lo : 1 ≤ room
    lo = positive (length table) start room 8 has

    pub hi : room ≤ 65535
    hi = limited (length table) start room 8 has

    pub work_long : length (take (work_need 8 room) work) ≡ work_need 8 room
    work_long = work_taken table start work 8 room lent

    pub work_fits : room * (6 * 8 * 8 + 4 * 8) ≤ length (take (work_need 8 room) work)
    work_fits = taken_enough table start work 8 room lent

  module _ (S : Predicated from over members table start work inn outw room) (As : AllAccepted from (handles over)) where
    abbrev op : ℕ → ℕ → ℕ
    op = (direct from over).op

    abbrev inv : ℕ → ℕ
    inv = (direct from over).inv

    pub G : GroupOn M op inv
    G = product_overgroup from As

    pub answers : (y x : ℕ) → y < M → x < M → composes from (handles over) y x ≡ Ok (record { 0 = op y x })
    answers = product_answers from As

    told_of_lem : {gens : List ℕ} {c : ℕ} {t w i o : List ℕ} → whole ≡ picked gens (renumbering (built (Ok c) t w) i o)
        → Told op inv byte M room room (table_need 8 room) (work_need 8 room) gens c t w i o
    told_of_lem {gens} {c} {t} {w} {i} {o} q =
        subst (λ (L : ℕ). Told op inv byte M room room (table_need 8 room) L gens c t w i o) (work_long S)
        (predicate_told G (small S) (composes from (handles over)) answers room room (lo S) (hi S) (le_refl room) (table_need 8 room) (le_refl (table_need 8 room)) byte
        (take (work_need 8 room) work) (work_fits S) gens q)

    module _ {gens : List ℕ} {c : ℕ} {t w i o : List ℕ} (q : whole ≡ picked gens (renumbering (built (Ok c) t w) i o)) where
      T : Told op inv byte M room room (table_need 8 room) (work_need 8 room) gens c t w i o
      T = told_of_lem q

      over_same : (e : ℕ) → e < c → get_or o e 0 ≡ get_or (within outw 0 room o) e 0
      over_same e h = sym (front_cell outw o room T.held.outw_size e (omega (arith, T.held.within)))

      sub_same : (x : ℕ) → x < M → get_or i x 0 ≡ get_or (within inn 0 M i) x 0
      sub_same x h = sym (front_cell inn i M T.held.inn_size x h)

      narrowed : Sound (take (table_need (length gens) room) t) (length gens) c × Ruled (take (table_need (length gens) room) t) (length gens) c
          × Hops (take (table_need (length gens) room) t) (length gens) c
      narrowed =
          predicate_narrow G (small S) (composes from (handles over)) answers room room (lo S) (hi S) (le_refl room) (table_need 8 room) (le_refl (table_need 8 room)) byte
          (take (work_need 8 room) work) (work_fits S) gens q

      cut : stretch (within table start (start + table_need 8 room) t) (handle start (length gens) room c) ≡ take (table_need (length gens) room) t
      cut = first_part table start 8 room (has S) (le_refl 8) (length gens) c t T.chosen.few T.size_kept

      below : (g : ℕ) → g < length gens → get_or gens g 0 < M
      below g h = T.chosen.before h

      -- The maps hold the numbering of the factor's own stretch.
      own : RenumberedLists (length gens) M room room (right_by op (λ g. get_or gens g 0)) 0 c (step_of (take (table_need (length gens) room) t) (length gens)) i o
      own = held_steps T.held (λ e g h hg. step_cut t (length gens) room e g (omega (arith, T.held.within)) hg)

      known : (x : ℕ) → Reach op gens (length gens) x ↔ ((x < M) × ¬ (get_or (within inn 0 M i) x 0 ≡ appear.no_number))
      known x = (
        λ r. let h = T.generated.subgroup.below r in (h, λ z. (T.in_map x h).1 r (sub_same x h ∙ z)),
        λ p. (T.in_map x p.0).0 (λ z. p.1 (sym (sub_same x p.0) ∙ z)),
      )

      tells : Tells from over members table start work inn outw room
          (record { below = group_of []; factor = handle start (length gens) room c; over = over; above = group_of [] })
          (within table start (start + table_need 8 room) t) (within work 0 (work_need 8 room) w) (within inn 0 M i) (within outw 0 room o)
      tells = record {
        started = S;
        gens = gens;
        table₈ = t;
        work₈ = w;
        inn₈ = i;
        outw₈ = o;
        handle = refl;
        holds = record {
          value = refl;
          count = refl;
          accepted = record {
            fits = handle_fits table start 8 room (has S) (le_refl 8) (length gens) c t T.chosen.few T.size_kept T.sound.table.origin T.held.within;
            sound = rw cut narrowed.0;
            ruled = rw cut narrowed.1;
            hops = rw cut narrowed.2;
          };
          proper = T.proper;
          members = generated_as known T.generated;
          carried = carried_as over_same sub_same T.carried;
          homomorphic = rw cut (homomorphic_as (sound_group narrowed.0) over_same (held_homomorphic G below own narrowed.0));
          generators = λ {g} h. rw cut (sym (over_same (step_of (take (table_need (length gens) room) t) (length gens) 0 g)
              (narrowed.0.table.closed narrowed.0.table.origin h)) ∙ generator_outside G below own.renumbered h);
        };
        told = T;
        table_is = refl;
        work_is = refl;
        inn_is = refl;
        outw_is = refl;
        exactly = λ B exact y h.
            let P = told_subgroup G (small S) (composes from (handles over)) answers room room (lo S) (hi S) (le_refl room) (table_need 8 room)
            (le_refl (table_need 8 room)) byte (take (work_need 8 room) work) (work_fits S) gens q B exact y h in
            (λ k. P.0 (λ z. k (sym (sub_same y h) ∙ z)), λ k z. P.1 k (sub_same y h ∙ z));
      }

    tells_at : {s s' : Subgroup} {t t' w w' i i' o o' : List ℕ} → s ≡ s' → t ≡ t' → w ≡ w' → i ≡ i' → o ≡ o'
        → Tells from over members table start work inn outw room s' t' w' i' o' → Tells from over members table start work inn outw room s t w i o
    tells_at a b c d e H = rw (a, b, c, d, e) H

    started_tells : {s : Subgroup} {t w i o : List ℕ}
        → from_predicate from over members table start work inn outw room ≡ subgrouping (Ok s) t w i o
        → Tells from over members table start work inn outw room s t w i o
    started_tells q =
        let B = back_accepted whole (sym (is_told S) ∙ q) in
        tells_at B.value B.table_is B.work_is B.inn_is B.outw_is (tells B.is)

  pub accepted_started : {s : Subgroup} {t w i o : List ℕ}
      → from_predicate from over members table start work inn outw room ≡ subgrouping (Ok s) t w i o
      → Predicated from over members table start work inn outw room
  accepted_started q = go ways where
    go : Ways → Predicated from over members table start work inn outw room
    go (early r z) = absurd (fine_refused (sym z ∙ q))
    go (late S) = S

  -- What an accepted call gives, whatever the arguments.
  pub predicate_given : AllAccepted from (handles over) → {s : Subgroup} {t w i o : List ℕ}
      → from_predicate from over members table start work inn outw room ≡ subgrouping (Ok s) t w i o
      → Tells from over members table start work inn outw room s t w i o
  predicate_given As q = started_tells (accepted_started q) As q
