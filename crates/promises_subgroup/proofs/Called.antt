-- `from_generators` in its buffers: refused with nothing touched, or the build put back; what an accepted call gives; and when it is accepted.
use Rattle.egg.specs.Answers.{answer_of}
use Prim.Native.Nat.{ℕ, ◌+◌, ◌≤◌, ◌<◌, zero-le}
use mathlib.Core.Path.{◌≡◌, refl, sym, ap, ◌∙◌, subst}
use mathlib.Core.Logic.{◌↔◌}
use mathlib.Core.Bool.{Bool, true, false}
use mathlib.Core.List.{List, []}
use native.Mathlib.Nat.{le_refl}
use native.Mathlib.Omega.{arith}
use borrow.Author.Tests.{lt-ltb, le-ltb, ltb-true, ltb-false, leb-false}
use lib.Dec.{leb, ltb}
use lib.ListN.{length, get_or, take, drop, replicate, get_or-append, length-append, length-drop}
use lib.Seq.{take_at}
use Rattle.egg.specs.declared.Refusal.{Refusal}
use Rattle.egg.specs.Answers.{Reached, Verdict, fine}
use Rattle.std.specs.Prelude.{Ok, Err}
use Rattle.egg.specs.Table.{pick, step_of}
use Rattle.egg.specs.Scan.{refused_of}
use Rattle.egg.specs.Factor.{has_room, stretch}
use Rattle.egg.proofs.Rooms.{positive, limited}
use Rattle.egg.proofs.Scans.{scan_each, refused_fine}
use Rattle.egg.specs.Answers.{numbered}
use Rattle.build_lending.specs.Finish.{built}
use Rattle.build_lending.specs.Lending.{table_need, work_need, lent_right, within, made_of}
use Rattle.build_lending.proofs.Lending.{lent_table_lem}
use Rattle.theory.specs.Group.{GroupOn}
use Rattle.theory.proofs.Reading.{numbered_once}
use Rattle.build_checks_laws.proofs.Accepted.{sound_group}
use Rattle.build_laws.proofs.Lent.{work_taken, taken_enough, handle, lent_table, stretch_part, fits_still}
use Rattle.group_handles.specs.declared.Group.{Group}
use Rattle.group_handles.specs.Handles.{handles, elements_of, group_of}
use Rattle.promises_group.specs.Products.{AllAccepted, direct}
use Rattle.build_numbering.specs.Renumber as appear
use Rattle.build_numbering.specs.Build.{Renumbering, renumbering, renumber_in}
use Rattle.theory.specs.Orbit.{Appearing}
use Rattle.build_numbering_laws.specs.Source.{Answering}
use Rattle.theory.specs.Subgroup.{right_by}
use Rattle.theory.proofs.Subgroups.{right_inside, generator_outside}
use Rattle.build_numbering_laws.proofs.Builds.{renumber_holds}
use Rattle.build_numbering_laws.proofs.SubgroupBuilds.{subgroup_exactly}
use Rattle.subgroup_build.specs.declared.Subgroup.{Subgroup}
use Rattle.subgroup_build.specs.Answers.{Subgrouped}
use Rattle.factor_walk.specs.Walked.{shown}
use Rattle.subgroup_build.specs.Lent.{subgroup_of, subgrouping, maps_right, maps_back}
use Rattle.subgroup_rows.specs.Rows.{product_by}
use Rattle.subgroup_build.specs.Generated.{entry_right, entries_right, admits_generators, generated_into, from_generators}
use Rattle.subgroup_build.proofs.Admits.{generators_fine, admitted, small_elements, maps_lent, maps_inn, maps_outw}
use Rattle.promises_subgroup.specs.Carried.{MapsUndo, Homomorphic}
use Rattle.promises_subgroup.specs.Made.{SubgroupMade}
use Rattle.promises_subgroup.specs.Generates.{Started, Generates, Acceptable}
use Rattle.promises_subgroup.proofs.Overgroup.{product_answers, product_overgroup, generated_as, subgroup_made}

-- A front of a buffer that is back.
module _ (l p : List ℕ) (k : ℕ) (size : length p ≡ k) where
  pub front_cell : (x : ℕ) → x < k → get_or (within l 0 k p) x 0 ≡ get_or p x 0
  unfolding within
  front_cell x h = let z : x < length p = rw size h in get_or-append p (drop k l) 0 x z

  pub front_part : take k (within l 0 k p) ≡ p
  unfolding within
  front_part = take_at p (drop k l) k size

pub front_long : (l p : List ℕ) (k : ℕ) → length p ≡ k → k ≤ length l → length (within l 0 k p) ≡ length l
unfolding within
front_long l p k size h = simp (length-append, length-drop) (omega (arith, size))

-- The same maps by other names.
pub carried_as : {M N : ℕ} {f f' g g' : ℕ → ℕ} → ((e : ℕ) → e < N → f e ≡ f' e) → ((x : ℕ) → x < M → g x ≡ g' x) → MapsUndo M N f g → MapsUndo M N f' g'
carried_as {M} {N} {f} {f'} {g} {g'} p q C = record {
  small = C.small;
  over_below = λ {e} h. rw (p e h) at (C.over_below h);
  there_and_back = λ {e} h. ap g' (sym (p e h)) ∙ sym (q (f e) (C.over_below h)) ∙ C.there_and_back h;
  sub_below = λ {x} h k. subst (λ (y : ℕ). y < N) (q x h) (C.sub_below h (λ z. k (sym (q x h) ∙ z)));
  back_and_there = λ {x} h k.
      let k' : ¬ (g x ≡ appear.no_number) = λ z. k (sym (q x h) ∙ z) in
      ap f' (sym (q x h)) ∙ sym (p (g x) (C.sub_below h k')) ∙ C.back_and_there h k';
}

pub homomorphic_as : {N : ℕ} {opₛ op : ℕ → ℕ → ℕ} {invₛ inv f f' : ℕ → ℕ} → GroupOn N opₛ invₛ → ((e : ℕ) → e < N → f e ≡ f' e)
    → Homomorphic N opₛ invₛ op inv f → Homomorphic N opₛ invₛ op inv f'
homomorphic_as {N} {opₛ} {op} {invₛ} {inv} {f} {f'} G p H = record {
  identity = sym (p 0 G.identity) ∙ H.identity;
  composes = λ {a} {b} ha hb.
      sym (p (opₛ a b) (G.op_closed ha hb)) ∙ H.composes ha hb ∙ ap (λ (x : ℕ). op x (f b)) (p a ha) ∙ ap (λ (x : ℕ). op (f' a) x) (p b hb);
  inverts = λ {a} ha. sym (p (invₛ a) (G.inv_closed ha)) ∙ H.inverts ha ∙ ap inv (p a ha);
}

-- A refusal is no acceptance, and is one refusal.
pub fine_refused : {r : Refusal} {s : Subgroup} {t t' w w' i i' o o' : List ℕ}
    → subgrouping (Err r) t w i o ≡ subgrouping (Ok s) t' w' i' o' → ⊥
fine_refused {r} {s} h =
    let m : ◌≡◌ {A = Subgrouped} (Err r) (Ok s) = cc in
    refused_fine (ap (λ (x : Subgrouped). answer_of x) m)

pub same_refusal : {r r' : Refusal} {t t' w w' i i' o o' : List ℕ}
    → subgrouping (Err r) t w i o ≡ subgrouping (Err r') t' w' i' o' → r ≡ r'
same_refusal {r} {r'} h = let m : ◌≡◌ {A = Subgrouped} (Err r) (Err r') = cc in cc

-- An accepted subgroup is one subgroup.
pub same_subgroup : {a b : Subgroup} → ◌≡◌ {A = Subgrouped} (Ok a) (Ok b) → a ≡ b
same_subgroup q = cc

module _ (from : List ℕ) (over : Group) (gens table : List ℕ) (start : ℕ) (work inn outw : List ℕ) (room : ℕ) where
  abbrev n : ℕ
  n = length gens

  abbrev M : ℕ
  M = elements_of (handles over)

  abbrev gen : ℕ → ℕ
  gen g = get_or gens g 0

  -- A refusal before the start: nothing is touched.
  pub early_arguments : {r : Refusal} → admits_generators (length from) over gens ≡ Err r
      → from_generators from over gens table start work inn outw room
      ≡ subgrouping (Err r) table work inn outw
  unfolding from_generators
  early_arguments q = rw q

  pub early_many : admits_generators (length from) over gens ≡ fine → 8 < n
      → from_generators from over gens table start work inn outw room ≡ subgrouping (Err (numbered 1 (shown n) 0 0)) table work inn outw
  unfolding from_generators generated_into
  early_many q h = rw (q, lt-ltb 8 n h)

  pub early_short : admits_generators (length from) over gens ≡ fine → n ≤ 8
      → maps_right (length table) start (length work) (length inn) (length outw) room n M ≡ false
      → from_generators from over gens table start work inn outw room ≡ subgrouping (Err (numbered 4 0 0 0)) table work inn outw
  unfolding from_generators generated_into
  early_short q h l = rw (q, le-ltb 8 n h, l)

  -- Else it is the build.
  pub is_build : Started from over gens table start work inn outw room
      → from_generators from over gens table start work inn outw room
      ≡ maps_back over table start work inn outw M n n room
      (renumber_in (table_need n room) (take (work_need n room) work) (product_by from (handles over) gens) n room M room 0)
  unfolding from_generators generated_into
  is_build S =
      let v : admits_generators (length from) over gens ≡ fine = sym (generators_fine (length from) over gens S.fits refl S.entries refl S.small) in
      rw (v, le-ltb 8 n S.few, S.lent)

  pub data Ways : Type 0 where
    early : (r : Refusal)
        → from_generators from over gens table start work inn outw room
        ≡ subgrouping (Err r) table work inn outw → Ways
    late : Started from over gens table start work inn outw room → Ways

  pub ways : Ways
  ways = by (admits_generators (length from) over gens) (ltb 8 n) (maps_right (length table) start (length work) (length inn) (length outw) room n M) refl refl refl
    where
      by : (v : Verdict) (a b : Bool) → admits_generators (length from) over gens ≡ v → ltb 8 n ≡ a
          → maps_right (length table) start (length work) (length inn) (length outw) room n M ≡ b → Ways
      by (Err r) a b q k l = early r (early_arguments q)
      by (Ok _) true b q k l = early (numbered 1 (shown n) 0 0) (early_many q (ltb-true 8 n k))
      by (Ok _) false false q k l = early (numbered 4 0 0 0) (early_short q (ltb-false 8 n k) l)
      by (Ok _) false true q k l =
          let A = admitted (length from) over gens q in
          late (record { fits = A.fits; entries = A.entries; small = A.small; few = ltb-false 8 n k; lent = l })

  -- What is put back.
  pub record Backed (b : Renumbering) (s : Subgroup) (t w i o : List ℕ) : Type 0 where
    pub count : ℕ
    pub table' : List ℕ
    pub work' : List ℕ
    pub inn' : List ℕ
    pub outw' : List ℕ
    pub is : b ≡ renumbering (built (Ok count) table' work') inn' outw'
    pub value : s ≡ record { below = group_of []; factor = handle start n room count; over = over; above = group_of [] }
    pub table_is : t ≡ within table start (start + table_need n room) table'
    pub work_is : w ≡ within work 0 (work_need n room) work'
    pub inn_is : i ≡ within inn 0 M inn'
    pub outw_is : o ≡ within outw 0 room outw'

  pub back_accepted : (b : Renumbering) {s : Subgroup} {t w i o : List ℕ}
      → maps_back over table start work inn outw M n n room b ≡ subgrouping (Ok s) t w i o → Backed b s t w i o
  back_accepted (renumbering (built (Ok c) t' w') i' o') {s} q =
      let m : subgroup_of over (made_of start room n (Ok c)) ≡ Ok s = cc in
      record {
        count = c;
        table' = t';
        work' = w';
        inn' = i';
        outw' = o';
        is = refl;
        value = sym (same_subgroup m);
        table_is = cc;
        work_is = cc;
        inn_is = cc;
        outw_is = cc;
      }
  back_accepted (renumbering (built (Err r) t' w') i' o') q = absurd (fine_refused q)

  -- A refused call that has started is a refused build.
  pub record Turned (b : Renumbering) (r : Refusal) (t w i o : List ℕ) : Type 0 where
    pub table' : List ℕ
    pub work' : List ℕ
    pub inn' : List ℕ
    pub outw' : List ℕ
    pub is : b ≡ renumbering (built (Err r) table' work') inn' outw'
    pub table_is : t ≡ within table start (start + table_need n room) table'
    pub work_is : w ≡ within work 0 (work_need n room) work'
    pub inn_is : i ≡ within inn 0 M inn'
    pub outw_is : o ≡ within outw 0 room outw'

  pub back_refused : (b : Renumbering) {r : Refusal} {t w i o : List ℕ}
      → maps_back over table start work inn outw M n n room b ≡ subgrouping (Err r) t w i o → Turned b r t w i o
  back_refused (renumbering (built (Ok c) t' w') i' o') q = absurd (fine_refused (sym q))
  back_refused (renumbering (built (Err r') t' w') i' o') {r} q =
      let e : r' ≡ r = same_refusal q in
      record {
        table' = t';
        work' = w';
        inn' = i';
        outw' = o';
        is = ap (λ (x : Refusal). renumbering (built (Err x) t' w') i' o') e;
        table_is = cc;
        work_is = cc;
        inn_is = cc;
        outw_is = cc;
      }

  pub accepted_started : {s : Subgroup} {t w i o : List ℕ}
      → from_generators from over gens table start work inn outw room ≡ subgrouping (Ok s) t w i o
      → Started from over gens table start work inn outw room
  accepted_started q = go ways where
    go : Ways → Started from over gens table start work inn outw room
    go (early r z) = absurd (fine_refused (sym z ∙ q))
    go (late S) = S

  -- What has started: the room is within its limits, and the stretches are long enough.
  module _ (S : Started from over gens table start work inn outw room) where
    pub small : M ≤ 4294967295
    small = omega (arith, small_elements over S.small)

    lent : lent_right (length table) start (length work) room n ≡ true
    lent = maps_lent (length table) start (length work) (length inn) (length outw) room n M S.lent

    pub has : has_room (length table) start room n ≡ true
    has = lent_table_lem (length table) start (length work) room n lent

    pub lo : 1 ≤ room
    lo = positive (length table) start room n has

    pub hi : room ≤ 65535
    hi = limited (length table) start room n has

    pub work_long : length (take (work_need n room) work) ≡ work_need n room
    work_long = work_taken table start work n room lent

    pub work_fits : work_need n room ≤ length (take (work_need n room) work)
    work_fits = taken_enough table start work n room lent

  -- What has started, over accepted factors.
  module _ (S : Started from over gens table start work inn outw room) (As : AllAccepted from (handles over)) where
    abbrev op : ℕ → ℕ → ℕ
    op = (direct from over).op

    abbrev inv : ℕ → ℕ
    inv = (direct from over).inv

    abbrev source : ℕ → ℕ → Reached
    source = product_by from (handles over) gens

    pub G : GroupOn M op inv
    G = product_overgroup from As

    entry_below : (x : ℕ) (i : ℕ) → pick (leb M x) (refused_of 14 (shown i) 0 0) fine ≡ fine → x < M
    entry_below x i = by (leb M x) refl where
      by : (b : Bool) → leb M x ≡ b → pick b (refused_of 14 (shown i) 0 0) fine ≡ fine → x < M
      by true e q = absurd (refused_fine q)
      by false e q = leb-false M x e

    pub gens_below : (g : ℕ) → g < n → gen g < M
    unfolding entries_right
    gens_below g h = entry_below (gen g) g (scan_each n (entry_right M gens) 0 S.entries g zero-le (omega arith))

    pub answering : Answering n M (right_by op gen) source
    answering = record { answers = λ {x} {g} hx hg. product_answers from As x (gen g) hx (gens_below g hg) }

    abbrev build : Renumbering
    build = renumber_in (table_need n room) (take (work_need n room) work) source n room M room 0

    module _ {c : ℕ} {t w i o : List ℕ} (q : build ≡ renumbering (built (Ok c) t w) i o) where
      made : SubgroupMade op inv n M room room (table_need n room) (length (take (work_need n room) work)) gen c t w i o
      made =
          subgroup_made G (small S) gens_below source answering room room (lo S) (hi S) (le_refl room) (table_need n room) (take (work_need n room) work) S.few
          (le_refl (table_need n room)) (work_fits S) q

      part : stretch (lent_table table start n room t) (handle start n room c) ≡ t
      part = stretch_part table start n room (has S) t made.size_kept c

      over_same : (e : ℕ) → e < c → get_or o e 0 ≡ get_or (within outw 0 room o) e 0
      over_same e h = sym (front_cell outw o room made.held.outw_size e (omega (arith, made.held.within)))

      sub_same : (x : ℕ) → x < M → get_or i x 0 ≡ get_or (within inn 0 M i) x 0
      sub_same x h = sym (front_cell inn i M made.held.inn_size x h)

      known : (x : ℕ) → ((x < M) × ¬ (get_or i x 0 ≡ appear.no_number)) ↔ ((x < M) × ¬ (get_or (within inn 0 M i) x 0 ≡ appear.no_number))
      known x = (λ p. (p.0, λ z. p.1 (sub_same x p.0 ∙ z)), λ p. (p.0, λ z. p.1 (sym (sub_same x p.0) ∙ z)))

      generates : Generates from over gens table start work inn outw room
          (record { below = group_of []; factor = handle start n room c; over = over; above = group_of [] })
          (lent_table table start n room t) (within work 0 (work_need n room) w) (within inn 0 M i) (within outw 0 room o)
      generates = record {
        started = S;
        holds = record {
          value = refl;
          count = refl;
          accepted = record {
            fits = fits_still table start n room (has S) t made.size_kept c made.sound.table.origin made.held.within;
            sound = rw part made.sound;
            ruled = rw part made.ruled;
            hops = rw part made.hops;
          };
          proper = made.proper;
          members = generated_as known made.generated;
          carried = carried_as over_same sub_same made.carried;
          homomorphic = rw part (homomorphic_as (sound_group made.sound) over_same made.homomorphic);
          generators = λ {g} h. rw part (sym (over_same (step_of t n 0 g) (made.sound.table.closed made.sound.table.origin h))
              ∙ generator_outside G gens_below made.held.renumbered h);
        };
        handle = refl;
        beyond = λ {k} h. rw part (made.beyond h);
        map_beyond = λ {e} h l. front_cell outw o room made.held.outw_size e l ∙ made.held.beyond h;
        table_kept = rw part;
        work_zero = ap (λ (x : List ℕ). within work 0 (work_need n room) x) (made.work_zero ∙ ap (λ (k : ℕ). replicate k 0) (work_long S));
        inn_size = front_long inn i M made.held.inn_size
            (maps_inn (length table) start (length work) (length inn) (length outw) room n M S.lent);
        outw_size = front_long outw o room made.held.outw_size
            (maps_outw (length table) start (length work) (length inn) (length outw) room n M S.lent);
        inn_kept = ap (λ (x : List ℕ). within inn 0 M x) (sym (front_part inn i M made.held.inn_size));
        outw_kept = ap (λ (x : List ℕ). within outw 0 room x) (sym (front_part outw o room made.held.outw_size));
      }

    generates_at : {s s' : Subgroup} {t t' w w' i i' o o' : List ℕ} → s ≡ s' → t ≡ t' → w ≡ w' → i ≡ i' → o ≡ o'
        → Generates from over gens table start work inn outw room s' t' w' i' o' → Generates from over gens table start work inn outw room s t w i o
    generates_at a b c d e H = rw (a, b, c, d, e) H

    pub started_given : {s : Subgroup} {t w i o : List ℕ}
        → from_generators from over gens table start work inn outw room ≡ subgrouping (Ok s) t w i o
        → Generates from over gens table start work inn outw room s t w i o
    started_given q =
        let B = back_accepted build (sym (is_build S) ∙ q) in
        generates_at B.value B.table_is B.work_is B.inn_is B.outw_is (generates B.is)

    module _ {N : ℕ} {elt : ℕ → ℕ}
        (A : Appearing (length gens) (elements_of (handles over)) (right_by (direct from over).op (λ g. get_or gens g 0)) 0 N elt) where
      -- Accepted exactly when.
      pub generators_exactly : ((s : Subgroup) × (t : List ℕ) × (w : List ℕ) × (i : List ℕ) × (o : List ℕ)
          × (from_generators from over gens table start work inn outw room ≡ subgrouping (Ok s) t w i o))
          ↔ Acceptable (direct from over).op (length gens) room N (λ g. get_or gens g 0) elt
      generators_exactly =
          let E = subgroup_exactly G gens_below A (small S) source answering room room (lo S) (hi S) (le_refl room) (table_need n room) (take (work_need n room) work)
          S.few (le_refl (table_need n room)) (work_fits S) in (
            λ a.
                let B = back_accepted build (sym (is_build S) ∙ a.5) in
                let H = renumber_holds A (right_inside G gens_below) (small S) source answering room room (lo S) (hi S) (le_refl room) (table_need n room)
                (take (work_need n room) work) S.few (le_refl (table_need n room)) (work_fits S) B.is in
                let e : B.count ≡ N = numbered_once H.taken.readable.by_rule A.by_rule in
                let X = E.0 (
                  B.table',
                  B.work',
                  B.inn',
                  B.outw',
                  B.is ∙ ap (λ (c : ℕ). renumbering (built (Ok c) B.table' B.work') B.inn' B.outw') e,
                ) in
                record { within_room = X.0; short = X.1.0; proper = X.1.1 },
            λ C.
                let b = E.1 (C.within_room, (C.short, C.proper)) in (
                  record { below = group_of []; factor = handle start n room N; over = over; above = group_of [] },
                  within table start (start + table_need n room) b.0,
                  within work 0 (work_need n room) b.1,
                  within inn 0 M b.2,
                  within outw 0 room b.3,
                  is_build S ∙ ap (λ (x : Renumbering). maps_back over table start work inn outw M n n room x) b.4,
                ),
          )

  -- What an accepted call gives, whatever the arguments: it has started.
  pub generators_given : AllAccepted from (handles over) → {s : Subgroup} {t w i o : List ℕ}
      → from_generators from over gens table start work inn outw room ≡ subgrouping (Ok s) t w i o
      → Generates from over gens table start work inn outw room s t w i o
  generators_given As q = started_given (accepted_started q) As q
