-- The steps that a call reads in whatever buffer, altered or not: they stay in the overgroup, or are refused by 17; and an accepted build of them, put back, is an
-- accepted factor with its maps.
use Prim.Native.Nat.{ℕ, ◌+◌, ◌*◌, ◌/◌, ◌%◌, ◌≤◌, ◌<◌}
use mathlib.Core.Path.{◌≡◌, refl, sym, ap, ◌∙◌, subst}
use mathlib.Core.Logic.{◌⊎◌, inl, inr}
use mathlib.Core.Bool.{true}
use mathlib.Core.List.{List, [], ◌∷◌}
use native.Mathlib.Nat.{le_refl, mod-lt}
use native.Mathlib.Omega.{arith}
use borrow.Author.Tests.{leb-true}
use lib.ListN.{length, get_or, take, replicate, length-replicate}
use Rattle.egg.specs.declared.Factor.{Factor}
use Rattle.egg.specs.declared.Refusal.{Refusal}
use Rattle.egg.specs.Answers.{Reached}
use Rattle.std.specs.Prelude.{Ok, Err}
use Rattle.egg.specs.Factor.{has_room, stretch}
use Rattle.egg.proofs.Rooms as rooms
use Rattle.egg.proofs.Rooms.{limited, within_length}
use Rattle.build_lending.specs.Finish.{built, zeroed}
use Rattle.build_lending.specs.Lending.{table_need, work_need, lent_right, within}
use Rattle.build_lending.proofs.Lending.{lent_table_lem, lent_enough}
use Rattle.factor_laws.specs.Refuses.{ReachedIn}
use Rattle.factor_laws.proofs.Refuses.{reached_element, reached_on, compose_in_lem}
use Rattle.build_reading_laws.proofs.OnePlace.{readable_not_refused}
use Rattle.build_laws.specs.Taken.{Holding}
use Rattle.promises.specs.Unaltered.{Wrote, part}
use Rattle.build_laws.proofs.Lent.{handle, within_cell}
use Rattle.theory_radix.proofs.RadixLaws.{joined_small, high_small, range_pos}
use Rattle.group_handles.specs.declared.Group.{Group}
use Rattle.group_handles.specs.Handles.{handles, elements_of, all_fit, group_of}
use Rattle.group_digits.specs.Digits.{Compose, digit_of, digitwise, composes}
use Rattle.group_handles.proofs.Lists.{positive}
use Rattle.group_digits.proofs.Walks.{Below, element, below_element, below_on, digit_below}
use Rattle.build_numbering.specs.Build.{renumbering, renumber_in}
use Rattle.theory.specs.Orbit.{Inside, numbered_step, Appearing}
use Rattle.build_numbering_laws.specs.Source.{total, Answering, AnsweredTo, AllAnswered, whole, until, RefusedAt}
use Rattle.build_numbering_laws.specs.Maps.{MapsFilled}
use Rattle.build_numbering_laws.proofs.Order.{appearing}
use Rattle.build_numbering_laws.proofs.Partial.{ranged_inside, total_answering, partial_build}
use Rattle.build_numbering_laws.proofs.Builds.{built_of, not_refused, renumber_built, renumber_holds, renumber_work, renumber_filled, renumber_maps}
use Rattle.subgroup_build.specs.declared.Subgroup.{Subgroup}
use Rattle.subgroup_build.specs.Lent.{maps_right}
use Rattle.subgroup_rows.specs.Rows.{product_by}
use Rattle.subgroup_build.specs.Generated.{small_enough}
use Rattle.subgroup_build.proofs.Admits.{small_elements, maps_lent, maps_inn, maps_outw}
use Rattle.promises_subgroup.specs.Altered.{steps_read, Regardless}
use Rattle.promises_subgroup.proofs.Narrow.{narrow}
use Rattle.promises_subgroup.proofs.Stretches.{fewer_rows, fewer_work, first_part, handle_fits}
use Rattle.promises_subgroup.proofs.Held.{held_carried}
use Rattle.promises_subgroup.proofs.Called.{front_cell, front_part, front_long, carried_as}

-- A product in whatever buffer is an element of the overgroup, or is refused by 17.
composes_below : (t : List ℕ) (hs : List Factor) (a b : ℕ) → a < elements_of hs → Below (elements_of hs) (composes t hs a b)
unfolding digitwise
composes_below t [] a b l = let z : 0 < elements_of [] = omega arith in element {e = record { 0 = 0 }} z
composes_below t (h ∷ hs) a b l =
    let N : ℕ = h.elements in
    let M : ℕ = elements_of hs in
    below_on (digit_of Compose t h (a % N) (b % N)) (digit_below Compose t h (a % N) (b % N) (mod-lt a (range_pos N M a l)))
    (λ x hx. below_on (digitwise (digit_of Compose t) hs (a / N) (b / N)) (composes_below t hs (a / N) (b / N) (high_small N M a l))
    (λ y hy. element (joined_small hx y hy)))

pub composes_17 : (t : List ℕ) (hs : List Factor) (a b : ℕ) → ReachedIn (17 ∷ []) (composes t hs a b)
unfolding digitwise
composes_17 t [] a b = reached_element _
composes_17 t (h ∷ hs) a b =
    reached_on (digit_of Compose t h (a % h.elements) (b % h.elements)) _ (compose_in_lem (stretch t h) h.generators h.elements _ _)
    (λ x. reached_on (digitwise (digit_of Compose t) hs (a / h.elements) (b / h.elements)) _ (composes_17 t hs _ _) (λ y. reached_element _))

pub steps_inside : (from : List ℕ) (over : Group) (gens : List ℕ) → all_fit (length from) (handles over) ≡ true
    → Inside (length gens) (elements_of (handles over)) (steps_read from over gens) 0
steps_inside from over gens fits =
    ranged_inside (record { ranged = λ {x} {g} {y} hx hg q. below_element (composes_below from (handles over) x (get_or gens g 0) hx) refl q })
    0 (positive (length from) (handles over) fits)

-- A front that was written, put back.
front_wrote : (l : List ℕ) (k : ℕ) → k ≤ length l → (p : List ℕ) → length p ≡ k → Wrote (record { entry = l; start = 0; need = k; exit = within l 0 k p })
front_wrote l k h p size = let end : 0 + k ≡ k = omega arith in part p (rw end h) size (rw end)

-- An accepted build by at most k ≤ 8 elements, put back into stretches as k generators need them.
module _ (from : List ℕ) (over : Group) (gens : List ℕ) (k : ℕ) (table : List ℕ) (start : ℕ) (work inn outw : List ℕ) (room : ℕ)
    (fits : all_fit (length from) (handles over) ≡ true) (few_elements : small_enough over ≡ true)
    (right : maps_right (length table) start (length work) (length inn) (length outw) room k (elements_of (handles over)) ≡ true)
    (few : length gens ≤ k) (most : k ≤ 8) (v : List ℕ) (long : length v ≡ work_need k room) {c : ℕ} {t w i o : List ℕ}
    (q : renumber_in (table_need k room) v (product_by from (handles over) gens) (length gens) room (elements_of (handles over)) room 0
    ≡ renumbering (built (Ok c) t w) i o)
  where
    abbrev n : ℕ
    n = length gens

    abbrev M : ℕ
    M = elements_of (handles over)

    abbrev source : ℕ → ℕ → Reached
    source = total (product_by from (handles over) gens) 0

    small : elements_of (handles over) ≤ 4294967295
    small = omega (arith, small_elements over few_elements)

    lent : lent_right (length table) start (length work) room k ≡ true
    lent = maps_lent (length table) start (length work) (length inn) (length outw) room k M right

    has : has_room (length table) start room k ≡ true
    has = lent_table_lem (length table) start (length work) room k lent

    lo : 1 ≤ room
    lo = rooms.positive (length table) start room k has

    hi : room ≤ 65535
    hi = limited (length table) start room k has

    eight : length gens ≤ 8
    eight = omega (arith, few, most)

    enough : room * (6 * length gens * length gens + 4 * length gens) ≤ length v
    enough = rw long (fewer_work (length gens) k room few)

    I : Inside n M (steps_read from over gens) 0
    I = steps_inside from over gens fits

    A : Appearing n M (steps_read from over gens) 0 (appearing I).0 (appearing I).1
    A = (appearing I).2

    abbrev src : ℕ → ℕ → ℕ
    src = numbered_step (appearing I).0 (appearing I).1 (steps_read from over gens)

    answering : Answering n M (steps_read from over gens) (total (product_by from (handles over) gens) 0)
    answering = total_answering n M (product_by from (handles over) gens) 0

    rows : room * (2 * length gens + 4) ≤ table_need k room
    rows = fewer_rows (length gens) k room few

    -- An accepted build is that of the steps, all of which were answered.
    of_steps : (renumber_in (table_need k room) v (total (product_by from (handles over) gens) 0) (length gens) room (elements_of (handles over)) room 0
        ≡ renumbering (built (Ok c) t w) i o)
        × AllAnswered (product_by from (handles over) gens) 0 (length gens) room (appearing I).0 (appearing I).1
    of_steps = go (partial_build (product_by from (handles over) gens) 0 A I small room room lo hi (le_refl room) (table_need k room) eight rows v) where
      go : ((renumber_in (table_need k room) v (product_by from (handles over) gens) n room M room 0 ≡ renumber_in (table_need k room) v source n room M room 0)
          × AllAnswered (product_by from (handles over) gens) 0 n room (appearing I).0 (appearing I).1)
          ⊎ ((r : Refusal) × RefusedAt (product_by from (handles over) gens) 0 n room (appearing I).0 (appearing I).1 r
          × (t : List ℕ) × (i : List ℕ) × (o : List ℕ)
          × (renumber_in (table_need k room) v (product_by from (handles over) gens) n room M room 0
          ≡ renumbering (built (Err r) (zeroed t) (zeroed v)) (zeroed i) (zeroed o)))
          → (renumber_in (table_need k room) v source n room M room 0 ≡ renumbering (built (Ok c) t w) i o)
          × AllAnswered (product_by from (handles over) gens) 0 n room (appearing I).0 (appearing I).1
      go (inl (e, a)) = (sym e ∙ q, a)
      go (inr (r, b, t, i, o, e)) = absurd (not_refused (sym e ∙ q))

    same : renumber_in (table_need k room) v (total (product_by from (handles over) gens) 0) (length gens) room (elements_of (handles over)) room 0
        ≡ renumbering (built (Ok c) t w) i o
    same = of_steps.0

    H : Holding src n room (table_need k room) c t
    H = renumber_holds A I small source answering room room lo hi (le_refl room) (table_need k room) v eight rows enough same

    filled_maps : (c ≡ (appearing I).0) × MapsFilled M room room (appearing I).1 c i o
    filled_maps = renumber_filled A I small source answering room room lo hi (le_refl room) (table_need k room) v eight rows enough same

    own : Holding src n room (table_need n room) c (take (table_need n room) t)
    own =
        narrow src n room (table_need k room) v eight lo hi rows enough
        (sym (renumber_built A I small source answering room room lo hi (le_refl room) (table_need k room) v eight rows enough) ∙ ap built_of same)

    cut : stretch (within table start (start + table_need k room) t) (handle start n room c) ≡ take (table_need n room) t
    cut = first_part table start k room has most n c t few H.size_kept

    inside : start + table_need k room ≤ length table
    inside = within_length (length table) start room k has

    F : MapsFilled M room room (appearing I).1 c i o
    F = filled_maps.1

    whole_count : c ≡ (appearing I).0
    whole_count = filled_maps.0

    all_answered : AllAnswered (product_by from (handles over) gens) 0 n room (appearing I).0 (appearing I).1
        → AnsweredTo (product_by from (handles over) gens) 0 n (appearing I).1 c 0
    all_answered (whole R a) = subst (λ (m : ℕ). AnsweredTo (product_by from (handles over) gens) 0 n (appearing I).1 m 0) (sym whole_count) a
    all_answered (until stop a) = absurd (readable_not_refused own.taken.readable stop)

    numbered_so : Holding (numbered_step c (appearing I).1 (steps_read from over gens)) n room (table_need n room) c (take (table_need n room) t)
    numbered_so =
        subst (λ (m : ℕ). Holding (numbered_step m (appearing I).1 (steps_read from over gens)) n room (table_need n room) c (take (table_need n room) t)) (sym whole_count) own

    pub regardless : Regardless from over gens k table start work inn outw room
        (record { below = group_of []; factor = handle start (length gens) room c; over = over; above = group_of [] })
        (within table start (start + table_need k room) t) (within work 0 (work_need k room) w) (within inn 0 (elements_of (handles over)) i) (within outw 0 room o)
    regardless =
        let W = renumber_work A I small source answering room room lo hi (le_refl room) (table_need k room) v eight rows enough same in
        let D = renumber_maps A I small source answering room room lo hi (le_refl room) (table_need k room) v eight rows enough same in
        let ends : length w ≡ work_need k room = ap length W ∙ length-replicate {A = ℕ} (length v) 0 ∙ long in
        let hi-inn = maps_inn (length table) start (length work) (length inn) (length outw) room k M right in
        let hi-outw = maps_outw (length table) start (length work) (length inn) (length outw) room k M right in
        record {
          fits = fits;
          small = few_elements;
          value = refl;
          handle = refl;
          elt = (appearing I).1;
          appearing = subst (λ (m : ℕ). Appearing n M (steps_read from over gens) 0 m (appearing I).1) (sym whole_count) A;
          answered = all_answered of_steps.1;
          taken = numbered_so.taken;
          accepted = record {
            fits = handle_fits table start k room has most n c t few H.size_kept H.sound.table.origin F.within;
            sound = rw cut own.sound;
            ruled = rw cut own.ruled;
            hops = rw cut own.hops;
          };
          steps = λ {e} {g} h hg. rw cut (numbered_so.steps h hg);
          inn_long = rw (front_long inn i M F.inn_size hi-inn) hi-inn;
          outw_long = rw (front_long outw o room F.outw_size hi-outw) hi-outw;
          maps = rw (front_part inn i M F.inn_size, front_part outw o room F.outw_size) F;
          carried = carried_as (λ e h. sym (front_cell outw o room F.outw_size e (omega (arith, F.within))))
              (λ x h. sym (front_cell inn i M F.inn_size x h)) (held_carried D hi);
          beyond = λ {j} h l. within_cell table start (table_need k room) inside t H.size_kept j l ∙ H.beyond h;
          work_zero = ap (λ (x : List ℕ). within work 0 (work_need k room) x) (W ∙ ap (λ (m : ℕ). replicate m 0) long);
          wrote = (
            part t inside H.size_kept refl,
            (
              front_wrote work (work_need k room) (leb-true _ _ (lent_enough (length table) start (length work) room k lent)) w ends,
              (
                front_wrote inn M hi-inn i F.inn_size,
                (front_wrote outw room hi-outw o F.outw_size, tt),
              ),
            ),
          );
        }

pub regardless_at : {from : List ℕ} {over : Group} {gens : List ℕ} {k : ℕ} {table : List ℕ} {start : ℕ} {work inn outw : List ℕ} {room : ℕ} {s s' : Subgroup}
    {t t' w w' i i' o o' : List ℕ} → s ≡ s' → t ≡ t' → w ≡ w' → i ≡ i' → o ≡ o'
    → Regardless from over gens k table start work inn outw room s' t' w' i' o' → Regardless from over gens k table start work inn outw room s t w i o
regardless_at a b c d e R = rw (a, b, c, d, e) R
