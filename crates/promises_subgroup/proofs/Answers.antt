-- `from_generators` over factors that are not altered answers a number with its places exactly in the case that is set out for it.
use Prim.Native.Nat.{ℕ, ◌≤◌, ◌<◌, zero-le}
use mathlib.Core.Path.{◌≡◌, refl, sym, ap, ◌∙◌, subst}
use mathlib.Core.Logic.{◌↔◌, ◌⊎◌, inl, inr}
use mathlib.Core.Bool.{Bool, true, false}
use mathlib.Core.List.{List}
use native.Mathlib.Nat.{le_refl}
use native.Mathlib.Omega.{arith}
use borrow.Author.Tests.{le-leb, leb-true, leb-false, ltb-true, ltb-false}
use lib.Dec.{leb, ltb}
use lib.ListN.{length, get_or, take, replicate}
use Rattle.egg.specs.declared.Refusal.{Refusal}
use Rattle.egg.specs.Answers.{Verdict, fine}
use Rattle.std.specs.Prelude.{Ok, Err}
use Rattle.egg.specs.Factor.{Paper, refusal_paper, has_room}
use Rattle.egg.proofs.Rooms.{positive, limited, within_length, false_true}
use Rattle.egg.proofs.Scans.{scan_each}
use Rattle.egg.specs.Answers.{numbered}
use Rattle.build_reading.specs.Reading.{Placed, placed, read_all}
use Rattle.build_lending.specs.Finish.{built, zeroed, finished, finished_placed}
use Rattle.build_lending.specs.Lending.{table_need, work_need, lent_right}
use Rattle.build_lending.proofs.Lending.{lent_table_lem, lent_enough}
use Rattle.theory.proofs.Reading.{numbered_once}
use Rattle.build_reading_laws.specs.Read.{Readable, ReadingRefused}
use Rattle.build_reading_laws.proofs.Readings.{accepted_read, read_readable, refused_read, refuses_refused}
use Rattle.promises_refusals.specs.Firsts.{FirstOf}
use Rattle.promises_refusals.proofs.Firsts.{Decides, decides_fine, first_found, first_refused_lem, first_fine}
use Rattle.group_handles.specs.declared.Group.{Group}
use Rattle.group_handles.specs.Handles as handling
use Rattle.group_handles.specs.Handles.{handles, elements_of, all_fit}
use Rattle.group_handles.proofs.Admitted.{few_factors_lem}
use Rattle.promises_group.specs.Products.{AllAccepted, direct}
use Rattle.build_numbering.specs.Build.{Renumbering, renumbering, renumber_in}
use Rattle.theory.specs.Orbit.{numbered_step}
use Rattle.theory.specs.Subgroup.{right_by, FirstIdentity, FirstRepeat, Proper}
use Rattle.build_numbering_laws.proofs.Order.{appearing}
use Rattle.theory.proofs.Subgroups.{right_inside}
use Rattle.theory.proofs.FirstRow.{generators_are}
use Rattle.build_numbering_laws.proofs.Builds.{built_of, renumber_built}
use Rattle.build_numbering_laws.proofs.SubgroupBuilds.{subgroup_9, subgroup_11}
use Rattle.factor_walk.specs.Walked.{shown}
use Rattle.subgroup_build.specs.Lent.{maps_right, maps_back}
use Rattle.subgroup_rows.specs.Rows.{product_by}
use Rattle.subgroup_build.specs.Generated.{entry_right, entries_right, small_enough, admits_generators, from_generators}
use Rattle.subgroup_build.proofs.Admits.{small_limited, small_elements, maps_lent, maps_inn, maps_outw}
use Rattle.promises_subgroup.specs.Generates.{Started}
use Rattle.promises_subgroup.specs.Answers.{subgroup_paper, Elements, Numberable, EnoughWithMaps, Generating, GeneratorsPaper, no_handle, no_element, too_large, many, short, stops, identity, repeated, made}
use Rattle.promises_subgroup.proofs.Called as called

-- What the tests of the arguments mean.
entry_decides : (M : ℕ) (gens : List ℕ) (i : ℕ) → Decides (M ≤ get_or gens i 0) (numbered 14 (shown i) 0 0) (entry_right M gens i)
entry_decides M gens i = by (leb M (get_or gens i 0)) refl where
  by : (b : Bool) → leb M (get_or gens i 0) ≡ b → Decides (M ≤ get_or gens i 0) (numbered 14 (shown i) 0 0) (entry_right M gens i)
  by true q = inl (leb-true _ _ q, rw q)
  by false q = inr (λ h. omega (arith, leb-false M (get_or gens i 0) q), rw q)

entries_below : (M : ℕ) (gens : List ℕ) → ((g : ℕ) → g < length gens → get_or gens g 0 < M) → entries_right M gens ≡ fine
unfolding entries_right
entries_below M gens below =
    first_fine {f = entry_right M gens} {P = λ g. M ≤ get_or gens g 0} {at = λ i. numbered 14 (shown i) 0 0} (λ i l. entry_decides M gens i)
    (λ i l h. omega (arith, below i l))

entries_first : (M : ℕ) (gens : List ℕ) {k : ℕ} → FirstOf (length gens) (λ g. M ≤ get_or gens g 0) k → entries_right M gens ≡ Err (numbered 14 (shown k) 0 0)
unfolding entries_right
entries_first M gens F =
    first_refused_lem {f = entry_right M gens} {P = λ g. M ≤ get_or gens g 0} {at = λ i. numbered 14 (shown i) 0 0} (λ i l. entry_decides M gens i) F

first_outside : (M : ℕ) (gens : List ℕ) {r : Refusal} → entries_right M gens ≡ Err r → (k : ℕ) × FirstOf (length gens) (λ g. M ≤ get_or gens g 0) k
unfolding entries_right
first_outside M gens q =
    let F = first_found {f = entry_right M gens} {P = λ g. M ≤ get_or gens g 0} {at = λ i. numbered 14 (shown i) 0 0} (λ i l. entry_decides M gens i) q in
    (F.0, F.1)

all_below : (M : ℕ) (gens : List ℕ) → entries_right M gens ≡ fine → (g : ℕ) → g < length gens → get_or gens g 0 < M
unfolding entries_right
all_below M gens q g h = below_so (decides_fine (entry_decides M gens g) (scan_each (length gens) (entry_right M gens) 0 q g zero-le (omega arith))) where
  below_so : (M ≤ get_or gens g 0 → ⊥) → get_or gens g 0 < M
  below_so f = by (leb M (get_or gens g 0)) refl where
    by : (b : Bool) → leb M (get_or gens g 0) ≡ b → get_or gens g 0 < M
    by true e = absurd (f (leb-true _ _ e))
    by false e = leb-false M (get_or gens g 0) e

pub small_true : (over : Group) → Numberable over → small_enough over ≡ true
unfolding small_enough handling.limited
small_true over S =
    let m : elements_of (handles over) ≤ 4294967295 = omega (arith, S.most) in
    simp (le-leb _ _ S.few, le-leb _ _ m, le-leb _ _ S.most)

pub true_small : (over : Group) → small_enough over ≡ true → Numberable over
true_small over h = record { few = few_factors_lem over (small_limited over h); most = small_elements over h }

pub not_small : (over : Group) → ¬ (Numberable over) → small_enough over ≡ false
not_small over h = by (small_enough over) refl where
  by : (b : Bool) → small_enough over ≡ b → b ≡ false
  by false q = refl
  by true q = absurd (h (true_small over q))

module _ (over : Group) (n : ℕ) (table : List ℕ) (start : ℕ) (work inn outw : List ℕ) (room : ℕ) where
  pub enough_true : n ≤ 8 → EnoughWithMaps over n table start work inn outw room
      → maps_right (length table) start (length work) (length inn) (length outw) room n (elements_of (handles over)) ≡ true
  unfolding maps_right lent_right has_room
  enough_true few E = simp (
    le-leb _ _ few,
    le-leb _ _ E.some_room,
    le-leb _ _ E.most_room,
    le-leb _ _ E.table_long,
    le-leb _ _ E.work_long,
    le-leb _ _ E.inn_long,
    le-leb _ _ E.outw_long,
  )

  pub true_enough : maps_right (length table) start (length work) (length inn) (length outw) room n (elements_of (handles over)) ≡ true
      → EnoughWithMaps over n table start work inn outw room
  true_enough h =
      let lent = maps_lent (length table) start (length work) (length inn) (length outw) room n (elements_of (handles over)) h in
      let has = lent_table_lem (length table) start (length work) room n lent in
      record {
        some_room = positive (length table) start room n has;
        most_room = limited (length table) start room n has;
        table_long = within_length (length table) start room n has;
        work_long = leb-true _ _ (lent_enough (length table) start (length work) room n lent);
        inn_long = maps_inn (length table) start (length work) (length inn) (length outw) room n (elements_of (handles over)) h;
        outw_long = maps_outw (length table) start (length work) (length inn) (length outw) room n (elements_of (handles over)) h;
      }

-- The paper of a refused build.
back_paper : (over : Group) (table : List ℕ) (start : ℕ) (work inn outw : List ℕ) (M k n room : ℕ) (b : Renumbering) {r : Refusal} {t w : List ℕ}
    → built_of b ≡ built (Err r) t w → subgroup_paper (maps_back over table start work inn outw M k n room b) ≡ refusal_paper r
back_paper over table start work inn outw M k n room (renumbering b i o) {r} {t} {w} q =
    ap (λ x. subgroup_paper (maps_back over table start work inn outw M k n room (renumbering x i o))) q

module _ (from : List ℕ) (over : Group) (gens table : List ℕ) (start : ℕ) (work inn outw : List ℕ) (room : ℕ)
    (unaltered : all_fit (length from) (handles over) ≡ true → AllAccepted from (handles over)) where
  abbrev n : ℕ
  n = length gens

  abbrev M : ℕ
  M = elements_of (handles over)

  abbrev gen : ℕ → ℕ
  gen g = get_or gens g 0

  abbrev op : ℕ → ℕ → ℕ
  op = (direct from over).op

  admits : Elements from over gens → Numberable over → admits_generators (length from) over gens ≡ fine
  unfolding admits_generators
  admits E S = rw (E.fits, entries_below (elements_of (handles over)) gens (λ g h. E.below h), small_true over S)

  admits_17 : all_fit (length from) (handles over) ≡ false → admits_generators (length from) over gens ≡ Err (numbered 17 0 0 0)
  unfolding admits_generators
  admits_17 h = rw h

  admits_14 : {k : ℕ} → all_fit (length from) (handles over) ≡ true → FirstOf (length gens) (λ g. elements_of (handles over) ≤ get_or gens g 0) k
      → admits_generators (length from) over gens ≡ Err (numbered 14 (shown k) 0 0)
  unfolding admits_generators
  admits_14 h F = rw (h, entries_first (elements_of (handles over)) gens F)

  admits_15 : Elements from over gens → small_enough over ≡ false → admits_generators (length from) over gens ≡ Err (numbered 15 0 0 0)
  unfolding admits_generators
  admits_15 E s = rw (E.fits, entries_below (elements_of (handles over)) gens (λ g h. E.below h), s)

  not_enough : ¬ (EnoughWithMaps over (length gens) table start work inn outw room)
      → maps_right (length table) start (length work) (length inn) (length outw) room (length gens) (elements_of (handles over)) ≡ false
  not_enough h = by (maps_right (length table) start (length work) (length inn) (length outw) room n M) refl where
    by : (b : Bool) → maps_right (length table) start (length work) (length inn) (length outw) room n M ≡ b → b ≡ false
    by false q = refl
    by true q = absurd (h (true_enough over n table start work inn outw room q))

  started : {N : ℕ} {elt : ℕ → ℕ} → Generating from over gens table start work inn outw room N elt → Started from over gens table start work inn outw room
  started G = record {
    fits = G.elements.fits;
    entries = entries_below (elements_of (handles over)) gens (λ g h. G.elements.below h);
    small = small_true over G.small;
    few = G.few;
    lent = enough_true over (length gens) table start work inn outw room G.few G.enough;
  }

  abbrev build : Renumbering
  build = renumber_in (table_need n room) (take (work_need n room) work) (product_by from (handles over) gens) n room M room 0

  -- What has started, with N elements generated.
  module _ {N : ℕ} {elt : ℕ → ℕ} (Q : Generating from over gens table start work inn outw room N elt) where
    S : Started from over gens table start work inn outw room
    S = started Q

    As : AllAccepted from (handles over)
    As = unaltered Q.elements.fits

    abbrev src : ℕ → ℕ → ℕ
    src = numbered_step N elt (right_by op gen)

    lo : 1 ≤ room
    lo = called.lo from over gens table start work inn outw room S

    hi : room ≤ 65535
    hi = called.hi from over gens table start work inn outw room S

    the_build : built_of (renumber_in (table_need (length gens) room) (take (work_need (length gens) room) work) (product_by from (handles over) gens) (length gens) room
        (elements_of (handles over)) room 0)
        ≡ finished_placed (read_all (numbered_step N elt (right_by (direct from over).op (λ g. get_or gens g 0))) (length gens) room
        (replicate (table_need (length gens) room) 0)) (length gens) (take (work_need (length gens) room) work)
    the_build =
        renumber_built Q.appearing (right_inside (called.G from over gens table start work inn outw room S As) (called.gens_below from over gens table start work inn outw room S As))
        (called.small from over gens table start work inn outw room S) (product_by from (handles over) gens) (called.answering from over gens table start work inn outw room S As)
        room room lo hi (le_refl room) (table_need n room) (take (work_need n room) work) Q.few (le_refl (table_need n room))
        (called.work_fits from over gens table start work inn outw room S)

    refused : {r : Refusal} {t w : List ℕ} → built_of build ≡ built (Err r) t w
        → subgroup_paper (from_generators from over gens table start work inn outw room) ≡ refusal_paper r
    refused q =
        ap subgroup_paper (called.is_build from over gens table start work inn outw room S) ∙ back_paper over table start work inn outw M n n room build q

    stopped_so : {r : Refusal} {p : Placed} {t : List ℕ} → p ≡ placed (Err r) t
        → finished_placed p (length gens) (take (work_need (length gens) room) work) ≡ built (Err r) (zeroed t) (zeroed (take (work_need (length gens) room) work))
    unfolding finished
    stopped_so q = rw q

    is_stopped : {r : Refusal} → ReadingRefused src n room r → subgroup_paper (from_generators from over gens table start work inn outw room) ≡ refusal_paper r
    is_stopped F =
        refused (the_build ∙ stopped_so (refuses_refused src n room (table_need n room) Q.few lo hi (le_refl (table_need n room)) F).1)

    is_9 : {g : ℕ} → Readable src n room N → FirstIdentity n gen g
        → subgroup_paper (from_generators from over gens table start work inn outw room) ≡ refusal_paper (numbered 9 0 g 0)
    is_9 L F =
        refused (ap built_of (subgroup_9 (called.G from over gens table start work inn outw room S As) (called.gens_below from over gens table start work inn outw room S As)
        Q.appearing (called.small from over gens table start work inn outw room S) (product_by from (handles over) gens)
        (called.answering from over gens table start work inn outw room S As) room room lo hi (le_refl room) (table_need n room) (take (work_need n room) work) Q.few
        (le_refl (table_need n room)) (called.work_fits from over gens table start work inn outw room S) L.within (λ e h. L.short h) F).4)

    is_11 : {g : ℕ} → Readable src n room N → FirstRepeat n gen g
        → subgroup_paper (from_generators from over gens table start work inn outw room) ≡ refusal_paper (numbered 11 g 0 0)
    is_11 L F =
        refused (ap built_of (subgroup_11 (called.G from over gens table start work inn outw room S As) (called.gens_below from over gens table start work inn outw room S As)
        Q.appearing (called.small from over gens table start work inn outw room S) (product_by from (handles over) gens)
        (called.answering from over gens table start work inn outw room S As) room room lo hi (le_refl room) (table_need n room) (take (work_need n room) work) Q.few
        (le_refl (table_need n room)) (called.work_fits from over gens table start work inn outw room S) L.within (λ e h. L.short h) F).4)

  -- Each case has its answer.
  given : {p : Paper} → GeneratorsPaper from over gens table start work inn outw room p → subgroup_paper (from_generators from over gens table start work inn outw room) ≡ p
  given (no_handle h) = ap subgroup_paper (called.early_arguments from over gens table start work inn outw room (admits_17 h))
  given (no_element h F) = ap subgroup_paper (called.early_arguments from over gens table start work inn outw room (admits_14 h F))
  given (too_large E s) = ap subgroup_paper (called.early_arguments from over gens table start work inn outw room (admits_15 E (not_small over s)))
  given (many E s h) = ap subgroup_paper (called.early_many from over gens table start work inn outw room (admits E s) h)
  given (short E s few h) = ap subgroup_paper (called.early_short from over gens table start work inn outw room (admits E s) few (not_enough h))
  given (stops Q F) = is_stopped Q F
  given (identity Q L F) = is_9 Q L F
  given (repeated Q L F) = is_11 Q L F
  given (made Q C) =
      ap subgroup_paper ((called.generators_exactly from over gens table start work inn outw room (started Q) (unaltered Q.elements.fits) Q.appearing).1 C).5

  -- And one of the cases is there.
  abbrev Some : Type 0
  Some = (p : Paper) × GeneratorsPaper from over gens table start work inn outw room p

  by_reading : {N : ℕ} {elt : ℕ → ℕ} → Generating from over gens table start work inn outw room N elt → Some
  by_reading {N} {elt} Q = go (read_all src n room (replicate (table_need n room) 0)) refl where
    src : ℕ → ℕ → ℕ
    src = numbered_step N elt (right_by (direct from over).op (λ g. get_or gens g 0))

    numbered_all : Readable src n room N → ((g : ℕ) × FirstIdentity n gen g) ⊎ (((g : ℕ) × FirstRepeat n gen g) ⊎ Proper n gen) → Some
    numbered_all L (inl (g, F)) = (_, identity Q L F)
    numbered_all L (inr (inl (g, F))) = (_, repeated Q L F)
    numbered_all L (inr (inr P)) = (_, made Q (record { within_room = L.within; short = λ e h. L.short h; proper = P }))

    go : (p : Placed) → read_all src n room (replicate (table_need n room) 0) ≡ p → Some
    go (placed (Err r) t) z = (_, stops Q (refused_read src n room (table_need n room) Q.few (lo Q) (hi Q) (le_refl (table_need n room)) z))
    go (placed (Ok c) t) z =
        let L = read_readable (accepted_read src n room (table_need n room) Q.few (lo Q) (hi Q) (le_refl (table_need n room)) z) in
        let e : c ≡ N = numbered_once L.by_rule Q.appearing.by_rule in
        numbered_all (subst (Readable src n room) e L) (generators_are n gen)

  some_case : Some
  some_case = by (all_fit (length from) (handles over)) (entries_right M gens) (small_enough over) (ltb 8 n)
      (maps_right (length table) start (length work) (length inn) (length outw) room n M) refl refl refl refl refl
    where
      by : (a : Bool) (v : Verdict) (b c d : Bool) → all_fit (length from) (handles over) ≡ a → entries_right M gens ≡ v → small_enough over ≡ b → ltb 8 n ≡ c
          → maps_right (length table) start (length work) (length inn) (length outw) room n M ≡ d → Some
      by false v b c d f e s k l = (_, no_handle f)
      by true (Err r) b c d f e s k l = (_, no_element f (first_outside M gens e).1)
      by true (Ok _) false c d f e s k l = (_, too_large (record { fits = f; below = λ {g} h. all_below M gens e g h }) (λ S. false_true (sym s ∙ small_true over S)))
      by true (Ok _) true true d f e s k l =
          (_, many (record { fits = f; below = λ {g} h. all_below M gens e g h }) (true_small over s) (ltb-true 8 n k))
      by true (Ok _) true false false f e s k l =
          let few = ltb-false 8 n k in (
            _,
            short (record { fits = f; below = λ {g} h. all_below M gens e g h }) (true_small over s) few
                (λ E. false_true (sym l ∙ enough_true over n table start work inn outw room few E)),
          )
      by true (Ok _) true false true f e s k l =
          let As = unaltered f in
          let S : Started from over gens table start work inn outw room = record { fits = f; entries = e; small = s; few = ltb-false 8 n k; lent = l } in
          let I = right_inside (called.G from over gens table start work inn outw room S As) (called.gens_below from over gens table start work inn outw room S As) in
          by_reading {elt = (appearing I).1} (record {
            elements = record { fits = f; below = λ {g} h. all_below M gens e g h };
            small = true_small over s;
            few = ltb-false 8 n k;
            enough = true_enough over n table start work inn outw room l;
            appearing = (appearing I).2;
          })

  pub generators_answers : (p : Paper)
      → subgroup_paper (from_generators from over gens table start work inn outw room) ≡ p ↔ GeneratorsPaper from over gens table start work inn outw room p
  generators_answers p = (
    λ q. subst (GeneratorsPaper from over gens table start work inn outw room) (sym (given some_case.1) ∙ q) some_case.1,
    given,
  )
