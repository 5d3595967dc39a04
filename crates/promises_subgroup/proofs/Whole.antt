-- What `overgroup`, `generator_count` and `trivial` answer: by the laws of the verdict on the handles; `trivial` by computing.
use Rattle.egg.specs.Answers.{answer_of, numbered}
use Prim.Native.Nat.{ℕ, ◌+◌, ◌≤◌}
use mathlib.Core.Path.{◌≡◌, refl, sym, ap, ◌∙◌, subst}
use mathlib.Core.Bool.{Bool, true, false, ◌&&◌}
use mathlib.Core.List.{List, [], ◌∷◌, ◌++◌, append-nil, append_assoc}
use native.Mathlib.Omega.{arith}
use borrow.Author.Tests.{le-leb, leb-true}
use lib.Dec.{leb}
use lib.ListN.{length}
use Rattle.egg.specs.declared.Factor.{Factor}
use Rattle.egg.specs.Answers.{fine}
use Rattle.std.specs.Prelude.{Ok, Err}
use Rattle.egg.specs.Table.{pick, put_at, start_of}
use Rattle.egg.specs.Scan.{scan}
use Rattle.egg.specs.Factor.{fits_in}
use Rattle.egg.proofs.Rooms.{and_first, and_second}
use Rattle.egg.proofs.Scans.{refused_fine}
use Rattle.build_checks.specs.Checks.{missing_row, missing, check8, range_row, links_of, ranges, wrong_row, wrong, check_table, wiped, arrive_row, arrivals, counts_right, check_rest, check_group}
use Rattle.build_checks_group.specs.Lefts.{spelled, lefts, identity_row, columns_row, spelled_row, check_steps, fill_left, goes_row, all_go}
use Rattle.build_checks_inverses.specs.Inverses.{invert_from, fill_inverses, inverses_right}
use Rattle.build_word_cells.specs.Hops.{hop_from, with_hops}
use Rattle.build_reading.specs.Build.{set_step, set_word, adds}
use Rattle.build_lending.specs.Finish.{finished}
use Rattle.build_lending.specs.Lending.{within}
use Rattle.build_numbering.specs.Renumber.{map_place, map_row, map_rows}
use Rattle.build_numbering.specs.Build.{renumber_in}
use Rattle.group_handles.specs.declared.Group.{Group}
use Rattle.group_handles.specs.Handles as hs
use Rattle.group_handles.specs.Handles.{handles, elements_of, generators_of, all_fit, group_of, joins}
use Rattle.group_handles.proofs.Sums.{both_length}
use Rattle.group_handles.proofs.Joins.{handles_of}
use Rattle.subgroup_build.specs.declared.Subgroup.{Subgroup}
use Rattle.subgroup_build.specs.Answers.{Subgrouped}
use Rattle.subgroup_build.specs.Lent.{maps_right, subgroup_of, subgrouping}
use Rattle.subgroup_build.specs.Generated.{entries_right, small_enough, admits_generators, generated_into, from_generators}
use Rattle.subgroup_sides.specs.Sides.{over_side, sub_side, sides_fit, sides_limited, joinable, multiplied, put_left, put_right, left_product, right_product}
use Rattle.subgroup_sides.proofs.SideLaws.{over_within, multiplied_no}
use Rattle.subgroup.specs.Questions.{admits_handles, overgroup_answer, generator_count_answer}
use Rattle.subgroup.specs.Trivial.{trivial_subgroup}
use Rattle.subgroup.proofs.Handles.{handles_fine, all_short}
use Rattle.promises_group.specs.Products.{AllAccepted, none, AcceptedProduct}
use Rattle.promises_subgroup.specs.Answers.{EnoughWithMaps}
use Rattle.promises_subgroup.specs.Asked.{Askable}
use Rattle.promises_subgroup.specs.Generates.{SubgroupHolds, Generates}
use Rattle.promises_subgroup.specs.Whole.{HandlesAnswer, TrivialAnswers}
use Rattle.promises_subgroup.proofs.Answers.{enough_true, true_enough}
use Rattle.promises_subgroup.proofs.Asked.{multiplied_fine, fitting_fine, left_known, right_known}
use Rattle.promises_subgroup.proofs.Called.{generators_given}

-- The answers of a subgroup that is known.
module _ (from table : ℕ) (s : Subgroup) (fits : sides_fit from table s ≡ true) (limited : sides_limited s ≡ true) where
  admitted : admits_handles from table s ≡ fine
  admitted = sym (handles_fine from table s {b = true} (sym fits) refl {c = true} (sym limited) refl)

  pub handles_answer : HandlesAnswer from table s
  unfolding overgroup_answer generator_count_answer
  handles_answer = record { overgroups = rw admitted; counted = rw admitted }

-- The overgroup is within the limits of a product.
over_few : (s : Subgroup) → sides_limited s ≡ true → length (over_side s) ≤ 8
over_few s h =
    let l : List Factor = handles s.over ++ handles s.above in
    let u : length (over_side s) ≡ length (handles s.below) + length (handles s.over ++ handles s.above) =
    both_length (handles s.below) (handles s.over ++ handles s.above) in
    let w : length (handles (group_of (handles s.over ++ handles s.above))) ≡ length (handles s.over ++ handles s.above) =
    ap length (handles_of (handles s.over ++ handles s.above)) in
    omega (arith, all_short s h {g = group_of (handles s.over ++ handles s.above)} refl)

-- What it hands back where the factors are accepted is a product of accepted factors, of which promises_group has every answer.
pub overgroup_accepted : (from : List ℕ) (table : ℕ) (s : Subgroup) → sides_fit (length from) table s ≡ true → sides_limited s ≡ true
    → AllAccepted from (over_side s) → (g : Group) × (overgroup_answer (length from) table s ≡ Ok g) × AcceptedProduct from g
unfolding hs.limited
overgroup_accepted from table s fits limited As = (
  group_of (over_side s),
  (handles_answer (length from) table s fits limited).overgroups,
  record {
    factors = subst (AllAccepted from) (sym (handles_of (over_side s))) As;
    within =
        let q : elements_of (handles (group_of (over_side s))) ≤ 4294967295 =
        subst (λ (x : List Factor). elements_of x ≤ 4294967295) (sym (handles_of (over_side s))) (over_within s limited) in
        rw (le-leb (length (over_side s)) 8 (over_few s limited), le-leb (elements_of (handles (group_of (over_side s)))) 4294967295 q);
  },
)

-- Of a subgroup as it was made: the factors of the product that it was made in, and as many generators as elements were given.
module _ {from : List ℕ} {over : Group} {gens : List ℕ} {s : Subgroup} {t i o : List ℕ} (H : SubgroupHolds from over gens s t i o)
    (known : Askable (length from) (length t) s i o) where
  over_alone : over_side s ≡ handles over
  over_alone = ap over_side H.value ∙ append-nil (handles over)

  pub overgroup_made : overgroup_answer (length from) (length t) s ≡ Ok (group_of (handles over))
  overgroup_made = (handles_answer (length from) (length t) s known.fits known.limited).overgroups ∙ rw over_alone

  generators_alone : generators_of (sub_side s) ≡ length gens
  generators_alone =
      let q : generators_of (sub_side s) ≡ s.factor.generators + 0 = ap (λ (x : Subgroup). generators_of (sub_side x)) H.value in
      omega (arith, H.count)

  pub counted_made : generator_count_answer (length from) (length t) s ≡ Ok (length gens)
  counted_made = (handles_answer (length from) (length t) s known.fits known.limited).counted ∙ rw generators_alone

-- The factors of both sides with a group multiplied on.
left_over : (g : Group) (s : Subgroup) → handles g ++ handles (group_of (over_side s)) ≡ over_side (put_left g s)
left_over g s =
    ap (λ (l : List Factor). handles g ++ l) (handles_of (over_side s))
    ∙ sym (ap (λ (l : List Factor). l ++ (handles s.over ++ handles s.above)) (handles_of (handles g ++ handles s.below))
    ∙ append_assoc (handles g) (handles s.below) (handles s.over ++ handles s.above))

right_over : (s : Subgroup) (g : Group) → handles (group_of (over_side s)) ++ handles g ≡ over_side (put_right s g)
right_over s g =
    ap (λ (l : List Factor). l ++ handles g) (handles_of (over_side s))
    ∙ append_assoc (handles s.below) (handles s.over ++ handles s.above) (handles g)
    ∙ ap (λ (l : List Factor). handles s.below ++ l)
    (append_assoc (handles s.over) (handles s.above) (handles g)
    ∙ sym (ap (λ (l : List Factor). handles s.over ++ l) (handles_of (handles s.above ++ handles g))))

left_sub : (g : Group) (s : Subgroup) → sub_side (put_left g s) ≡ handles g ++ sub_side s
left_sub g s =
    ap (λ (l : List Factor). l ++ (s.factor ∷ handles s.above)) (handles_of (handles g ++ handles s.below))
    ∙ append_assoc (handles g) (handles s.below) (s.factor ∷ handles s.above)

right_sub : (s : Subgroup) (g : Group) → sub_side (put_right s g) ≡ sub_side s ++ handles g
right_sub s g =
    ap (λ (l : List Factor). handles s.below ++ (s.factor ∷ l)) (handles_of (handles s.above ++ handles g))
    ∙ sym (append_assoc (handles s.below) (s.factor ∷ handles s.above) (handles g))

-- Where `multiplied` is fine, the two groups could be put together.
joined_so : (g h : Group) (t : Subgroup) {s : Subgroup} → multiplied g h t ≡ Ok s → joinable g h ≡ true
joined_so g h t q = by (joinable g h) refl where
  by : (b : Bool) → joinable g h ≡ b → joinable g h ≡ true
  by true e = e
  by false e = absurd (refused_fine (ap (λ (x : Subgrouped). answer_of x) (multiplied_no g h t e ∙ q)))

first_few : (g h : Group) → joinable g h ≡ true → g.count ≤ 8
unfolding joinable
first_few g h e = leb-true _ _ (and_first (leb g.count 8) _ e)

second_few : (g h : Group) → joinable g h ≡ true → h.count ≤ 8
unfolding joinable
second_few g h e = leb-true _ _ (and_first (leb h.count 8) _ (and_second (leb g.count 8) _ e))

-- `product` of two, where nothing is in the way.
joins_so : (len : ℕ) (a b : Group) {l : List Factor} → handles a ++ handles b ≡ l → all_fit len l ≡ true → a.count ≤ 8 → b.count ≤ 8 → length l ≤ 8
    → elements_of l ≤ 4294967295 → joins len a b ≡ Ok (group_of l)
unfolding joins
joins_so len a b {l} p f x y n m = rw (p, f, le-leb a.count 8 x, le-leb b.count 8 y, le-leb (length l) 8 n, le-leb (elements_of l) 4294967295 m)

over_fits : (from table : ℕ) (s : Subgroup) → sides_fit from table s ≡ true → all_fit from (over_side s) ≡ true
unfolding sides_fit
over_fits from table s h = and_second (fits_in table s.factor) _ h

-- With a group multiplied on, the overgroup is the product with it, and its generators come before or behind.
module _ {from table : ℕ} {s : Subgroup} {inn outw : List ℕ} (K : Askable from table s inn outw) (g : Group) where
  joined_as : (a b : Group) (t : Subgroup) → Askable from table t inn outw → handles a ++ handles b ≡ over_side t → a.count ≤ 8 → b.count ≤ 8
      → joins from a b ≡ overgroup_answer from table t
  joined_as a b t L p x y =
      joins_so from a b p (over_fits from table t L.fits) x y (over_few t L.limited) (over_within t L.limited)
      ∙ sym (handles_answer from table t L.fits L.limited).overgroups

  hands_back : overgroup_answer from table s ≡ Ok (group_of (over_side s))
  hands_back = (handles_answer from table s K.fits K.limited).overgroups

  module _ {t : Subgroup} (q : left_product from table g s ≡ Ok t) where
    left_parts : (t ≡ put_left g s) × (g.count ≤ 8)
    unfolding left_product
    left_parts =
        let F = fitting_fine (sides_fit from table s && all_fit from (handles g)) (multiplied g s.below (put_left g s)) q in
        ((multiplied_fine g s.below (put_left g s) F.1).0, first_few g s.below (joined_so g s.below (put_left g s) F.1))

    pub overgroup_left : (h : Group) × (overgroup_answer from table s ≡ Ok h) × (overgroup_answer from table t ≡ joins from g h)
    overgroup_left = (
      group_of (over_side s),
      hands_back,
      sym (joined_as g (group_of (over_side s)) t (left_known K g q) (left_over g s ∙ ap over_side (sym left_parts.0)) left_parts.1
          (over_few s K.limited)),
    )

    pub counted_left : generator_count_answer from table t ≡ Ok (generators_of (handles g ++ sub_side s))
    counted_left =
        (handles_answer from table t (left_known K g q).fits (left_known K g q).limited).counted
        ∙ ap (λ (l : List Factor). Ok (generators_of l)) (ap sub_side left_parts.0 ∙ left_sub g s)

  module _ {t : Subgroup} (q : right_product from table s g ≡ Ok t) where
    right_parts : (t ≡ put_right s g) × (g.count ≤ 8)
    unfolding right_product
    right_parts =
        let F = fitting_fine (sides_fit from table s && all_fit from (handles g)) (multiplied s.above g (put_right s g)) q in
        ((multiplied_fine s.above g (put_right s g) F.1).0, second_few s.above g (joined_so s.above g (put_right s g) F.1))

    pub overgroup_right : (h : Group) × (overgroup_answer from table s ≡ Ok h) × (overgroup_answer from table t ≡ joins from h g)
    overgroup_right = (
      group_of (over_side s),
      hands_back,
      sym (joined_as (group_of (over_side s)) g t (right_known K g q) (right_over s g ∙ ap over_side (sym right_parts.0))
          (over_few s K.limited) right_parts.1),
    )

    pub counted_right : generator_count_answer from table t ≡ Ok (generators_of (sub_side s ++ handles g))
    counted_right =
        (handles_answer from table t (right_known K g q).fits (right_known K g q).limited).counted
        ∙ ap (λ (l : List Factor). Ok (generators_of l)) (ap sub_side right_parts.0 ∙ right_sub s g)

-- The trivial subgroup.
module _ (table : List ℕ) (start : ℕ) (work inn outw : List ℕ) where
  trivial_by : trivial_subgroup table start work inn outw
      ≡ pick (maps_right (length table) start (length work) (length inn) (length outw) 1 0 1)
      (subgrouping (subgroup_of (group_of []) (Ok (record { start = start; room = 1; generators = 0; elements = 1 })))
      (within table start (start + 4) (0 ∷ 0 ∷ 0 ∷ 0 ∷ [])) (within work 0 0 []) (within inn 0 1 (0 ∷ [])) (within outw 0 1 (0 ∷ [])))
      (subgrouping (Err (numbered 4 0 0 0)) table work inn outw)
  unfolding put_at start_of scan missing_row missing check8 range_row links_of ranges wrong_row wrong check_table wiped arrive_row arrivals counts_right invert_from fill_inverses inverses_right identity_row columns_row spelled_row spelled check_steps fill_left goes_row all_go lefts check_rest check_group set_step set_word adds hop_from with_hops finished hs.limited map_place map_row map_rows renumber_in entries_right small_enough admits_generators generated_into from_generators trivial_subgroup
  trivial_by = refl

  pub trivial_answers : TrivialAnswers table start work inn outw
  trivial_answers = record { short = λ h. trivial_by ∙ rw (not_enough h); made = λ E. trivial_by ∙ rw (enough_true (group_of []) 0 table start work inn outw 1 (omega arith) E) } where
    not_enough : ¬ (EnoughWithMaps (group_of []) 0 table start work inn outw 1) → maps_right (length table) start (length work) (length inn) (length outw) 1 0 1 ≡ false
    not_enough h = by (maps_right (length table) start (length work) (length inn) (length outw) 1 0 1) refl where
      by : (b : Bool) → maps_right (length table) start (length work) (length inn) (length outw) 1 0 1 ≡ b → b ≡ false
      by false q = refl
      by true q = absurd (h (true_enough (group_of []) 0 table start work inn outw 1 q))

  -- All that holds of an accepted call by generators holds of it.
  pub trivial_given : {s : Subgroup} {t w i o : List ℕ} → trivial_subgroup table start work inn outw ≡ subgrouping (Ok s) t w i o
      → Generates [] (group_of []) [] table start work inn outw 1 s t w i o
  unfolding trivial_subgroup
  trivial_given q = generators_given [] (group_of []) [] table start work inn outw 1 none q
