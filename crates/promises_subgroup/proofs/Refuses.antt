-- Every question about a subgroup is answered or refused by one of its numbers, on every input. Each definition is gone through branch by branch.
use Prim.Native.Nat.{ℕ, ◌-◌, ◌/◌, ◌%◌}
use mathlib.Core.Path.{◌≡◌, refl}
use mathlib.Core.Bool.{Bool, true, false, ◌&&◌}
use mathlib.Core.List.{List, [], ◌∷◌}
use native.Mathlib.Omega.{arith}
use lib.Dec.{eqb, ltb, leb}
use lib.ListN.{length, get_or}
use Rattle.egg.specs.declared.Refusal.{Refusal}
use Rattle.egg.specs.declared.GroupElementId.{GroupElementId}
use Rattle.egg.specs.declared.GeneratorId.{GeneratorId}
use Rattle.egg.specs.Answers.{Verdict, answer_of}
use Rattle.std.specs.Prelude.{Ok, Err, Some, None}
use Rattle.egg.specs.Table.{pick}
use Rattle.egg.specs.Factor.{stretch}
use Rattle.build_checks_laws.specs.Numbers.{RefusalIn}
use Rattle.factor_laws.specs.Refuses.{VerdictIn, ReachedIn, CountedIn}
use Rattle.factor_laws.proofs.Refuses.{counted_count, counted_if, reached_element, reached_refused, reached_pick, reached_on, reached_if, reached_widen, step_in_lem, verdict_fine, verdict_refused, verdict_pick}
use Rattle.group_handles.specs.declared.Group.{Group}
use Rattle.group_handles.specs.Handles.{handles, all_fit, generators_of}
use Rattle.promises_group.proofs.Refuses.{stepped_in}
use Rattle.build_numbering.specs.Renumber.{no_number}
use Rattle.subgroup_build.specs.declared.Subgroup.{Subgroup}
use Rattle.subgroup_build.specs.Answers.{Subgrouped}
use Rattle.subgroup.specs.Answers.{Within}
use Rattle.subgroup_sides.specs.Sides.{sides_fit, sides_limited, admits_sides, put_left, put_right, if_limited, joinable, multiplied, left_product, right_product, stride_of, over_count}
use Rattle.subgroup.specs.Questions.{if_within, carried_over, carried_back, to_over_answer, to_sub_answer, generator_answer, admits_handles, generator_count_answer, if_grouped, overgroup_answer}
use Rattle.subgroup_sides.specs.Generators.{side_generator}
use Rattle.promises_subgroup.specs.Refuses.{WithinIn, SubgroupRefuses}

abbrev asked : List ℕ
asked = 14 ∷ 15 ∷ 17 ∷ []

-- What an answer with "not in the subgroup" is made of.
module _ {l : List ℕ} where
  within_element : (e : GroupElementId) → WithinIn l (Ok (Some e))
  within_element e = record { of = λ r h. absurd (never r h) } where
    never : (r : Refusal) → ◌≡◌ {A = Within} (Ok (Some e)) (Err r) → ⊥
    never r h = let z : ◌≡◌ {A = ℕ} 0 1 = cc in omega arith

  within_outside : WithinIn l (Ok None)
  within_outside = record { of = λ r h. absurd (never r h) } where
    never : (r : Refusal) → ◌≡◌ {A = Within} (Ok None) (Err r) → ⊥
    never r h = let z : ◌≡◌ {A = ℕ} 0 1 = cc in omega arith

  within_refused : (s : Refusal) → RefusalIn l s → WithinIn l (Err s)
  within_refused s m = record { of = λ r h. let e : s ≡ r = cc in rw e at m }

  within_pick : (b : Bool) (x y : Within) → WithinIn l x → WithinIn l y → WithinIn l (pick b x y)
  within_pick true x y p q = p
  within_pick false x y p q = q

  within_if : (v : Verdict) (x : Within) → VerdictIn l v → WithinIn l x → WithinIn l (if_within v x)
  within_if (Ok _) x p q = q
  within_if (Err s) x p q = within_refused s (p.of s refl)

admits_in : (from table : ℕ) (s : Subgroup) (map need a la : ℕ) → VerdictIn (14 ∷ 15 ∷ 17 ∷ []) (admits_sides from table s map need a la)
unfolding admits_sides
admits_in from table s map need a la =
    verdict_pick (sides_fit from table s && leb need map) _ _
    (verdict_pick (leb la a) _ _ (verdict_refused _ refl) (verdict_pick (sides_limited s) _ _ verdict_fine (verdict_refused _ refl)))
    (verdict_refused _ refl)

-- What is asked of the handles alone.
handles_in : (from table : ℕ) (s : Subgroup) → VerdictIn (15 ∷ 17 ∷ []) (admits_handles from table s)
unfolding admits_handles
handles_in from table s =
    verdict_pick (sides_fit from table s) _ _ (verdict_pick (sides_limited s) _ _ verdict_fine (verdict_refused _ refl)) (verdict_refused _ refl)

grouped_in : {l : List ℕ} (v : Verdict) (g : Group) → VerdictIn l v → VerdictIn l (answer_of (if_grouped v g))
grouped_in (Ok _) g h = h
grouped_in (Err r) g h = h

-- The products.
subgroup_pick : {l : List ℕ} (b : Bool) (x y : Subgrouped) → VerdictIn l (answer_of x) → VerdictIn l (answer_of y) → VerdictIn l (answer_of (pick b x y))
subgroup_pick true x y p q = p
subgroup_pick false x y p q = q

multiplied_in : (g h : Group) (t : Subgroup) → VerdictIn (15 ∷ 17 ∷ []) (answer_of (multiplied g h t))
unfolding multiplied if_limited
multiplied_in g h t =
    subgroup_pick (joinable g h) _ _ (subgroup_pick (sides_limited t) _ _ verdict_fine (verdict_refused _ refl)) (verdict_refused _ refl)

over_in : (s : Subgroup) (outw : List ℕ) (e : ℕ) → ReachedIn (14 ∷ 15 ∷ 17 ∷ []) (carried_over s outw e)
unfolding carried_over
over_in s outw e = reached_pick (ltb (get_or outw (e / stride_of s % s.factor.elements) 0) (over_count s)) _ _ (reached_element _) (reached_refused _ refl)

back_in : (s : Subgroup) (inn : List ℕ) (x : ℕ) → WithinIn (14 ∷ 15 ∷ 17 ∷ []) (carried_back s inn x)
unfolding carried_back
back_in s inn x =
    within_pick (eqb (get_or inn (x / stride_of s % over_count s) 0) no_number) _ _ within_outside
    (within_pick (ltb (get_or inn (x / stride_of s % over_count s) 0) s.factor.elements) _ _ (within_element _) (within_refused _ refl))

side_in : (from table : List ℕ) (s : Subgroup) (g : ℕ) → ReachedIn (14 ∷ 15 ∷ 17 ∷ []) (side_generator from table s g)
unfolding side_generator
side_in from table s g =
    reached_pick (ltb g (generators_of (handles s.below))) _ _ (stepped_in from (handles s.below) 0 g)
    (reached_pick (ltb (g - generators_of (handles s.below)) s.factor.generators) _ _
    (reached_on _ _ (reached_widen asked refl (step_in_lem (stretch table s.factor) s.factor.generators s.factor.elements 0 (g - generators_of (handles s.below))))
    (λ y. reached_element _))
    (reached_on _ _ (stepped_in from (handles s.above) 0 (g - generators_of (handles s.below) - s.factor.generators)) (λ y. reached_element _)))

module _ (from table : List ℕ) (s : Subgroup) where
  lefts : (g : Group) → VerdictIn (15 ∷ 17 ∷ []) (answer_of (left_product (length from) (length table) g s))
  unfolding left_product
  lefts g = subgroup_pick (sides_fit (length from) (length table) s && all_fit (length from) (handles g)) _ _ (multiplied_in g s.below (put_left g s)) (verdict_refused _ refl)

  rights : (g : Group) → VerdictIn (15 ∷ 17 ∷ []) (answer_of (right_product (length from) (length table) s g))
  unfolding right_product
  rights g = subgroup_pick (sides_fit (length from) (length table) s && all_fit (length from) (handles g)) _ _ (multiplied_in s.above g (put_right s g)) (verdict_refused _ refl)

  outward : (outw : List ℕ) (e : GroupElementId) → ReachedIn (14 ∷ 15 ∷ 17 ∷ []) (to_over_answer (length from) (length table) s outw e)
  unfolding to_over_answer
  outward outw e = reached_if _ _ (admits_in (length from) (length table) s _ _ _ _) (over_in s outw e.0)

  inward : (inn : List ℕ) (x : GroupElementId) → WithinIn (14 ∷ 15 ∷ 17 ∷ []) (to_sub_answer (length from) (length table) s inn x)
  unfolding to_sub_answer
  inward inn x = within_if _ _ (admits_in (length from) (length table) s _ _ _ _) (back_in s inn x.0)

  generators : (outw : List ℕ) (g : GeneratorId) → ReachedIn (14 ∷ 15 ∷ 17 ∷ []) (generator_answer from table s outw g)
  unfolding generator_answer
  generators outw g =
      reached_if _ _ (admits_in (length from) (length table) s _ _ _ _)
      (reached_on (side_generator from table s g.0) _ (side_in from table s g.0) (λ e. over_in s outw e))

  counted : CountedIn (15 ∷ 17 ∷ []) (generator_count_answer (length from) (length table) s)
  unfolding generator_count_answer
  counted = counted_if _ _ (handles_in (length from) (length table) s) (counted_count _)

  overgroups : VerdictIn (15 ∷ 17 ∷ []) (answer_of (overgroup_answer (length from) (length table) s))
  unfolding overgroup_answer
  overgroups = grouped_in (admits_handles (length from) (length table) s) _ (handles_in (length from) (length table) s)

  pub subgroup_refuses : SubgroupRefuses from table s
  subgroup_refuses = record {
    lefts = lefts;
    rights = rights;
    outward = outward;
    inward = inward;
    generators = generators;
    counted = counted;
    overgroups = overgroups;
  }
