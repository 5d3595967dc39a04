-- Laws of the outline: one for each answer of the functions on it, and that its answers are those by the handles.
use Prim.Native.Nat.{ℕ, ◌*◌, ◌≤◌, ◌<◌}
use mathlib.Core.Path.{◌≡◌, refl, sym, ◌∙◌, subst}
use mathlib.Core.Bool.{Bool, true, false}
use mathlib.Core.List.{List}
use borrow.Author.Tests.{le-leb, lt-leb, leb-true, leb-false}
use lib.ListN.{length}
use lib.Dec.{leb}
use Rattle.egg.specs.declared.GroupElementId.{GroupElementId}
use Rattle.egg.specs.declared.Refusal.{Refusal}
use Rattle.egg.specs.Answers.{Reached, Verdict, fine}
use Rattle.std.specs.Prelude.{Ok, Err}
use Rattle.egg.specs.Scan.{refused_of}
use Rattle.egg.specs.Factor.{fits_in}
use Rattle.egg.proofs.Rooms.{and_first, and_second}
use Rattle.egg.proofs.Scans.{refused_fine}
use Rattle.egg.specs.Answers.{if_reach}
use Rattle.group_handles.specs.declared.inner.Seen.{Seen}
use Rattle.group_handles.specs.Handles.{handles, elements_of, capped, seen}
use Rattle.group_handles.proofs.Caps.{cap_small, cap_within, capped_bound}
use Rattle.subgroup_build.specs.declared.Subgroup.{Subgroup}
use Rattle.subgroup.specs.Answers.{Within}
use Rattle.subgroup.specs.declared.inner.Outline.{Outline}
use Rattle.subgroup_sides.specs.Sides.{over_side, sub_side, few_factors, limited_by, sides_limited, admits_sides, over_count}
use Rattle.subgroup.specs.Questions.{if_within, carried_by, carried_over, to_over_answer, to_sub_answer}
use Rattle.subgroup.specs.Outline.{outline_of, outline_by, Measured, over_measure, sub_measure, outline_limited, admits_outline, over_by_outline, back_by_outline}
use Rattle.subgroup_sides.proofs.Counts.{cap_right, around_is, over_elements_is, sub_elements_is}
use Rattle.subgroup.proofs.Carries.{carried_is, carried_back_is}
use Rattle.subgroup_sides.proofs.SideLaws.{fit_law, limited_sides, over_within, sub_within, asks, sides_capped}

-- 15.
pub outline_limited_lem : (o : Outline) {r : Bool} → r ≡ limited_by o.few o.below o.within o.over o.above → r ≡ outline_limited o
unfolding outline_limited
outline_limited_lem o q = q

-- 17, 14, 15 in this order.
module _ (o : Outline) (map need a la : ℕ) where
  pub admit_handle : o.fit ≡ false → refused_of 17 0 0 0 ≡ admits_outline o map need a la
  unfolding admits_outline
  admit_handle h = rw h

  module _ (fits : o.fit ≡ true) where
    pub admit_map : map < need → refused_of 17 0 0 0 ≡ admits_outline o map need a la
    unfolding admits_outline
    admit_map h = rw (fits, lt-leb need map h)

    module _ (long : need ≤ map) where
      pub admit_argument : la ≤ a → refused_of 14 0 0 0 ≡ admits_outline o map need a la
      unfolding admits_outline
      admit_argument h = rw (fits, le-leb need map long, le-leb la a h)

      module _ (below : a < la) where
        pub admit_large : outline_limited o ≡ false → refused_of 15 0 0 0 ≡ admits_outline o map need a la
        unfolding admits_outline
        admit_large z = rw (z, fits, le-leb need map long, lt-leb la a below)

        pub admit_fine : outline_limited o ≡ true → fine ≡ admits_outline o map need a la
        unfolding admits_outline
        admit_fine z = rw (z, fits, le-leb need map long, lt-leb la a below)

-- Where a question goes on.
record Goes (o : Outline) (a la : ℕ) : Type 0 where
  pub argument : a < la
  pub limited : outline_limited o ≡ true

goes : (o : Outline) (map need a la : ℕ) → admits_outline o map need a la ≡ fine → Goes o a la
goes o map need a la q = by o.fit (leb need map) (leb la a) (outline_limited o) refl refl refl refl where
  by : (w x y z : Bool) → o.fit ≡ w → leb need map ≡ x → leb la a ≡ y → outline_limited o ≡ z → Goes o a la
  by false x y z p h k l = absurd (refused_fine (admit_handle o map need a la p ∙ q))
  by true false y z p h k l = absurd (refused_fine (admit_map o map need a la p (leb-false _ _ h) ∙ q))
  by true true true z p h k l = absurd (refused_fine (admit_argument o map need a la p (leb-true _ _ h) (leb-true _ _ k) ∙ q))
  by true true false false p h k l = absurd (refused_fine (admit_large o map need a la p (leb-true _ _ h) (leb-false _ _ k) l ∙ q))
  by true true false true p h k l = record { argument = leb-false _ _ k; limited = l }

uncapped : (x y : ℕ) → capped (x * capped y) ≤ 4294967295 → x * y ≤ 4294967295
uncapped x y h = leb-true _ _ (sym (cap_within (x * y) (cap_right x y)) ∙ le-leb _ _ h)

module _ (o : Outline) (h : outline_limited o ≡ true) where
  over_limit : o.below * (o.over * o.above) ≤ 4294967295
  unfolding outline_limited limited_by
  over_limit = uncapped o.below (o.over * o.above) (leb-true _ _ (and_first _ _ (and_second o.few _ h)))

  sub_limit : o.below * (o.within * o.above) ≤ 4294967295
  unfolding outline_limited limited_by
  sub_limit =
      uncapped o.below (o.within * o.above) (leb-true _ _ (and_second (leb (over_measure o) 4294967295) _ (and_second o.few _ h)))

  over_exact : over_measure o ≡ o.below * (o.over * o.above)
  over_exact = cap_right o.below (o.over * o.above) ∙ cap_small over_limit

  sub_exact : sub_measure o ≡ o.below * (o.within * o.above)
  sub_exact = cap_right o.below (o.within * o.above) ∙ cap_small sub_limit

module _ (o : Outline) (map need a : ℕ) {la : ℕ} {v : Verdict} (q : v ≡ admits_outline o map need a la) (f : v ≡ fine) where
  pub over_goes : la ≡ sub_measure o
      → (a < o.below * (o.within * o.above)) × ((o.below * (o.within * o.above) ≤ 4294967295) × (o.below * (o.over * o.above) ≤ 4294967295))
  over_goes p =
      let A : Goes o a la = goes o map need a la (sym q ∙ f) in
      (subst (λ (k : ℕ). a < k) (p ∙ sub_exact o A.limited) A.argument, (sub_limit o A.limited, over_limit o A.limited))

  pub back_goes : la ≡ over_measure o
      → (a < o.below * (o.over * o.above)) × ((o.below * (o.within * o.above) ≤ 4294967295) × (o.below * (o.over * o.above) ≤ 4294967295))
  back_goes p =
      let A : Goes o a la = goes o map need a la (sym q ∙ f) in
      (subst (λ (k : ℕ). a < k) (p ∙ over_exact o A.limited) A.argument, (sub_limit o A.limited, over_limit o A.limited))

-- Of a subgroup.
pub outline_is : (from table : ℕ) (s : Subgroup) {fits few : Bool} {low middle high : Seen} → fits ≡ fits_in table s.factor → few ≡ few_factors s
    → low ≡ seen from (handles s.below) → middle ≡ seen from (handles s.over) → high ≡ seen from (handles s.above)
    → {r : Outline} → r ≡ outline_by fits few s.factor.elements low middle high → r ≡ outline_of from table s
outline_is from table s p q u v w e = e ∙ rw (p, q, u, v, w, fit_law from table s)

reach_same : (w : Verdict) {v : Verdict} {x y : Reached} → v ≡ w → (w ≡ fine → x ≡ y) → if_reach v x ≡ if_reach w y
reach_same (Ok _) p f = rw (p, f refl)
reach_same (Err r) p f = rw p

within_same : (w : Verdict) {v : Verdict} {x y : Within} → v ≡ w → (w ≡ fine → x ≡ y) → if_within v x ≡ if_within w y
within_same (Ok _) p f = rw (p, f refl)
within_same (Err r) p f = rw p

module _ {v w : Verdict} (q : v ≡ w) where
  pub within_refused : {r : Refusal} (x : Within) → v ≡ Err r → Err r ≡ if_within w x
  within_refused x e = rw (← q, e)

  pub within_fine : (x : Within) → v ≡ fine → x ≡ if_within w x
  within_fine x e = rw (← q, e)

module _ (from table : ℕ) (s : Subgroup) where
  over_measure_is : over_measure (outline_of from table s) ≡ capped (elements_of (over_side s))
  over_measure_is =
      over_elements_is s {m = capped (over_count s)} refl
      (around_is (elements_of (handles s.below)) (capped (over_count s)) (elements_of (handles s.above)) refl refl refl refl)

  sub_measure_is : sub_measure (outline_of from table s) ≡ capped (elements_of (sub_side s))
  sub_measure_is =
      sub_elements_is s (around_is (elements_of (handles s.below)) s.factor.elements (elements_of (handles s.above)) refl refl refl refl)

  limited_is : outline_limited (outline_of from table s) ≡ sides_limited s
  unfolding outline_limited
  limited_is = limited_sides s refl refl refl refl

  admits_is : (map need a la : ℕ) → admits_outline (outline_of from table s) map need a la ≡ admits_sides from table s map need a la
  unfolding admits_outline admits_sides
  admits_is map need a la = rw limited_is

  over_answer : (outw : List ℕ) (e : GroupElementId) → e.0 < 4294967296 → over_by_outline (outline_of from table s) outw e.0 ≡ to_over_answer from table s outw e
  unfolding over_by_outline to_over_answer
  over_answer outw e h =
      reach_same (admits_sides from table s (length outw) s.factor.elements e.0 (elements_of (sub_side s)))
      (sides_capped from table s (length outw) e.0 (elements_of (sub_side s)) h refl sub_measure_is
      (admits_is (length outw) s.factor.elements e.0 (sub_measure (outline_of from table s))))
      (λ q. let A = asks from table s (length outw) s.factor.elements e.0 (elements_of (sub_side s)) q in carried_is s (sub_within s A.limited) (over_within s A.limited) e.0 A.argument outw)

  back_answer : (inn : List ℕ) (x : GroupElementId) → x.0 < 4294967296 → back_by_outline (outline_of from table s) inn x.0 ≡ to_sub_answer from table s inn x
  unfolding back_by_outline to_sub_answer
  back_answer inn x h =
      within_same (admits_sides from table s (length inn) (capped (over_count s)) x.0 (elements_of (over_side s)))
      (sides_capped from table s (length inn) x.0 (elements_of (over_side s)) h refl over_measure_is
      (admits_is (length inn) (capped (over_count s)) x.0 (over_measure (outline_of from table s))))
      (λ q. let A = asks from table s (length inn) (capped (over_count s)) x.0 (elements_of (over_side s)) q in carried_back_is s (sub_within s A.limited) (over_within s A.limited) x.0 A.argument inn)

  module _ {o : Outline} (p : o ≡ outline_of from table s) where
    pub measured : s.factor.elements ≤ 4294967296 → Measured o
    measured h = rw p (record { low = capped_bound _; own = h; middle = capped_bound _; high = capped_bound _ })

    pub over_told : (outw : List ℕ) (e : GroupElementId) → e.0 < 4294967296 → over_by_outline o outw e.0 ≡ to_over_answer from table s outw e
    over_told outw e h = rw p (over_answer outw e h)

    pub back_told : (inn : List ℕ) (x : GroupElementId) → x.0 < 4294967296 → back_by_outline o inn x.0 ≡ to_sub_answer from table s inn x
    back_told inn x h = rw p (back_answer inn x h)

    pub admits_told : (map need a : ℕ) {k la : ℕ} → k ≡ la → {v : Verdict} → v ≡ admits_outline o map need a k → v ≡ admits_sides from table s map need a la
    admits_told map need a {k} {la} q e = e ∙ rw (p, q) (admits_is map need a la)

    module _ (l : sides_limited s ≡ true) (e : ℕ) (h : e < elements_of (sub_side s)) where
      pub carried_told : (outw : List ℕ) → carried_by o.below o.over o.within outw e ≡ carried_over s outw e
      carried_told outw = rw p (carried_is s (sub_within s l) (over_within s l) e h outw)

      pub side_goes : (e < o.below * (o.within * o.above)) × ((o.below * (o.within * o.above) ≤ 4294967295) × (o.below * (o.over * o.above) ≤ 4294967295))
      side_goes =
          let z : outline_limited (outline_of from table s) ≡ true = limited_is ∙ l in
          let w : elements_of (sub_side s) ≡ sub_measure (outline_of from table s) = sym (cap_small (sub_within s l)) ∙ sym sub_measure_is in
          rw p (subst (λ (k : ℕ). e < k) (w ∙ sub_exact (outline_of from table s) z) h, (sub_limit (outline_of from table s) z, over_limit (outline_of from table s) z))
