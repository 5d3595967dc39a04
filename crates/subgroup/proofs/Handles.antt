-- Laws of the questions about the handles alone, one for each answer; and of the overgroup's factors, which are few enough to be one product.
use Rattle.std.specs.Prelude.{Ok}
use Prim.Native.Nat.{ℕ, ◌+◌, ◌≤◌}
use mathlib.Core.Path.{◌≡◌, refl, sym, ap, ◌∙◌}
use mathlib.Core.Bool.{Bool, true, false}
use mathlib.Core.List.{List, ◌++◌}
use native.Mathlib.Omega.{arith}
use borrow.Author.Tests.{leb-true}
use lib.ListN.{length}
use lib.Dec.{leb}
use Rattle.egg.specs.declared.Factor.{Factor}
use Rattle.egg.specs.declared.Refusal.{Refusal}
use Rattle.egg.specs.Answers.{Verdict, fine}
use Rattle.std.specs.Prelude.{Err}
use Rattle.egg.specs.Scan.{refused_of}
use Rattle.egg.proofs.Rooms.{and_first, and_second}
use Rattle.egg.proofs.Scans.{refused_fine}
use Rattle.group_handles.specs.declared.Group.{Group}
use Rattle.group_handles.specs.Handles.{handles, group_of}
use Rattle.group_handles.proofs.Sums.{both_length}
use Rattle.group_handles.proofs.Joins.{handles_of}
use Rattle.subgroup_build.specs.declared.Subgroup.{Subgroup}
use Rattle.subgroup_sides.specs.Sides.{over_side, sides_fit, few_factors, sides_limited}
use Rattle.subgroup.specs.Questions.{admits_handles, if_grouped}

-- 17, then 15.
module _ (from table : ℕ) (s : Subgroup) where
  module _ {b : Bool} (p : b ≡ sides_fit from table s) where
    pub handles_17 : b ≡ false → refused_of 17 0 0 0 ≡ admits_handles from table s
    unfolding admits_handles
    handles_17 e = rw (← p, e)

    module _ (e : b ≡ true) {c : Bool} (q : c ≡ sides_limited s) where
      pub handles_15 : c ≡ false → refused_of 15 0 0 0 ≡ admits_handles from table s
      unfolding admits_handles
      handles_15 f = rw (← p, e, ← q, f)

      pub handles_fine : c ≡ true → fine ≡ admits_handles from table s
      unfolding admits_handles
      handles_fine f = rw (← p, e, ← q, f)

  -- What a question that goes on has tested.
  pub handles_admitted : admits_handles from table s ≡ fine → (sides_fit from table s ≡ true) × (sides_limited s ≡ true)
  handles_admitted h = by (sides_fit from table s) (sides_limited s) refl refl where
    by : (b c : Bool) → sides_fit from table s ≡ b → sides_limited s ≡ c → (sides_fit from table s ≡ true) × (sides_limited s ≡ true)
    by false c p q = absurd (refused_fine (handles_17 (sym p) refl ∙ h))
    by true false p q = absurd (refused_fine (handles_15 (sym p) refl (sym q) refl ∙ h))
    by true true p q = (p, q)

module _ {v w : Verdict} (q : v ≡ w) where
  pub grouped_refused : {r : Refusal} (g : Group) → v ≡ Err r → Err r ≡ if_grouped w g
  grouped_refused g e = rw (← q, e)

  pub grouped_fine : (g : Group) → v ≡ fine → Ok g ≡ if_grouped w g
  grouped_fine g e = rw (← q, e)

-- The overgroup's factors, and those over and above.
module _ (s : Subgroup) where
  few_so : sides_limited s ≡ true → few_factors s ≡ true
  unfolding sides_limited
  few_so h = and_first (few_factors s) _ h

  over_short : few_factors s ≡ true → length (over_side s) ≤ 8
  unfolding few_factors
  over_short h =
      leb-true _ _ (and_first (leb (length (over_side s)) 8) _
      (and_second (leb s.above.count 8) _ (and_second (leb s.over.count 8) _ (and_second (leb s.below.count 8) _ h))))

  module _ (h : sides_limited s ≡ true) where
    over_lengths : length (handles s.below) + (length (handles s.over) + length (handles s.above)) ≤ 8
    over_lengths =
        let u : length (over_side s) ≡ length (handles s.below) + length (handles s.over ++ handles s.above) =
        both_length (handles s.below) (handles s.over ++ handles s.above) in
        let v : length (handles s.over ++ handles s.above) ≡ length (handles s.over) + length (handles s.above) =
        both_length (handles s.over) (handles s.above) in
        omega (arith, over_short (few_so h))

    pub high_short : length (handles s.over) + length (handles s.above) ≤ 8
    high_short = omega (arith, over_lengths)

    module _ {g : Group} (p : g ≡ group_of (handles s.over ++ handles s.above)) where
      high_are : handles g ≡ handles s.over ++ handles s.above
      high_are = ap handles p ∙ handles_of (handles s.over ++ handles s.above)

      pub all_short : length (handles s.below) + length (handles g) ≤ 8
      all_short =
          let v : length (handles g) ≡ length (handles s.over) + length (handles s.above) =
          ap length high_are ∙ both_length (handles s.over) (handles s.above) in
          omega (arith, over_lengths)

      pub all_joined : {x : Group} → x ≡ group_of (handles s.below ++ handles g) → x ≡ group_of (over_side s)
      all_joined q = q ∙ ap (λ (l : List Factor). group_of (handles s.below ++ l)) high_are
