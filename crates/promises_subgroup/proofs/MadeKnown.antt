-- A subgroup as `from_generators` or `from_predicate` made it is known by its maps; so the questions answer by the index formulas, here and in every product with
-- further groups.
use Prim.Native.Nat.{ℕ, ◌*◌, ◌≤◌}
use mathlib.Core.Path.{◌≡◌, sym, ◌∙◌, subst}
use mathlib.Core.Bool.{true}
use mathlib.Core.List.{List, [], ◌++◌, append-nil}
use native.Mathlib.Nat.{mul-one}
use native.Mathlib.Omega.{arith}
use borrow.Author.Tests.{le-leb}
use lib.ListN.{length, length-take}
use Rattle.egg.specs.declared.Factor.{Factor}
use Rattle.group_handles.specs.declared.Group.{Group}
use Rattle.group_handles.specs.Handles.{handles, elements_of, group_of}
use Rattle.group_handles.proofs.Admitted.{few_factors_lem}
use Rattle.subgroup_build.specs.declared.Subgroup.{Subgroup}
use Rattle.subgroup_sides.specs.Sides.{few_factors, sides_limited}
use Rattle.subgroup_build.proofs.Admits.{small_limited, small_elements}
use Rattle.subgroup_sides.proofs.SideLaws.{fit_law}
use Rattle.promises_subgroup.specs.Altered.{Regardless}
use Rattle.promises_subgroup.specs.Asked.{Askable}

few_handles : (g : Group) → g.count ≤ 8 → length (handles g) ≤ 8
few_handles g h = simp length-take (omega arith)

limited_made : (over : Group) (f : Factor) → over.count ≤ 8 → elements_of (handles over) ≤ 4294967295 → f.elements ≤ 4294967295
    → sides_limited (record { below = group_of []; factor = f; over = over; above = group_of [] }) ≡ true
unfolding sides_limited few_factors
limited_made over f c m n =
    let l : length (handles over ++ []) ≤ 8 = rw (append-nil (handles over)) (few_handles over c) in
    let e : elements_of (handles over ++ []) ≤ 4294967295 = rw (append-nil (handles over)) m in
    let g : f.elements * 1 ≤ 4294967295 = rw (mul-one f.elements) n in
    rw (le-leb over.count 8 c, le-leb (length (handles over ++ [])) 8 l, le-leb (elements_of (handles over ++ [])) 4294967295 e, le-leb (f.elements * 1) 4294967295 g)

-- Whatever the overgroup's buffer held.
module _ {from : List ℕ} {over : Group} {gens : List ℕ} {k : ℕ} {table : List ℕ} {start : ℕ} {work inn outw : List ℕ} {room : ℕ} {s : Subgroup} {t w i o : List ℕ}
    (R : Regardless from over gens k table start work inn outw room s t w i o) where
  as_made : Askable (length from) (length t) (record { below = group_of []; factor = s.factor; over = over; above = group_of [] }) i o
  as_made = record {
    fits = fit_law (length from) (length t) (record { below = group_of []; factor = s.factor; over = over; above = group_of [] }) ∙ rw (R.accepted.fits, R.fits);
    limited = limited_made over s.factor (few_factors_lem over (small_limited over R.small)) (omega (arith, small_elements over R.small)) R.carried.small;
    inn_long = R.inn_long;
    outw_long = omega (arith, R.maps.within, R.outw_long);
    carried = R.carried;
  }

  pub made_known : Askable (length from) (length t) s i o
  made_known = subst (λ (x : Subgroup). Askable (length from) (length t) x i o) (sym R.value) as_made
