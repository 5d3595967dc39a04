-- At most 8 factors on either side, by the counts.
use Prim.Native.Nat.{ℕ, ◌+◌, ◌≤◌, ◌<◌}
use mathlib.Core.Path.{◌≡◌, refl, sym, ◌∙◌}
use mathlib.Core.Bool.{Bool, true, false}
use borrow.Author.Tests.{le-leb, lt-leb, leb-true, leb-false}
use lib.ListN.{length}
use lib.Dec.{leb, ltb}
use Rattle.group_handles.proofs.Lists.{listed_few}
use Rattle.subgroup_build.specs.declared.Subgroup.{Subgroup}
use Rattle.subgroup_sides.specs.Sides.{few_factors, few_of}
use Rattle.subgroup_sides.proofs.SideLaws.{few_below, few_over, few_above, few_long, few_last}

module _ (b o a : ℕ) where
  pub few_of_below : 8 < b → false ≡ few_of b o a
  unfolding few_of
  few_of_below h = rw (lt-leb b 8 h)

  module _ (p : b ≤ 8) where
    pub few_of_over : 8 < o → false ≡ few_of b o a
    unfolding few_of
    few_of_over h = rw (le-leb b 8 p, lt-leb o 8 h)

    module _ (q : o ≤ 8) where
      pub few_of_above : 8 < a → false ≡ few_of b o a
      unfolding few_of
      few_of_above h = rw (le-leb b 8 p, le-leb o 8 q, lt-leb a 8 h)

      module _ (r : a ≤ 8) where
        pub few_of_long : 8 < b + a + o → false ≡ few_of b o a
        unfolding few_of
        few_of_long h = rw (le-leb b 8 p, le-leb o 8 q, le-leb a 8 r, lt-leb (b + a + o) 8 h)

        pub few_of_last : b + a + o ≤ 8 → ltb (b + a) 8 ≡ few_of b o a
        unfolding few_of
        few_of_last h = rw (le-leb b 8 p, le-leb o 8 q, le-leb a 8 r, le-leb (b + a + o) 8 h)

module _ (s : Subgroup) (x : length s.below.factors ≡ 8) (y : length s.over.factors ≡ 8) (z : length s.above.factors ≡ 8) where
  abbrev b : ℕ
  b = s.below.count

  abbrev o : ℕ
  o = s.over.count

  abbrev a : ℕ
  a = s.above.count

  few_listed : b ≤ 8 → o ≤ 8 → a ≤ 8 → few_of b o a ≡ few_factors s
  few_listed p q r = by (leb (b + a + o) 8) refl where
    by : (w : Bool) → leb (b + a + o) 8 ≡ w → few_of b o a ≡ few_factors s
    by false e =
        let h : 8 < b + a + o = leb-false _ _ e in
        sym (few_of_long b o a p q r h) ∙ few_long s p q r (listed_few s.below x p) (listed_few s.above z r) (listed_few s.over y q) h
    by true e =
        let h : b + a + o ≤ 8 = leb-true _ _ e in
        sym (few_of_last b o a p q r h) ∙ few_last s p q r (listed_few s.below x p) (listed_few s.above z r) (listed_few s.over y q) h

  -- The counts tell it where each group lists eight handles.
  pub few_counts : few_of b o a ≡ few_factors s
  few_counts = by (leb b 8) (leb o 8) (leb a 8) refl refl refl where
    by : (u v w : Bool) → leb b 8 ≡ u → leb o 8 ≡ v → leb a 8 ≡ w → few_of b o a ≡ few_factors s
    by false v w p q r = sym (few_of_below b o a (leb-false _ _ p)) ∙ few_below s (leb-false _ _ p)
    by true false w p q r = sym (few_of_over b o a (leb-true _ _ p) (leb-false _ _ q)) ∙ few_over s (leb-true _ _ p) (leb-false _ _ q)
    by true true false p q r =
        sym (few_of_above b o a (leb-true _ _ p) (leb-true _ _ q) (leb-false _ _ r)) ∙ few_above s (leb-true _ _ p) (leb-true _ _ q) (leb-false _ _ r)
    by true true true p q r = few_listed (leb-true _ _ p) (leb-true _ _ q) (leb-true _ _ r)
