-- What the two lists of an accepted numbering are: a pair of maps that undo each other, and carry identity, compose and inverse.
use Prim.Native.Nat.{ℕ, ◌<◌, ◌≤◌}
use mathlib.Core.List.{List}
use native.Mathlib.Omega.{arith}
use lib.ListN.{get_or}
use Rattle.egg.specs.Table.{step_of, back_of}
use Rattle.theory.specs.Group.{GroupOn}
use Rattle.theory.specs.Regular.{compose, inverse}
use Rattle.build_checks_laws.specs.Stored.{word_of}
use Rattle.build_checks_laws.specs.Sound.{Sound}
use Rattle.build_numbering_laws.specs.Maps.{RenumberedLists}
use Rattle.theory.specs.Subgroup.{right_by}
use Rattle.theory.proofs.Subgroups.{outward_composes, outward_inverts}
use Rattle.promises_subgroup.specs.Carried.{MapsUndo, Homomorphic}

-- The two lists of an accepted build are a pair of maps, by which the index formulas go on.
pub held_carried : {n M room K x₀ c : ℕ} {out step : ℕ → ℕ → ℕ} {inn outw : List ℕ} → RenumberedLists n M room K out x₀ c step inn outw → room ≤ 65535
    → MapsUndo M c (λ e. get_or outw e 0) (λ x. get_or inn x 0)
held_carried H hi = record {
  small = omega (arith, H.within);
  over_below = λ h. H.renumbered.outward_below h;
  there_and_back = λ h. H.renumbered.there_and_back h;
  sub_below = λ h k. H.renumbered.inward (H.reached h k);
  back_and_there = λ h k. H.renumbered.back_and_there (H.reached h k);
}

module _ {M : ℕ} {op : ℕ → ℕ → ℕ} {inv : ℕ → ℕ} (G : GroupOn M op inv) {n : ℕ} {gen : ℕ → ℕ} (gens : (g : ℕ) → g < n → gen g < M) where
  pub held_homomorphic : {room K c : ℕ} {t inn outw : List ℕ} → RenumberedLists n M room K (right_by op gen) 0 c (step_of t n) inn outw → Sound t n c
      → Homomorphic c (compose (step_of t n) (word_of t n)) (inverse (back_of t n) (word_of t n)) op inv (λ e. get_or outw e 0)
  held_homomorphic H S = record {
    identity = H.renumbered.origin;
    composes = λ {a} {b} ha hb. outward_composes G gens H.renumbered S.spelled ha hb;
    inverts = λ {a} ha. outward_inverts G gens H.renumbered S.spelled S.columns ha;
  }
