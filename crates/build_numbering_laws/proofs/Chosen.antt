-- Generators that are chosen one after the other, each outside what the earlier ones generate (`from_subgroup_predicate`): they are different and none is
-- the identity, so that 9 and 11 are never given. And what they generate, if they are taken from a subgroup and leave none of it out.
use Prim.Native.Nat.{ℕ, ◌<◌, ◌≤◌}
use mathlib.Core.Path.{◌≡◌, subst}
use mathlib.Core.Logic.{◌↔◌}
use native.Mathlib.Omega.{arith}
use Rattle.theory.specs.Group.{GroupOn}
use Rattle.theory.specs.Orbit.{Orbit, origin, onward}
use Rattle.theory.specs.Subgroup.{right_by, IsSubgroup, Proper}
use Rattle.theory.proofs.Subgroups.{orbit_generated}
use Rattle.theory.proofs.FirstRow.{sooner_apart}

-- More generators reach more.
pub orbit_more : {n m : ℕ} {out : ℕ → ℕ → ℕ} {x₀ x : ℕ} → n ≤ m → Orbit n out x₀ x → Orbit m out x₀ x
orbit_more h origin = origin
orbit_more h (onward {g = g} o hg) = onward {g = g} (orbit_more h o) (omega arith)

module _ {M : ℕ} {op : ℕ → ℕ → ℕ} {inv : ℕ → ℕ} (G : GroupOn M op inv) {n : ℕ} {gen : ℕ → ℕ} (gens : (g : ℕ) → g < n → gen g < M) where
  -- Each is outside what the earlier ones generate.
  pub chosen_proper : ((g : ℕ) → g < n → ¬ Orbit g (right_by op gen) 0 (gen g)) → Proper n gen
  chosen_proper outside = record {
    moves = λ {g} hg q. outside g hg (rw q origin);
    apart = λ hg hh q. sooner_apart sooner hg hh q;
  } where
    sooner : (g h : ℕ) → g < h → h < n → ¬ (gen g ≡ gen h)
    sooner g h l hh q =
        outside h hh (subst (Orbit h (right_by op gen) 0) q ((orbit_generated G {n = h} {gen = gen} (λ i m. gens i (omega arith))).generators l))

  -- Taken from a subgroup, with none of it left out, they generate it.
  pub chosen_all : {K : ℕ → Type 0} {x : ℕ} → IsSubgroup M op inv K → ((g : ℕ) → g < n → K (gen g))
      → ((y : ℕ) → K y → Orbit n (right_by op gen) 0 y) → Orbit n (right_by op gen) 0 x ↔ K x
  chosen_all {K} {x} S taken all = (λ o. (orbit_generated G gens).smallest S taken o, λ k. all x k)
