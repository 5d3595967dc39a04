-- One law for each way in which an exponent loses its sign.
-- Assumes nothing.
use Prim.Native.Nat.{ℕ, ◌<◌}
use mathlib.Core.Path.{◌≡◌, refl, sym, subst}
use native.Mathlib.Omega.{arith}
use mathlib.Core.Bool.{true, false}
use mathlib.Core.List.{List}
use lib.IntN.{ℤ, pos, nat_abs, ◌-ℤ◌}
use lib.Signed.{le_z}
use mir.Syntax.{w32}
use mir.Val.{SFits, of_z}
use Rattle.egg.specs.declared.GroupElementId.{GroupElementId}
use Rattle.egg.specs.Answers.{Reached}
use Rattle.std.specs.Prelude.{Ok, Option, Some, None}
use Rattle.lists_powers.specs.declared.inner.PowerOf.{PowerOf}
use Rattle.factor_questions.specs.Walks.{compose_in, inverse_in}
use Rattle.group_powers.proofs.Signs.{read, powers_positive, powers_negative}
use Rattle.lists_powers.specs.Rounds.{Base}
use Rattle.lists_powers.proofs.Halves.{least_halves}

-- The power that is given, and that none is.
pub no_power : {p : PowerOf} → ◌≡◌ {A = Option PowerOf} None (Some p) → ⊥
no_power h = let z : ◌≡◌ {A = ℕ} 0 1 = cc in omega arith

pub power_is : {s : List ℕ} {n count a base by : ℕ} {e : ℤ} {p : PowerOf} → ◌≡◌ {A = Option PowerOf} (Some (record { base = base; by = by })) (Some p)
    → Base s n count a e base by → Base s n count a e p.base p.by
power_is {s} {n} {count} {a} {base} {by} {e} {p} h B =
    let z : ◌≡◌ {A = PowerOf} (record { base = base; by = by }) p = cc in
    subst (λ (q : PowerOf). Base s n count a e q.base q.by) z B

module _ {s : List ℕ} {n count a : ℕ} (h : a < count) (z : ℤ) (f : SFits w32 z) where
  pub base_positive : le_z (pos 0) (read z) ≡ true → Base s n count a z a (nat_abs (read z))
  base_positive q = record { element = h; same = sym (powers_positive 1073741824 (compose_in s n count) (inverse_in s n count) a z f q refl) }

  module _ {back : Reached} (w : back ≡ inverse_in s n count a) {i : GroupElementId} (e : back ≡ Ok i) (q : le_z (pos 0) (read z) ≡ false) where
    pub base_least : of_z w32 z ≡ 2147483648 → Base s n count a z i.0 2147483648
    base_least u = record { element = h; same = least_halves (compose_in s n count) (inverse_in s n count) a w e z f q u }

    pub base_negative : (of_z w32 z ≡ 2147483648 → ⊥) → Base s n count a z i.0 (nat_abs (read (pos 0 -ℤ read z)))
    base_negative u = record { element = h; same = sym (powers_negative z f q u 1073741824 (compose_in s n count) (inverse_in s n count) a refl w e refl) }
