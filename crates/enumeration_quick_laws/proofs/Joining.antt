-- `TwoWay` stays true, and `Grows` holds, where a step is set both ways between elements whose steps by that letter were not known.
use Prim.Native.Nat.{ℕ, suc, ◌+◌, ◌*◌, ◌<◌, ◌≤◌}
use mathlib.Core.Path.{◌≡◌, sym, ◌∙◌}
use mathlib.Core.Logic.{⊎_elim}
use mathlib.Core.List.{List}
use native.Mathlib.Omega.{arith}
use lib.ListN.{get_or}
use Rattle.egg.specs.declared.GroupElementId.{GroupElementId}
use Rattle.egg.specs.declared.GeneratorId.{GeneratorId}
use Rattle.egg.specs.Table.{start_of}
use Rattle.enumeration_run_laws.specs.Invariant.{StepKnown}
use Rattle.enumeration_loop_laws.proofs.Joining.{Joined, joined, WhichPlace, here, there, elsewhere, side, step_other, back_other}
use Rattle.enumeration_quick_run.specs.Sweeps.{set_both}
use Rattle.enumeration_quick_laws.specs.Sweeping.{TwoWay, Grows}

module _ {n count lt : ℕ} {t t' : List ℕ} {e g r : ℕ} (J : Joined n t t' e g r) (F : TwoWay n count lt t) (hg : g < n) (he : e < count) (hr : r < count)
    (new-from : get_or t (start_of n e + g) 0 ≡ 0) (new-to : get_or t (start_of n r + g) 0 ≡ 0) where
  known_kept : (x h : ℕ) → h < n → StepKnown n t x h → get_or t' (start_of n x + h) 0 ≡ get_or t (start_of n x + h) 0
  known_kept x h hh k = by (side e g r x h) where
    by : WhichPlace e g r x h → get_or t' (start_of n x + h) 0 ≡ get_or t (start_of n x + h) 0
    by (here p q) = absurd (k (rw (p, q) new-from))
    by (there p q) = absurd (k (rw (p, q) new-to))
    by (elsewhere d) = step_other J hg x h hh d

  joined_back : (x h : ℕ) → h < n → get_or t' (start_of n x + (n + h)) 0 ≡ get_or t' (start_of n x + h) 0
  joined_back x h hh = by (side e g r x h) where
    by : WhichPlace e g r x h → get_or t' (start_of n x + (n + h)) 0 ≡ get_or t' (start_of n x + h) 0
    by (here p q) = rw (p, q) (J.from_pred ∙ sym J.from_succ)
    by (there p q) = rw (p, q) (J.to_pred ∙ sym J.to_succ)
    by (elsewhere d) = back_other J hg x h hh d ∙ F.back x h hh ∙ sym (step_other J hg x h hh d)

  joined_turned : (x h y : ℕ) → h < n → get_or t' (start_of n x + h) 0 ≡ suc y → (y < count) × (get_or t' (start_of n y + h) 0 ≡ suc x)
  joined_turned x h y hh v = by (side e g r x h) where
    by : WhichPlace e g r x h → (y < count) × (get_or t' (start_of n y + h) 0 ≡ suc x)
    by (here p q) = let z : y ≡ r = omega (arith, J.from_succ, rw (p, q) at v) in rw (z, p, q) (hr, J.to_succ)
    by (there p q) = let z : y ≡ e = omega (arith, J.to_succ, rw (p, q) at v) in rw (z, p, q) (he, J.from_succ)
    by (elsewhere d) =
        let f = F.turned x h y hh (sym (step_other J hg x h hh d) ∙ v) in
        (f.0, known_kept y h hh (λ z. omega (arith, f.1)) ∙ f.1)

  joined_two_way : TwoWay n count lt t'
  joined_two_way = record {
    back = joined_back;
    turned = joined_turned;
    blank = λ x k hx hk. J.other x k hk (λ w _. ⊎_elim (λ q. omega arith) (λ q. omega arith) w) ∙ F.blank x k hx hk;
    size = J.size ∙ F.size;
  }

  joined_grows : Grows n count count t t'
  joined_grows = record {
    more = omega arith;
    known = known_kept;
    rest = λ x k hx low hk. J.other x k hk (λ w v. ⊎_elim (λ q. omega arith) (λ q. omega arith) v);
  }

pub both_two_way : {n count lt : ℕ} {t : List ℕ} → count ≤ 65535 → count * (2 * n + 4) ≤ lt → (e : GroupElementId) (g : GeneratorId) (r : GroupElementId)
    → g.0 < n → e.0 < count → r.0 < count → get_or t (start_of n e.0 + g.0) 0 ≡ 0 → get_or t (start_of n r.0 + g.0) 0 ≡ 0 → TwoWay n count lt t
    → TwoWay n count lt (set_both t n e g r) × Grows n count count t (set_both t n e g r)
both_two_way {t = t} small fits e g r hg he hr a b F =
    let J = joined t e g r hg he hr small (rw F.size fits) in
    (joined_two_way J F hg he hr a b, joined_grows J F hg he hr a b)
