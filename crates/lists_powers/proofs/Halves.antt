-- One round at one place: from the power by half of an exponent to that by the exponent; and the power by 2^31, which `powi` has as a square.
-- Assumes nothing.
use Prim.Native.Nat.{ℕ, ◌/◌, ◌%◌, ◌<◌}
use mathlib.Core.Path.{◌≡◌, refl, sym, ap, ◌∙◌}
use mathlib.Core.Logic.{◌⊎◌, inl, inr}
use mathlib.Core.Bool.{Bool, false}
use native.Mathlib.Nat.{eq-zero-or-pos}
use native.Mathlib.Omega.{arith}
use borrow.Author.Tests.{eq-eqb, ne_eqb}
use lib.Dec.{eqb}
use lib.IntN.{ℤ, pos}
use lib.Signed.{le_z}
use mir.Syntax.{w32}
use mir.Val.{SFits, of_z}
use Rattle.egg.specs.declared.GroupElementId.{GroupElementId}
use Rattle.egg.specs.Answers.{Reached}
use Rattle.std.specs.Prelude.{Ok, Err}
use Rattle.egg.specs.Table.{pick}
use Rattle.group_powers.specs.Powers.{by_halving, powers}
use Rattle.group_powers.proofs.Powers.{power_none, power_stop, square_stop, power_even, power_odd}
use Rattle.group_powers.proofs.Signs.{read, least_refused, least_squared}

abbrev number : ℕ → Reached
number x = Ok (record { 0 = x })

module _ (op : ℕ → ℕ → Reached) (b m : ℕ) {x y z f out : ℕ} (root : by_halving (m / 2) op b (m / 2) ≡ number x) (square : op x x ≡ number y) (product : op y f ≡ number z) where
  by_bit : 0 < m → f ≡ pick (eqb (m % 2) 0) 0 b → out ≡ pick (eqb (m % 2) 0) y z → (m % 2 ≡ 0) ⊎ (0 < m % 2) → by_halving m op b m ≡ number out
  by_bit h q o (inl e) =
      let some : m ≡ 0 → ⊥ = λ u. omega arith in
      let is : out ≡ y = o ∙ ap (λ (t : Bool). pick t y z) (eq-eqb (m % 2) 0 e) in
      sym (power_even op b some refl root refl square e) ∙ ap number (sym is)
  by_bit h q o (inr u) =
      let some : m ≡ 0 → ⊥ = λ u. omega arith in
      let odd : m % 2 ≡ 0 → ⊥ = λ e. omega arith in
      let is : out ≡ z = o ∙ ap (λ (t : Bool). pick t y z) (ne_eqb (m % 2) 0 odd) in
      let by : f ≡ b = q ∙ ap (λ (t : Bool). pick t 0 b) (ne_eqb (m % 2) 0 odd) in
      sym (power_odd op b some refl root refl square odd refl) ∙ ap (op y) (sym by) ∙ product ∙ ap number (sym is)

  by_size : f ≡ pick (eqb (m % 2) 0) 0 b → out ≡ pick (eqb m 0) 0 (pick (eqb (m % 2) 0) y z) → (m ≡ 0) ⊎ (0 < m) → by_halving m op b m ≡ number out
  by_size q o (inl e) =
      sym (power_none op b e) ∙ ap number (sym (o ∙ ap (λ (t : Bool). pick t 0 (pick (eqb (m % 2) 0) y z)) (eq-eqb m 0 e)))
  by_size q o (inr h) =
      let some : m ≡ 0 → ⊥ = λ u. omega arith in
      by_bit h q (o ∙ ap (λ (t : Bool). pick t 0 (pick (eqb (m % 2) 0) y z)) (ne_eqb m 0 some)) (eq-zero-or-pos (m % 2))

  pub next_power : f ≡ pick (eqb (m % 2) 0) 0 b → out ≡ pick (eqb m 0) 0 (pick (eqb (m % 2) 0) y z) → by_halving m op b m ≡ number out
  next_power q o = by_size q o (eq-zero-or-pos m)

abbrev half : ℕ
half = 1073741824

abbrev whole : ℕ
whole = 2147483648

module _ (op : ℕ → ℕ → Reached) (inv : ℕ → Reached) (a : ℕ) {back : Reached} (w : back ≡ inv a) {i : GroupElementId} (e : back ≡ Ok i)
    (z : ℤ) (f : SFits w32 z) (q : le_z (pos 0) (read z) ≡ false) (s : of_z w32 z ≡ 2147483648)
  where
    some : whole ≡ 0 → ⊥
    some u = omega arith

    squared : {x : GroupElementId} → by_halving half op i.0 half ≡ Ok x → (v : Reached) → op x.0 x.0 ≡ v → op x.0 x.0 ≡ by_halving whole op i.0 whole
    squared h (Err why) g = square_stop op i.0 some refl h refl g
    squared h (Ok y) g = g ∙ power_even op i.0 some refl h refl g refl

    rooted : (r : Reached) → by_halving half op i.0 half ≡ r → powers half op inv a z ≡ by_halving whole op i.0 whole
    rooted (Err why) h = sym (least_refused half op inv a w e z f q s refl refl h) ∙ power_stop op i.0 some refl h
    rooted (Ok x) h = sym (least_squared half op inv a w e z f q s refl refl h refl) ∙ squared h (op x.0 x.0) refl

    pub least_halves : powers half op inv a z ≡ by_halving whole op i.0 whole
    least_halves = rooted (by_halving half op i.0 half) refl
