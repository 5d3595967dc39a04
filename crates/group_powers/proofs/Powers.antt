-- Laws of powers.
use Prim.Native.Nat.{ℕ, zero, suc, ◌-◌, ◌/◌, ◌%◌, ◌≤◌}
use mathlib.Core.Path.{◌≡◌, refl, sym, ap, ◌∙◌, subst}
use native.Mathlib.Nat.{le_refl}
use native.Mathlib.Omega.{arith}
use Rattle.egg.specs.declared.Refusal.{Refusal}
use Rattle.egg.specs.declared.GroupElementId.{GroupElementId}
use Rattle.egg.specs.Answers.{Reached}
use Rattle.std.specs.Prelude.{Ok, Err}
use Rattle.egg.specs.Answers.{on_reached}
use Rattle.group_powers.specs.Powers.{odd_too, by_halving}

halves_enough : (op : ℕ → ℕ → Reached) (a fuel fuel' k : ℕ) → k ≤ fuel → k ≤ fuel' → by_halving fuel op a k ≡ by_halving fuel' op a k
unfolding by_halving
halves_enough op a zero zero k h h' = refl
halves_enough op a zero (suc fuel') zero h h' = refl
halves_enough op a zero (suc fuel') (suc k) h h' = absurd (omega arith)
halves_enough op a (suc fuel) zero zero h h' = refl
halves_enough op a (suc fuel) zero (suc k) h h' = absurd (omega arith)
halves_enough op a (suc fuel) (suc fuel') zero h h' = refl
halves_enough op a (suc fuel) (suc fuel') (suc k) h h' =
    ap (λ (r : Reached). on_reached r (λ x. on_reached (op x x) (λ y. odd_too op a y (suc k % 2))))
    (halves_enough op a fuel fuel' (suc k / 2) (omega arith) (omega arith))

halves_suc : (op : ℕ → ℕ → Reached) (a k : ℕ) → by_halving (suc k) op a (suc k)
    ≡ on_reached (by_halving (suc k / 2) op a (suc k / 2)) (λ x. on_reached (op x x) (λ y. odd_too op a y (suc k % 2)))
unfolding by_halving
halves_suc op a k =
    ap (λ (r : Reached). on_reached r (λ x. on_reached (op x x) (λ y. odd_too op a y (suc k % 2))))
    (halves_enough op a k (suc k / 2) (suc k / 2) (omega arith) (le_refl (suc k / 2)))

-- One law for each answer of a power.
module _ (op : ℕ → ℕ → Reached) (a : ℕ) where
  pub power_none : {k : ℕ} → k ≡ 0 → Ok (record { 0 = 0 }) ≡ by_halving k op a k
  unfolding by_halving
  power_none z = rw z

  module _ {k : ℕ} (p : k ≡ 0 → ⊥) {r : Reached} (q : r ≡ by_halving (k / 2) op a (k / 2)) where
    opened : on_reached r (λ x. on_reached (op x x) (λ y. odd_too op a y (k % 2))) ≡ by_halving k op a k
    opened =
        let d : k ≡ suc (k - 1) = omega arith in
        let z : on_reached (by_halving (k / 2) op a (k / 2)) (λ x. on_reached (op x x) (λ y. odd_too op a y (k % 2))) ≡ by_halving k op a k =
        subst (λ (n : ℕ). on_reached (by_halving (n / 2) op a (n / 2)) (λ x. on_reached (op x x) (λ y. odd_too op a y (n % 2))) ≡ by_halving n op a n) (sym d) (sym (halves_suc op a (k - 1))) in
        ap (λ (v : Reached). on_reached v (λ x. on_reached (op x x) (λ y. odd_too op a y (k % 2)))) q ∙ z

    pub power_stop : {why : Refusal} → r ≡ Err why → r ≡ by_halving k op a k
    power_stop e = e ∙ ap (λ (v : Reached). on_reached v (λ x. on_reached (op x x) (λ y. odd_too op a y (k % 2)))) (sym e) ∙ opened

    module _ {x : GroupElementId} (e : r ≡ Ok x) {s : Reached} (w : s ≡ op x.0 x.0) where
      squared : on_reached s (λ y. odd_too op a y (k % 2)) ≡ by_halving k op a k
      squared =
          ap (λ (v : Reached). on_reached v (λ y. odd_too op a y (k % 2))) w
          ∙ ap (λ (v : Reached). on_reached v (λ x. on_reached (op x x) (λ y. odd_too op a y (k % 2)))) (sym e) ∙ opened

      pub square_stop : {why : Refusal} → s ≡ Err why → s ≡ by_halving k op a k
      square_stop z = z ∙ ap (λ (v : Reached). on_reached v (λ y. odd_too op a y (k % 2))) (sym z) ∙ squared

      module _ {y : GroupElementId} (z : s ≡ Ok y) where
        last : odd_too op a y.0 (k % 2) ≡ by_halving k op a k
        last = ap (λ (v : Reached). on_reached v (λ y. odd_too op a y (k % 2))) (sym z) ∙ squared

        pub power_even : k % 2 ≡ 0 → Ok y ≡ by_halving k op a k
        power_even u = ap (λ (n : ℕ). odd_too op a y.0 n) (sym u) ∙ last

        pub power_odd : (k % 2 ≡ 0 → ⊥) → {v : Reached} → v ≡ op y.0 a → v ≡ by_halving k op a k
        power_odd u {v} t =
            let o : k % 2 ≡ suc (k % 2 - 1) = omega arith in
            t ∙ ap (λ (n : ℕ). odd_too op a y.0 n) (sym o) ∙ last
