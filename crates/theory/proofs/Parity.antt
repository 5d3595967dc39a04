-- Every relation has an even number of letters, so words that are equal under the relations are both of even or both of odd length.
use Prim.Native.Nat.{ℕ, zero, suc, ◌+◌, ◌*◌, ◌%◌}
use mathlib.Core.Path.{◌≡◌, refl, sym, ap, ◌∙◌}
use mathlib.Core.List.{List, ◌++◌}
use native.Mathlib.Omega.{arith}
use lib.ListN.{length, length-append}
use Rattle.theory.specs.Presentation.{alternate, Relator, double, pair, Equiv, insert, same, turn, join}

alternate_length : (i j k : ℕ) → length (alternate i j k) ≡ 2 * k
alternate_length i j zero = refl
alternate_length i j (suc k) = omega (arith, alternate_length i j k)

relator_even : {n : ℕ} {m : ℕ → ℕ → ℕ} {r : List ℕ} → Relator n m r → length r % 2 ≡ 0
relator_even (double h) = refl
relator_even {m = m} (pair {i} {j} h k) = omega (arith, alternate_length i j (m i j))

even_between : (a b r x y : ℕ) → x ≡ a + b → y ≡ a + r + b → r % 2 ≡ 0 → x % 2 ≡ y % 2
even_between a b r x y p q e = omega arith

pub equiv_parity : {n : ℕ} {m : ℕ → ℕ → ℕ} {u v : List ℕ} → Equiv n m u v → length u % 2 ≡ length v % 2
equiv_parity (insert u {r} v h) =
    even_between (length u) (length v) (length r) _ _ (length-append u v) (length-append (u ++ r) v ∙ ap (λ (k : ℕ). k + length v) (length-append u r)) (relator_even h)
equiv_parity same = refl
equiv_parity (turn h) = sym (equiv_parity h)
equiv_parity (join h k) = equiv_parity h ∙ equiv_parity k
