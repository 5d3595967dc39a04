-- How long a text can be: ten digits a number, so that every text ends far below what a usize can name.
use Prim.Native.Nat.{ℕ, zero, suc, ◌+◌, ◌*◌, ◌/◌, ◌%◌, ◌≤◌, ◌<◌, zero-le}
use mathlib.Core.Bool.{Bool, true, false}
use mathlib.Core.List.{List, [], ◌∷◌, ◌++◌}
use native.Mathlib.Nat.{mul-le-mul}
use native.Mathlib.Omega.{arith}
use lib.ListN.{length, length-append}
use lib.Dec.{ltb}
use Rattle.egg.specs.Table.{pick, length_of, inverse_of, step_of}
use Rattle.listing_lines.specs.Text.{EndFits, digits, steps_text, line_text, lines_text, group_text, refused_text}

digits_length : (k x : ℕ) → length (digits k x) ≤ k
unfolding digits
digits_length zero x = zero-le
digits_length (suc k) x = by (ltb x 10) (digits_length k (x / 10)) where
  by : (b : Bool) → length (digits k (x / 10)) ≤ k → length (pick b ((48 + x) ∷ []) (digits k (x / 10) ++ (48 + x % 10) ∷ [])) ≤ suc k
  by true h = omega arith
  by false h = rw length-append (omega arith)

module _ (t : List ℕ) (n : ℕ) where
  steps_length : (k e g : ℕ) → length (steps_text k t n e g) ≤ 11 * k
  unfolding steps_text
  steps_length zero e g = zero-le
  steps_length (suc k) e g =
      rw length-append (omega (arith, digits_length 10 (step_of t n e g), steps_length k e (g + 1)))

  line_length : (e : ℕ) → length (line_text t n e) ≤ 33 + 11 * n
  line_length e =
      simp length-append
      (omega (arith, digits_length 10 e, digits_length 10 (inverse_of t n e), digits_length 10 (length_of t n e), steps_length n e 0))

  lines_length : (k e : ℕ) → length (lines_text k t n e) ≤ k * (33 + 11 * n)
  unfolding lines_text
  lines_length zero e = zero-le
  lines_length (suc k) e = rw length-append (omega (arith, line_length e, lines_length k (e + 1)))

  pub group_length : (count : ℕ) → length (group_text t n count) ≤ 28 + count * (33 + 11 * n)
  group_length count = simp length-append (omega (arith, digits_length 10 n, digits_length 10 count, lines_length count 0))

  pub group_ends : {count : ℕ} → n < 256 → count < 4294967296 → EndFits 0 (group_text t n count)
  group_ends {count} h k =
      let a : count ≤ 4294967295 = omega arith in
      let b : 33 + 11 * n ≤ 2838 = omega arith in
      record { fits = omega (arith, group_length count, mul-le-mul a b) }

pub refused_length : (number : ℕ) → length (refused_text number) ≤ 19
refused_length number = simp length-append (omega (arith, digits_length 10 number))

pub refused_ends : (number : ℕ) → EndFits 0 (refused_text number)
refused_ends number = record { fits = omega (arith, refused_length number) }
