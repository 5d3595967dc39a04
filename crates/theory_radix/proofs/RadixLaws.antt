-- The digits of a number and the number of the digits.
use mathlib.Core.Path.{◌≡◌, refl, sym, ◌∙◌, ap}
use mathlib.Core.List.{List, [], ◌∷◌}
use Prim.Native.Nat.{ℕ, zero, suc, ◌+◌, ◌*◌, ◌-◌, ◌/◌, ◌%◌, ◌<◌, ◌≤◌}
use native.Mathlib.Nat.{mod-lt, mod-eq_of_lt, mod-add-div, mod-one, mod-le, div-eq_of_lt, div-one, div-lt_iff_lt-mul, div-div-eq-div-mul, div-mul-le_self}
use native.Mathlib.Nat.{add-mul-div_left, add-mul-mod_self_left, mul-one, mul_comm, mul_assoc, mul_left_comm, mul-add, mul-sub, zero-add}
use native.Mathlib.Nat.{mul-le-mul_left, mul-le-mul_right, zero-div, eq-zero-or-pos, zero-mul, le_trans}
use native.Mathlib.Omega.{arith}
use mathlib.Core.Logic.{⊎_elim}
use lib.ListN.{length, get_or, set}
use lib.Seq.{get_or-set_same, get_or-set_other}
use Rattle.theory_radix.specs.Radix.{count, stride, split, join, Digits, none, more, project, replace}

-- One digit d, and the number x of the others.
module _ {N d : ℕ} (h : d < N) (x : ℕ) where
  pub low : (d + N * x) % N ≡ d
  low = rw (add-mul-mod_self_left, mod-eq_of_lt h)

  pub high : (d + N * x) / N ≡ x
  high = let p : 0 < N = omega arith in rw (add-mul-div_left d x p, div-eq_of_lt h, zero-add)

  pub joined_small : {M : ℕ} → x < M → d + N * x < N * M
  joined_small {M} k = omega (arith, mul-le-mul_left N k)

module _ (N M e : ℕ) (h : e < N * M) where
  pub range_pos : 0 < N
  range_pos = ⊎_elim (λ z. let k : e < 0 * M = rw (← z) h in absurd (omega (arith, zero-mul M))) (λ p. p) (eq-zero-or-pos N)

  pub low_small : e % N < N
  low_small = mod-lt e range_pos

  pub high_small : e / N < M
  high_small = (div-lt_iff_lt-mul range_pos).1 (rw (mul_comm M N) h)

-- Splitting and joining undo each other, and stay in range.
pub join_split : (Ns : List ℕ) (e : ℕ) → e < count Ns → join Ns (split Ns e) ≡ e
join_split [] e h = omega arith
join_split (N ∷ Ns) e h = rw (join_split Ns (e / N) (high_small N (count Ns) e h)) (mod-add-div e N)

pub split_digits : (Ns : List ℕ) (e : ℕ) → e < count Ns → Digits Ns (split Ns e)
split_digits [] e h = none
split_digits (N ∷ Ns) e h = more (low_small N (count Ns) e h) (split_digits Ns (e / N) (high_small N (count Ns) e h))

pub join_small : {Ns ds : List ℕ} → Digits Ns ds → join Ns ds < count Ns
join_small none = omega arith
join_small (more {Ns = Ns} {ds} h t) = joined_small h (join Ns ds) (join_small t)

pub split_join : {Ns ds : List ℕ} → Digits Ns ds → split Ns (join Ns ds) ≡ ds
split_join none = refl
split_join (more {Ns = Ns} {ds} h t) = rw (low h (join Ns ds), high h (join Ns ds), split_join t)

pub split_length : (Ns : List ℕ) (e : ℕ) → length (split Ns e) ≡ length Ns
split_length [] e = refl
split_length (N ∷ Ns) e = ap suc (split_length Ns (e / N))

pub digits_below : {Ns ds : List ℕ} → Digits Ns ds → (f : ℕ) → get_or ds f 0 < get_or Ns f 1
digits_below none f = omega arith
digits_below (more h t) zero = h
digits_below (more h t) (suc f) = digits_below t f

pub digits_set : {Ns ds : List ℕ} → Digits Ns ds → (f x : ℕ) → x < get_or Ns f 1 → Digits Ns (set ds f x)
digits_set none f x k = none
digits_set (more h t) zero x k = more k t
digits_set (more h t) (suc f) x k = more h (digits_set t f x k)

-- `project` is the digit.
pub project_is : (Ns : List ℕ) (f e : ℕ) → project Ns f e ≡ get_or (split Ns e) f 0
project_is [] f e = mod-one (e / stride [] f)
project_is (N ∷ Ns) zero e = rw div-one
project_is (N ∷ Ns) (suc f) e = rw (← div-div-eq-div-mul) (project_is Ns f (e / N))

pub project_small : (Ns : List ℕ) (f e : ℕ) → e < count Ns → project Ns f e < get_or Ns f 1
project_small Ns f e h = rw (project_is Ns f e) (digits_below (split_digits Ns e h) f)

project_join : {Ns ds : List ℕ} → Digits Ns ds → (f : ℕ) → project Ns f (join Ns ds) ≡ get_or ds f 0
project_join {Ns} {ds} t f = project_is Ns f (join Ns ds) ∙ ap (λ l. get_or l f 0) (split_join t)

-- The strides, each from the one before.
pub stride_next : (Ns : List ℕ) (f : ℕ) → stride Ns (suc f) ≡ stride Ns f * get_or Ns f 1
stride_next [] zero = refl
stride_next [] (suc f) = refl
stride_next (N ∷ Ns) zero = mul_comm N 1
stride_next (N ∷ Ns) (suc f) = ap (λ x. N * x) (stride_next Ns f) ∙ sym (mul_assoc N (stride Ns f) (get_or Ns f 1))

pub stride_small : (Ns : List ℕ) (f : ℕ) → 0 < count Ns → stride Ns f ≤ count Ns
stride_small [] zero h = h
stride_small [] (suc f) h = h
stride_small (N ∷ Ns) zero h = h
stride_small (N ∷ Ns) (suc f) h = mul-le-mul_left N (stride_small Ns f (rw zero-div at (high_small N (count Ns) 0 h)))

-- What is taken away is there.
pub projected_fits : (Ns : List ℕ) (f e : ℕ) → project Ns f e * stride Ns f ≤ e
projected_fits Ns f e = le_trans (mul-le-mul_right (stride Ns f) (mod-le (e / stride Ns f) (get_or Ns f 1))) (div-mul-le_self e (stride Ns f))

one_digit_on : (N r q A B : ℕ) → A ≤ q → r + N * q - N * A + N * B ≡ r + N * (q - A + B)
one_digit_on N r q A B h = rw (mul-add, mul-sub) (omega (arith, mul-le-mul_left N h))

pub replace_is : (Ns : List ℕ) (f e x : ℕ) → f < length Ns → e < count Ns → replace Ns f e x ≡ join Ns (set (split Ns e) f x)
replace_is [] f e x h k = absurd (omega arith)
replace_is (N ∷ Ns) zero e x h k =
    simp (div-one, mul-one, join_split Ns (e / N) (high_small N (count Ns) e k)) (omega (arith, mod-add-div e N))
replace_is (N ∷ Ns) (suc f) e x h k =
    let q = e / N in
    let p = project Ns f q in
    rw (
      ← replace_is Ns f q x (omega arith) (high_small N (count Ns) e k),
      ← one_digit_on N (e % N) q (p * stride Ns f) (x * stride Ns f) (projected_fits Ns f q),
      mod-add-div,
      ← div-div-eq-div-mul,
      mul_left_comm p N (stride Ns f),
      mul_left_comm x N (stride Ns f),
    )

pub replace_small : (Ns : List ℕ) (f e x : ℕ) → f < length Ns → e < count Ns → x < get_or Ns f 1 → replace Ns f e x < count Ns
replace_small Ns f e x h k l = rw (replace_is Ns f e x h k) (join_small (digits_set (split_digits Ns e k) f x l))

-- The digits after a replacement.
pub project_same : (Ns : List ℕ) (f e x : ℕ) → f < length Ns → e < count Ns → x < get_or Ns f 1 → project Ns f (replace Ns f e x) ≡ x
project_same Ns f e x h k l =
    ap (project Ns f) (replace_is Ns f e x h k) ∙ project_join (digits_set (split_digits Ns e k) f x l) f
    ∙ get_or-set_same (split Ns e) f x 0 (rw (split_length Ns e) h)

pub project_other : (Ns : List ℕ) (f g e x : ℕ) → f < length Ns → e < count Ns → x < get_or Ns f 1 → ¬ (g ≡ f)
    → project Ns g (replace Ns f e x) ≡ project Ns g e
project_other Ns f g e x h k l n =
    ap (project Ns g) (replace_is Ns f e x h k) ∙ project_join (digits_set (split_digits Ns e k) f x l) g
    ∙ get_or-set_other (split Ns e) f g x 0 n ∙ sym (project_is Ns g e)
