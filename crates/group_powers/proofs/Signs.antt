-- Laws of powers by a signed exponent, on the machine's reading of it.
use Prim.Native.Nat.{ℕ, suc, ◌+◌, ◌-◌, ◌<◌}
use mathlib.Core.Path.{◌≡◌, refl, sym, ap, ◌∙◌, subst}
use mathlib.Core.Bool.{Bool, true, false}
use native.Mathlib.Omega.{arith}
use borrow.Author.Tests.{eq-eqb, ne_eqb, le-leb}
use lib.Dec.{T, eqb}
use lib.IntN.{ℤ, pos, negsuc, nat_abs, ◌-ℤ◌, +ℤ_idl}
use lib.Signed.{non_neg, le_z}
use mir.Syntax.{w32}
use mir.Val.{Fits, SFits, to_z, of_z}
use mir.Facts.{to_z-of_z}
use Rattle.egg.specs.declared.Refusal.{Refusal}
use Rattle.egg.specs.declared.GroupElementId.{GroupElementId}
use Rattle.egg.specs.Answers.{Reached}
use Rattle.std.specs.Prelude.{Ok, Err}
use Rattle.egg.specs.Answers.{on_reached}
use Rattle.group_powers.specs.Powers.{by_halving, negated, powers}

abbrev pub read : ℤ → ℤ
read z = to_z w32 (of_z w32 z)

pub read_is : (z : ℤ) → SFits w32 z → read z ≡ z
read_is z f = to_z-of_z {w = w32} {z = z} f

no : {A : Type 0} → false ≡ true → A
no q = absurd (subst T (sym q) tt)

sign : (z : ℤ) {b : Bool} → SFits w32 z → le_z (pos 0) (read z) ≡ b → le_z (pos 0) z ≡ b
sign z f q = ap (le_z (pos 0)) (sym (read_is z f)) ∙ q

size_of_positive : (z : ℤ) → SFits w32 z → le_z (pos 0) z ≡ true → T (non_neg z) × Fits w32 (nat_abs z)
size_of_positive (pos k) f q = (tt, record { fits = omega (arith, f.sfits) })
size_of_positive (negsuc k) f q = no q

pub positive_cast : (z : ℤ) → SFits w32 z → le_z (pos 0) (read z) ≡ true → T (non_neg (read z)) × Fits w32 (nat_abs (read z))
positive_cast z f q = subst (λ (v : ℤ). T (non_neg v) × Fits w32 (nat_abs v)) (sym (read_is z f)) (size_of_positive z f (sign z f q))

module _ (half : ℕ) (op : ℕ → ℕ → Reached) (inv : ℕ → Reached) (a : ℕ) where
  powers_pos : (z : ℤ) → le_z (pos 0) z ≡ true → by_halving (nat_abs z) op a (nat_abs z) ≡ powers half op inv a z
  unfolding powers
  powers_pos (pos k) q = refl
  powers_pos (negsuc k) q = no q

  pub powers_positive : (z : ℤ) → SFits w32 z → le_z (pos 0) (read z) ≡ true → {r : Reached} → r ≡ by_halving (nat_abs (read z)) op a (nat_abs (read z)) → r ≡ powers half op inv a z
  powers_positive z f q p = p ∙ ap (λ (v : ℤ). by_halving (nat_abs v) op a (nat_abs v)) (read_is z f) ∙ powers_pos z (sign z f q)

  module _ {b : Reached} (w : b ≡ inv a) where
    powers_ref : (z : ℤ) → le_z (pos 0) z ≡ false → {why : Refusal} → b ≡ Err why → b ≡ powers half op inv a z
    unfolding powers
    powers_ref (pos k) q e = no (sym q ∙ le-leb 0 k (omega arith))
    powers_ref (negsuc k) q e = e ∙ rw (← w, e)

    pub powers_refused : (z : ℤ) → SFits w32 z → le_z (pos 0) (read z) ≡ false → {why : Refusal} → b ≡ Err why → b ≡ powers half op inv a z
    powers_refused z f q e = powers_ref z (sign z f q) e

    module _ {i : GroupElementId} (e : b ≡ Ok i) where
      powers_neg : (k : ℕ) → negated (eqb (suc k) (half + half)) half op i.0 (suc k) ≡ powers half op inv a (negsuc k)
      unfolding powers
      powers_neg k = rw (← w, e)

      -- The least, which has no negation.
      powers_low : (z : ℤ) → SFits w32 z → le_z (pos 0) z ≡ false → of_z w32 z ≡ 2147483648 → half + half ≡ 2147483648
          → on_reached (by_halving half op i.0 half) (λ x. op x x) ≡ powers half op inv a z
      powers_low (pos k) f q s d = no (sym q ∙ le-leb 0 k (omega arith))
      powers_low (negsuc k) f q s d =
          let h : suc k ≡ half + half = omega (arith, s, d, f.sfits) in
          ap (λ (t : Bool). negated t half op i.0 (suc k)) (sym (eq-eqb (suc k) (half + half) h)) ∙ powers_neg k

      module _ (z : ℤ) (f : SFits w32 z) (q : le_z (pos 0) (read z) ≡ false) (s : of_z w32 z ≡ 2147483648) (d : half + half ≡ 2147483648)
          {r : Reached} (p : r ≡ by_halving half op i.0 half)
        where
          least : on_reached r (λ x. op x x) ≡ powers half op inv a z
          least = ap (λ (v : Reached). on_reached v (λ x. op x x)) p ∙ powers_low z f (sign z f q) s d

          pub least_refused : {why : Refusal} → r ≡ Err why → r ≡ powers half op inv a z
          least_refused h = h ∙ ap (λ (v : Reached). on_reached v (λ x. op x x)) (sym h) ∙ least

          pub least_squared : {x : GroupElementId} → r ≡ Ok x → {v : Reached} → v ≡ op x.0 x.0 → v ≡ powers half op inv a z
          least_squared h g = g ∙ ap (λ (v : Reached). on_reached v (λ x. op x x)) (sym h) ∙ least

      -- All the others.
      powers_other : (z : ℤ) → SFits w32 z → le_z (pos 0) z ≡ false → (of_z w32 z ≡ 2147483648 → ⊥) → half + half ≡ 2147483648
          → by_halving (nat_abs z) op i.0 (nat_abs z) ≡ powers half op inv a z
      powers_other (pos k) f q s d = no (sym q ∙ le-leb 0 k (omega arith))
      powers_other (negsuc k) f q s d =
          let h : suc k ≡ half + half → ⊥ = λ y. s (omega (arith, y, d)) in
          ap (λ (t : Bool). negated t half op i.0 (suc k)) (sym (ne_eqb (suc k) (half + half) h)) ∙ powers_neg k

-- The negation of a negative number that is not the least.
minus : (k : ℕ) → pos 0 -ℤ negsuc k ≡ pos (suc k)
minus k = +ℤ_idl (pos (suc k))

record Negates (z : ℤ) : Type 0 where
  fits : SFits w32 (pos 0 -ℤ read z)
  size : nat_abs (pos 0 -ℤ read z) ≡ nat_abs z
  sign_is : T (non_neg (pos 0 -ℤ read z))

negates : (z : ℤ) → SFits w32 z → le_z (pos 0) z ≡ false → (of_z w32 z ≡ 2147483648 → ⊥) → Negates z
negates (pos k) f q s = no (sym q ∙ le-leb 0 k (omega arith))
negates (negsuc k) f q s =
    let l : suc k < 2147483648 = lower k f.sfits s in
    let e : pos 0 -ℤ read (negsuc k) ≡ pos (suc k) = ap (λ (v : ℤ). pos 0 -ℤ v) (read_is (negsuc k) f) ∙ minus k in
    record {
      fits = subst (SFits w32) (sym e) (record { sfits = l });
      size = ap nat_abs e;
      sign_is = subst (λ (v : ℤ). T (non_neg v)) (sym e) tt;
    }
  where
    lower : (k : ℕ) → k < 2147483648 → (4294967296 - suc k ≡ 2147483648 → ⊥) → suc k < 2147483648
    lower k h s = omega arith

module _ (z : ℤ) (f : SFits w32 z) (q : le_z (pos 0) (read z) ≡ false) (s : of_z w32 z ≡ 2147483648 → ⊥) where
  n : Negates z
  n = negates z f (sign z f q) s

  pub negative_fits : SFits w32 (pos 0 -ℤ read z)
  negative_fits = n.fits

  back : read (pos 0 -ℤ read z) ≡ pos 0 -ℤ read z
  back = read_is (pos 0 -ℤ read z) negative_fits

  pub negative_cast : T (non_neg (read (pos 0 -ℤ read z))) × Fits w32 (nat_abs (read (pos 0 -ℤ read z)))
  negative_cast =
      subst (λ (v : ℤ). T (non_neg v) × Fits w32 (nat_abs v)) (sym back)
      (n.sign_is, record { fits = small (pos 0 -ℤ read z) n.sign_is negative_fits })
    where
      small : (y : ℤ) → T (non_neg y) → SFits w32 y → nat_abs y < 4294967296
      small (pos k) t g = omega (arith, g.sfits)
      small (negsuc k) t g = absurd t

  pub powers_negative : (half : ℕ) (op : ℕ → ℕ → Reached) (inv : ℕ → Reached) (a : ℕ) → half + half ≡ 2147483648 → {b : Reached} → b ≡ inv a → {i : GroupElementId} → b ≡ Ok i
      → {r : Reached} → r ≡ by_halving (nat_abs (read (pos 0 -ℤ read z))) op i.0 (nat_abs (read (pos 0 -ℤ read z))) → r ≡ powers half op inv a z
  powers_negative half op inv a d {b} w {i} e {r} p =
      let g : nat_abs (read (pos 0 -ℤ read z)) ≡ nat_abs z = ap nat_abs back ∙ n.size in
      p ∙ ap (λ (k : ℕ). by_halving k op i.0 k) g ∙ powers_other half op inv a w e z f (sign z f q) s d
