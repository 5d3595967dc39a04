-- Laws of the rounds, over all places.
-- Assumes nothing.
use Prim.Native.Nat.{ℕ, ◌+◌, ◌/◌, ◌^◌}
use mathlib.Core.Path.{◌≡◌, sym, ap, ◌∙◌, subst}
use mathlib.Core.List.{List}
use native.Mathlib.Nat.{div-one}
use native.Mathlib.Omega.{arith}
use lib.IntN.{ℤ}
use lib.ListN.{length, get_or, replicate, get_or-replicate}
use lib.Pow.{shr-shr, shr_mono}
use Rattle.std.specs.Prelude.{Ok}
use Rattle.factor_questions.specs.Walks.{compose_in}
use Rattle.group_powers.specs.Powers.{by_halving}
use Rattle.group_powers.proofs.Powers.{power_none}
use Rattle.lists.specs.Passes.{Written}
use Rattle.lists_walks.specs.Products.{Products}
use Rattle.lists_powers.specs.Powers.{Powered}
use Rattle.lists_powers.specs.Rounds.{Bases, Largest, factor_at, kept_at, Raised}
use Rattle.lists_powers.proofs.Halves.{next_power}

module _ {s : List ℕ} {n count : ℕ} {bs ks : List ℕ} where
  -- Before the first round nothing is left of any exponent, and every power is the identity.
  pub raised_none : {j most : ℕ} {xs : List ℕ} → Largest ks (length ks) most → most / 2 ^ j ≡ 0 → xs ≡ replicate (length ks) 0 → Raised s n count bs ks j xs
  raised_none {j} {most} {xs} l e z =
      record {
        each = λ i h.
            let none : get_or ks i 0 / 2 ^ j ≡ 0 = omega (arith, shr_mono j (l.each i h), e) in
            let is : get_or xs i 0 ≡ 0 = ap (λ (v : List ℕ). get_or v i 0) z ∙ get_or-replicate (length ks) i 0 0 h in
            sym (power_none (compose_in s n count) (get_or bs i 0) none) ∙ ap (λ (v : ℕ). Ok (record { 0 = v })) (sym is);
      }

  pub raised_at : {j k : ℕ} {xs : List ℕ} → Raised s n count bs ks j xs → j ≡ k → Raised s n count bs ks k xs
  raised_at {xs = xs} R e = subst (λ (m : ℕ). Raised s n count bs ks m xs) e R

  pub raised_next : {j : ℕ} {xs ys ms zs out : List ℕ} → Raised s n count bs ks (j + 1) xs → Written (length bs) (factor_at bs ks j) ms → Products s n count xs xs ys → Products s n count ys ms zs
      → Written (length ks) (kept_at ks j ys zs) out → length bs ≡ length ks → length xs ≡ length ks → length ys ≡ length ks → Raised s n count bs ks j out
  raised_next {j} R F P Q K b x y =
      record {
        each = λ i h.
            next_power (compose_in s n count) (get_or bs i 0) (get_or ks i 0 / 2 ^ j)
            (ap (λ (m : ℕ). by_halving m (compose_in s n count) (get_or bs i 0) m) (shr-shr (get_or ks i 0) j 1) ∙ R.each i h)
            (P.each i (omega (arith, x))).product
            (Q.each i (omega (arith, y))).product
            (F.each i (omega (arith, b)))
            (K.each i h);
      }

  -- After the last round each exponent is whole.
  pub raised_all : {a : List ℕ} {exponents : List ℤ} {xs : List ℕ} → Bases s n count a exponents (length a) bs ks → length ks ≡ length a → Raised s n count bs ks 0 xs → Powered s n count a exponents xs
  raised_all {a} B l R =
      record {
        each = λ i h.
            record {
              element = (B.each i h).element;
              power =
                  (B.each i h).same ∙ ap (λ (m : ℕ). by_halving m (compose_in s n count) (get_or bs i 0) m) (sym (div-one (get_or ks i 0)))
                  ∙ R.each i (omega (arith, l));
            };
      }
