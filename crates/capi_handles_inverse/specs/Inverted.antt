-- This file defines what one pass over the handles of a product has to show of the inverse of an element. Document 01: "Calls on handles check 17 in
-- the handle, then 14, then 15, then 1 to 4, then 17 in what they read", and "First factor is the fastest digit: strides 1, N0, N0-as-N1..".
use Rattle.std.specs.Prelude.{ℕ, ◌≤◌, ◌<◌, ◌≡◌, true, false, List, length}
use Rattle.std.specs.Prelude.{Ok}
use Rattle.egg.specs.Factor.{refused_reach}
use Rattle.group_handles.specs.Handles.{handles, elements_of, Looked}
use Rattle.group_digits.specs.Digits.{inverts}
use Rattle.capi_handles_inverse.specs.declared.inner.DigitInverses.{DigitInverses}
use Rattle.capi_handles.specs.Product.{product_of}

-- What the pass over the list l shows is right about the inverse of a, where every handle fits and the product's numbers have 32 bits: it is the sum
-- that was found, or 17 where the inverse of a digit is out of range.
pub record Inverted (t l : List ℕ) (count a : ℕ) (p : DigitInverses) : Type 0 where
  pub looked : Looked (length t) (handles (product_of l count)) p.seen
  pub lost : p.seen.fit ≡ true → elements_of (handles (product_of l count)) ≤ 4294967295 → p.right ≡ false → refused_reach 17 0 ≡ inverts t (handles (product_of l count)) a
  pub small : p.seen.fit ≡ true → elements_of (handles (product_of l count)) ≤ 4294967295 → p.right ≡ true → p.sum < 4294967296
  pub found : p.seen.fit ≡ true → elements_of (handles (product_of l count)) ≤ 4294967295 → p.right ≡ true
      → Ok (record { 0 = p.sum }) ≡ inverts t (handles (product_of l count)) a
