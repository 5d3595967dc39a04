-- This file defines what one pass over the handles of a product has to show of the factor that has a generator. Document 01: "Calls on handles check
-- 17 in the handle, then 14, then 15, then 1 to 4, then 17 in what they read", and "First factor is the fastest digit: strides 1, N0, N0-as-N1..".
use Rattle.std.specs.Prelude.{ℕ, ◌+◌, ◌≤◌, ◌<◌, ◌≡◌, true, List, length, get_or, take}
use Rattle.egg.specs.declared.Factor.{Factor}
use Rattle.build_lending.specs.Lending.{no_factor}
use Rattle.theory_radix.specs.Radix.{stride}
use Rattle.group_handles.specs.Handles.{handles, sizes, generators_of, capped, Looked}
use Rattle.capi_handles_step.specs.declared.inner.Spot.{Spot}
use Rattle.capi_handles.specs.Product.{product_of}

-- The factor at place `at` has the generator x, if x is below `generators`, the count of all. Its stride is s, and `before` generators come before
-- its own.
pub record Located (hs : List Factor) (x generators at s before : ℕ) : Type 0 where
  pub earlier : before ≡ generators_of (take at hs)
  pub passed : before ≤ x
  pub strided : s ≡ capped (stride (sizes hs) at)
  pub there : x < generators → at < length hs
  pub has : x < generators → x < before + (get_or hs at no_factor).generators

-- What the pass over the list l shows is right. Where a handle does not fit, the pass shows that, and nothing else.
pub record Spotted (t l : List ℕ) (count x : ℕ) (p : Spot) : Type 0 where
  pub looked : Looked (length t) (handles (product_of l count)) p.seen
  pub letters : p.seen.fit ≡ true → p.seen.generators ≡ generators_of (handles (product_of l count))
  pub located : p.seen.fit ≡ true → Located (handles (product_of l count)) x p.seen.generators p.at p.stride p.before
