-- What the passes over a chunk of places come to. They stand in contracts of the work only, and are no part of a call's answer.
-- Assumes nothing.
use Rattle.std.specs.Prelude.{ℕ, ◌+◌, ◌*◌, ◌/◌, ◌%◌, ◌≤◌, ◌<◌, ◌≡◌, true, List, length, get_or}
use Rattle.std.specs.Prelude.{Ok}
use Rattle.egg.specs.Table.{inverse_of}
use Rattle.lists.specs.Passes.{Written}
use Rattle.group_handles.specs.declared.Group.{Group}
use Rattle.group_handles.specs.Handles.{handles, elements_of, all_fit, limited}
use Rattle.group_digits.specs.Digits.{PartQuestion, digit_of, digitwise}

-- Numbers that are all below a limit, and their copies.
pub record Copied (limit : ℕ) (from to : List ℕ) : Type 0 where
  pub small : (i : ℕ) → i < length from → get_or from i 0 < limit
  pub same : Written (length from) (λ i. get_or from i 0) to

-- The digits of k numbers for a factor of n elements, and what is left of them for the factors after it.
pub record Cut (n k : ℕ) (before digits after : List ℕ) : Type 0 where
  pub digit : Written k (λ i. get_or before i 0 % n) digits
  pub rest : Written k (λ i. get_or before i 0 / n) after

-- The sums with k digits, each times the stride, added to them have 32 bits.
pub record Addable (k stride : ℕ) (digits sums : List ℕ) : Type 0 where
  pub each : (i : ℕ) → i < k → get_or sums i 0 + stride * get_or digits i 0 ≤ 4294967295

-- The sums have nothing of this stride yet.
pub record Low (k stride : ℕ) (sums : List ℕ) : Type 0 where
  pub each : (i : ℕ) → i < k → get_or sums i 0 < stride

-- The inverses of k digits, for a factor of n elements with the stretch s, added to the sums; and what is left of the numbers.
pub record Inverted (s : List ℕ) (generators n stride k : ℕ) (before sums after added : List ℕ) : Type 0 where
  pub small : (i : ℕ) → i < k → inverse_of s generators (get_or before i 0 % n) < n
  pub rest : Written k (λ i. get_or before i 0 / n) after
  pub sum : Written k (λ i. get_or sums i 0 + stride * inverse_of s generators (get_or before i 0 % n)) added

-- The factors can have their turns over k places, which are all there; no sum has anything yet.
pub record Ready (k : ℕ) (xs ys sums : List ℕ) : Type 0 where
  pub few : k ≤ 64
  pub firsts : k ≤ length xs
  pub seconds : k ≤ length ys
  pub results : k ≤ length sums
  pub nothing : Written k (λ i. 0) sums

-- Every factor has had its turn. (For inverses ys is empty.)
pub record Gathered (asked : PartQuestion) (t : List ℕ) (g : Group) (k : ℕ) (xs ys sums : List ℕ) : Type 0 where
  pub each : (i : ℕ) → i < k → digitwise (digit_of asked t) (handles g) (get_or xs i 0) (get_or ys i 0) ≡ Ok (record { 0 = get_or sums i 0 })

-- What has been seen of the handles: they fit, the product is within its limits, and it has so many elements.
pub record Sound (len : ℕ) (g : Group) (elements : ℕ) : Type 0 where
  pub fits : all_fit len (handles g) ≡ true
  pub within : limited g ≡ true
  pub count : elements ≡ elements_of (handles g)
