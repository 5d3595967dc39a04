-- Laws of the chunks, one after another.
-- Assumes nothing.
use Prim.Native.Nat.{ℕ, ◌+◌, ◌-◌, ◌≤◌, ◌<◌}
use mathlib.Core.Path.{◌≡◌, refl}
use mathlib.Core.List.{List}
use native.Mathlib.Omega.{arith}
use borrow.Rule.Slice.PartMut.{mid_of, put_mid, mid_len}
use lib.IntN.{ℤ, pos}
use lib.ListN.{length, take, get_or, replicate}
use lib.Seq.{length-take-le}
use Rattle.lists.specs.Passes.{ChunkEnd}
use Rattle.lists.proofs.Parts.{mid_at, put_back}
use Rattle.lists_powers.specs.Powers.{Power, Powered}

-- The front of a list of our own, as long as the chunk.
pub front_long : {k : ℕ} → k ≤ 64 → length (take k (replicate {A = ℕ} 64 0)) ≡ k
front_long {k} h = length-take-le k (replicate 64 0) h

-- The invariant: the powers at the first i places.
pub record Powering (s : List ℕ) (n count : ℕ) (a : List ℕ) (exponents : List ℤ) (i : ℕ) (results : List ℕ) : Type 0 where
  pub within : i ≤ length a
  pub each : (k : ℕ) → k < i → Power s n count (get_or a k 0) (get_or exponents k (pos 0)) (get_or results k 0)

module _ {s : List ℕ} {n count : ℕ} {a : List ℕ} {exponents : List ℤ} where
  pub powering : {results : List ℕ} → Powering s n count a exponents 0 results
  powering = record { within = omega arith; each = λ k h. absurd (omega arith) }

  pub powering_all : {i : ℕ} {results : List ℕ} → Powering s n count a exponents i results → length a ≤ i → Powered s n count a exponents results
  powering_all P h = record { each = λ k b. P.each k (omega arith) }

  module _ {i end : ℕ} {results part : List ℕ} (P : Powering s n count a exponents i results) (c : ChunkEnd 64 i (length a) end) (room : length a ≤ length results)
      (R : Powered s n count (mid_of i (end - i) a) (mid_of i (end - i) exponents) part) (long : length part ≡ end - i)
    where
      in_chunk : (k : ℕ) → k < end - i → Power s n count (get_or a (i + k) 0) (get_or exponents (i + k) (pos 0)) (get_or part k 0)
      in_chunk k h =
          rw (← mid_at 0 i (end - i) a k h, ← mid_at (pos 0) i (end - i) exponents k h) (R.each k (omega (arith, mid_len i end a c.within)))

      pub powering_next : Powering s n count a exponents end (put_mid i (end - i) results part)
      powering_next = record {
        within = c.within;
        each =
            put_back i (end - i) results part (omega (arith, P.within, room)) (λ k x. Power s n count (get_or a k 0) (get_or exponents k (pos 0)) x) refl long P.each
            in_chunk;
      }
