-- Laws of the passes over a chunk of places.
-- Assumes nothing.
use Prim.Native.Nat.{ℕ, ◌+◌, ◌*◌, ◌/◌, ◌%◌, ◌≤◌, ◌<◌}
use mathlib.Core.Path.{◌≡◌, refl, ap, ◌∙◌}
use mathlib.Core.List.{List}
use native.Mathlib.Omega.{arith}
use native.Mathlib.Nat.{mul-le-mul_left}
use borrow.Author.Count.{below_more}
use lib.ListN.{length, get_or, set}
use Rattle.egg.specs.Table.{inverse_of}
use Rattle.lists.proofs.Passes.{Writing, writing, writes, written}
use Rattle.lists_group.specs.Passes.{Copied, Cut, Addable, Low, Inverted}

-- The copy: what was passed is below the limit too.
pub record Copying (limit : ℕ) (from before : List ℕ) (i : ℕ) (to : List ℕ) : Type 0 where
  pub small : (j : ℕ) → j < i → get_or from j 0 < limit
  pub same : Writing (λ j. get_or from j 0) before i to

pub copying : {limit : ℕ} {from to : List ℕ} → Copying limit from to 0 to
copying = record { small = λ j h. absurd (omega arith); same = writing }

module _ {limit : ℕ} {from before : List ℕ} {i : ℕ} {to : List ℕ} (c : Copying limit from before i to) where
  pub copies : i < length to → get_or from i 0 < limit → Copying limit from before (i + 1) (set to i (get_or from i 0))
  copies h l = record { small = below_more (λ (j : ℕ). get_or from j 0 < limit) i c.small l; same = writes c.same h refl }

  pub copied : length from ≤ i → Copied limit from to
  copied h = record { small = λ j u. c.small j (omega arith); same = written c.same h }

-- The cut: the number that is read has not been cut yet.
pub record Cutting (n : ℕ) (before digits₀ : List ℕ) (i : ℕ) (rest digits : List ℕ) : Type 0 where
  pub digit : Writing (λ j. get_or before j 0 % n) digits₀ i digits
  pub rest_of : Writing (λ j. get_or before j 0 / n) before i rest

pub cutting : {n : ℕ} {rest digits : List ℕ} → Cutting n rest digits 0 rest digits
cutting = record { digit = writing; rest_of = writing }

module _ {n : ℕ} {before digits₀ : List ℕ} {i : ℕ} {rest digits : List ℕ} (c : Cutting n before digits₀ i rest digits) where
  pub cuts : i < length rest → i < length digits
      → Cutting n before digits₀ (i + 1) (set rest i (get_or rest i 0 / n)) (set digits i (get_or rest i 0 % n))
  cuts h l =
      let q : get_or rest i 0 ≡ get_or before i 0 = c.rest_of.left i (omega arith) in
      record { digit = writes c.digit l (ap (λ (x : ℕ). x % n) q); rest_of = writes c.rest_of h (ap (λ (x : ℕ). x / n) q) }

  pub is_cut : {k : ℕ} → k ≤ i → Cut n k before digits rest
  is_cut h = record { digit = written c.digit h; rest = written c.rest_of h }

-- The sums: the one that is read has not grown yet, so it fits.
module _ (stride : ℕ) (digits : List ℕ) {before : List ℕ} {i : ℕ} {sums : List ℕ} (w : Writing (λ j. get_or before j 0 + stride * get_or digits j 0) before i sums) where
  pub adds : i < length sums → Writing (λ j. get_or before j 0 + stride * get_or digits j 0) before (i + 1) (set sums i (get_or sums i 0 + stride * get_or digits i 0))
  adds h = writes w h (ap (λ (x : ℕ). x + stride * get_or digits i 0) (w.left i (omega arith)))

  pub add_fits : {k : ℕ} → Addable k stride digits before → i < k → get_or sums i 0 + stride * get_or digits i 0 ≤ 4294967295
  add_fits a h = omega (arith, a.each i h, w.left i (omega arith))

-- The pass of inverses: neither the number nor the sum that is read has been altered yet.
pub record Inverting (s : List ℕ) (generators n stride : ℕ) (before sums₀ : List ℕ) (i : ℕ) (rest sums : List ℕ) : Type 0 where
  pub small : (j : ℕ) → j < i → inverse_of s generators (get_or before j 0 % n) < n
  pub rest_of : Writing (λ j. get_or before j 0 / n) before i rest
  pub sum : Writing (λ j. get_or sums₀ j 0 + stride * inverse_of s generators (get_or before j 0 % n)) sums₀ i sums

pub inverting : {s : List ℕ} {generators n stride : ℕ} {rest sums : List ℕ} → Inverting s generators n stride rest sums 0 rest sums
inverting = record { small = λ j h. absurd (omega arith); rest_of = writing; sum = writing }

module _ {s : List ℕ} {generators n stride : ℕ} {before sums₀ : List ℕ} {i : ℕ} {rest sums : List ℕ} (c : Inverting s generators n stride before sums₀ i rest sums) where
  pub inverse_fits : {k x : ℕ} → Low k stride sums₀ → i < k → x < n → stride * n ≤ 4294967295 → get_or sums i 0 + stride * x ≤ 4294967295
  inverse_fits l h b fits = omega (arith, l.each i h, c.sum.left i (omega arith), mul-le-mul_left stride b, fits)

  pub inverses : {x : ℕ} → i < length rest → i < length sums → x ≡ inverse_of s generators (get_or rest i 0 % n) → x < n
      → Inverting s generators n stride before sums₀ (i + 1) (set rest i (get_or rest i 0 / n)) (set sums i (get_or sums i 0 + stride * x))
  inverses {x} h l q b =
      let old : get_or rest i 0 ≡ get_or before i 0 = c.rest_of.left i (omega arith) in
      let got : x ≡ inverse_of s generators (get_or before i 0 % n) = q ∙ ap (λ (m : ℕ). inverse_of s generators (m % n)) old in
      let under : inverse_of s generators (get_or before i 0 % n) < n = rw (← got) b in
      record {
        small = below_more (λ (j : ℕ). inverse_of s generators (get_or before j 0 % n) < n) i c.small under;
        rest_of = writes c.rest_of h (ap (λ (m : ℕ). m / n) old);
        sum = writes c.sum l (rw (c.sum.left i (omega arith), got));
      }

  pub inverted : {k : ℕ} → k ≤ i → Inverted s generators n stride k before sums₀ rest sums
  inverted h = record { small = λ j u. c.small j (omega arith); rest = written c.rest_of h; sum = written c.sum h }
