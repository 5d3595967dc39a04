-- By which numbers the calls are refused, by which never, and what a refusal leaves, number by number of each buffer.
use Prim.Native.Nat.{ℕ, ◌+◌, ◌-◌, ◌<◌}
use mathlib.Core.Path.{◌≡◌, refl, ◌∙◌}
use mathlib.Core.Bool.{true}
use mathlib.Core.List.{List, [], ◌∷◌}
use native.Mathlib.Omega.{arith}
use lib.ListN.{length, replicate, length-replicate, get_or-replicate}
use Rattle.egg.specs.declared.Refusal.{Refusal}
use Rattle.egg.specs.Refusals.{refusal_paper}
use Rattle.std.specs.Prelude.{Err}
use Rattle.build_lending.specs.Lending.{making}
use Rattle.factor.specs.Composed.{composed}
use Rattle.enumeration.specs.Calls.{enumerates}
use Rattle.build_checks_laws.specs.Numbers.{member, every, RefusalIn}
use Rattle.build_checks_laws.proofs.Numbers.{each_in, none_of}
use Rattle.promises.specs.Leaves.{Lent, Cleared, Cells, Leaves, untouched, zeros, composed_numbers, enumeration_numbers}
use Rattle.build_laws.proofs.Lent.{within_long, within_cell, within_before, within_after}
use Rattle.promises.proofs.Leaves.{composed_leaves, tested_leaves}

-- A refusal has a number of those that its call may give.
pub leaves_number : {right : Type 0} {before after : List ℕ} {buffers : List Lent} {r : Refusal} (l : List ℕ) → every (λ x. member x l) before ≡ true
    → every (λ x. member x l) after ≡ true → Leaves right before after buffers r → RefusalIn l r
leaves_number {before = before} {r = r} l a b (untouched wrong m s) = each_in (λ x. member x l) (refusal_paper r).number before a m
leaves_number {after = after} {r = r} l a b (zeros ok m z) = each_in (λ x. member x l) (refusal_paper r).number after b m

-- Composed rows are refused by 1, 4, or 5 to 12, so never by 2, 3, or 13 to 17.
module _ (table : List ℕ) (start : ℕ) (work rows : List ℕ) (n room : ℕ) (r : Refusal) (t w : List ℕ)
    (h : composed table start work rows n room ≡ making (Err r) t w) where
  pub composed_number : RefusalIn (1 ∷ 4 ∷ composed_numbers) r
  composed_number = leaves_number (1 ∷ 4 ∷ composed_numbers) refl refl (composed_leaves table start work rows n room r t w h)

  pub composed_never : ¬ (RefusalIn (2 ∷ 3 ∷ 13 ∷ 14 ∷ 15 ∷ 16 ∷ 17 ∷ []) r)
  composed_never m = none_of (refusal_paper r).number (2 ∷ 3 ∷ 13 ∷ 14 ∷ 15 ∷ 16 ∷ 17 ∷ []) (1 ∷ 4 ∷ composed_numbers) refl m composed_number

-- What the definition for pair orders has a place for: 1 to 6, and 9 to 13, which never come (`enumeration_refuses` of `promises_enumeration`).
module _ (table : List ℕ) (start : ℕ) (work orders : List ℕ) (n room : ℕ) (r : Refusal) (t w : List ℕ)
    (h : enumerates table start work orders n room ≡ making (Err r) t w) where
  pub enumeration_number : RefusalIn (1 ∷ 2 ∷ 3 ∷ 4 ∷ enumeration_numbers) r
  enumeration_number = leaves_number (1 ∷ 2 ∷ 3 ∷ 4 ∷ enumeration_numbers) refl refl (tested_leaves table start work orders n room r t w h)

-- A cleared buffer, number by number.
pub cleared_cells : {b : Lent} → Cleared b → Cells b
cleared_cells {b} C =
    let l = b.entry in
    let a = b.start in
    let k = b.need in
    let q = C.zero in
    let size : length (replicate {A = ℕ} k 0) ≡ k = length-replicate k 0 in
    record {
      long = rw q (within_long l a k C.inside (replicate k 0) size);
      zero = λ i lo hi.
          let e : i ≡ a + (i - a) = omega arith in
          let h : i - a < k = omega arith in
          rw (q, e) (within_cell l a k C.inside (replicate k 0) size (i - a) h ∙ get_or-replicate k (i - a) 0 0 h);
      before = λ i h. rw q (within_before l a k C.inside (replicate k 0) size i h);
      after = λ i h. rw q (within_after l a k C.inside (replicate k 0) size i h);
    }
