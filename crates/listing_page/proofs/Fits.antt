-- Every listing fits the buffer in which it is made: a refusal is short, and what an accepted enumeration with room 120 prints has at most 120 lines with at most
-- four steps each, by what the handle of an accepted enumeration says.
use Prim.Native.Nat.{ℕ, ◌+◌, ◌*◌, ◌≤◌}
use mathlib.Core.Path.{◌≡◌, refl, sym, ap, ◌∙◌}
use mathlib.Core.Bool.{Bool, true, false}
use mathlib.Core.List.{List}
use native.Mathlib.Nat.{mul-le-mul}
use native.Mathlib.Omega.{arith}
use borrow.Author.Tests.{ltb-false, le-ltb}
use lib.ListN.{length, get_or, replicate}
use lib.Dec.{ltb, eqb}
use lib.Seq.{sets}
use Rattle.egg.specs.declared.Factor.{Factor}
use Rattle.egg.specs.Answers.{Counted, Verdict}
use Rattle.egg.specs.Refusals.{numbered, refusal_paper}
use Rattle.std.specs.Prelude.{Ok, Err}
use Rattle.egg.specs.Table.{pick}
use Rattle.egg.specs.Pairs.{pair_count, orders_right}
use Rattle.build_lending.specs.Lending.{Making, making}
use Rattle.enumeration.specs.Calls.{enumerates}
use Rattle.enumeration.proofs.Handle.{accepted_handle}
use Rattle.listing_lines.specs.Text.{group_text, refused_text}
use Rattle.listing_page.specs.Listing.{orders_in, page_of, right_page, listing_of, listing_count, listing_leaves}
use Rattle.listing_page.specs.Fits.{Fits}
use Rattle.listing_lines.proofs.Bounds.{group_length, refused_length}

refused_fits : (number : ℕ) → Fits (refused_text number)
refused_fits number = record { most = omega (arith, refused_length number) }

group_fits : (t : List ℕ) (n count : ℕ) → n ≤ 4 → count ≤ 120 → Fits (group_text t n count)
group_fits t n count few small =
    let b : 33 + 11 * n ≤ 77 = omega arith in
    record { most = omega (arith, group_length t n count, mul-le-mul small b) }

-- The buffers are any, so that no proof computes their zeros.
module _ (table work orders : List ℕ) (n : ℕ) (few : n ≤ 4) where
  accepted_fits : (f : Factor) (t w : List ℕ) → enumerates table 0 work orders n 120 ≡ making (Ok f) t w
      → Fits (group_text t f.generators f.elements)
  accepted_fits f t w q =
      let (handle, within) = accepted_handle table 0 work orders n 120 f t w q in
      let g : f.generators ≡ n = ap (λ (x : Factor). x.generators) handle in
      group_fits t f.generators f.elements (omega arith) within

  page_fits : Fits (page_of (enumerates table 0 work orders n 120))
  page_fits = by (enumerates table 0 work orders n 120) refl where
    by : (m : Making) → enumerates table 0 work orders n 120 ≡ m → Fits (page_of m)
    by (making (Ok f) t w) q = accepted_fits f t w q
    by (making (Err r) t w) q = refused_fits (refusal_paper r).number

right_fits : (v : Verdict) (n : ℕ) (orders : List ℕ) → Fits (right_page v n orders)
right_fits (Err r) n orders = refused_fits (refusal_paper r).number
right_fits (Ok _) n orders = by (ltb 4 n) refl (page_fits (replicate 1440 0) (replicate 13440 0) orders n) where
  by : {page : List ℕ} (b : Bool) → ltb 4 n ≡ b → (n ≤ 4 → Fits page) → Fits (pick b (refused_text 4) page)
  by true q h = refused_fits 4
  by false q h = h (ltb-false 4 n q)

pick_fits : (b : Bool) {x y : List ℕ} → Fits x → Fits y → Fits (pick b x y)
pick_fits true hx hy = hx
pick_fits false hx hy = hy

pub listing_fits : (input : List ℕ) → Fits (listing_of input)
unfolding listing_of
listing_fits input =
    pick_fits (eqb (length input) 0) (refused_fits 2)
    (pick_fits (ltb 8 (get_or input 0 0)) (refused_fits 1)
    (pick_fits (eqb (length input) (2 * pair_count (get_or input 0 0) + 1))
    (right_fits (orders_right (orders_in (pair_count (get_or input 0 0)) input 0) (get_or input 0 0)) (get_or input 0 0) (orders_in (pair_count (get_or input 0 0)) input 0))
    (refused_fits 2)))

-- So into a buffer of that many bytes every listing is written whole, from its front on, and none is refused.
pub listing_whole : (input out : List ℕ) → 9268 ≤ length out
    → (listing_count input (length out) ≡ Ok (length (listing_of input))) × (listing_leaves input out ≡ sets out 0 (listing_of input))
unfolding listing_count listing_leaves
listing_whole input out h =
    let q : length (listing_of input) ≤ length out = omega (arith, (listing_fits input).most) in
    (simp (le-ltb _ _ q), simp (le-ltb _ _ q))

abbrev count_of : Counted → ℕ
count_of (Ok k) = k
count_of (Err r) = 0

-- A length that was answered is a place in a buffer of that many bytes, whatever the size that was lent.
pub count_fits : (input : List ℕ) (size : ℕ) {used room : ℕ} {answer : Counted} → answer ≡ listing_count input size → answer ≡ Ok used → room ≡ 9268
    → used ≤ room
unfolding listing_count
count_fits input size {used} {room} p q e = omega (arith, by (ltb size (length (listing_of input))) (ap count_of (sym q ∙ p))) where
  by : (b : Bool) → used ≡ count_of (pick b (Err (numbered 4 0 0 0)) (Ok (length (listing_of input)))) → used ≤ 9268
  by true u = omega arith
  by false u = omega (arith, (listing_fits input).most)
