-- The text as it stands in the buffer in which it was made, and what is answered and left by the length of the caller's.
use Prim.Native.Nat.{ℕ, ◌≤◌, ◌<◌}
use mathlib.Core.Path.{◌≡◌, sym, ap, ◌∙◌}
use mathlib.Core.List.{List}
use native.Mathlib.Omega.{arith}
use borrow.Author.Tests.{lt-ltb, le-ltb}
use lib.ListN.{length, take}
use lib.Seq.{sets}
use Rattle.egg.specs.Refusals.{numbered}
use Rattle.std.specs.Prelude.{Ok, Err}
use Rattle.listing_lines.specs.Text.{Writes, EndFits}
use Rattle.listing_lines.proofs.Laws.{kept}
use Rattle.listing_page.specs.Listing.{listing_of, listing_count, listing_leaves}
use Rattle.listing_page.proofs.Fits.{listing_fits}
use Rattle.listing_page.proofs.Orders.{front}

-- In `made`, which has 9,268 bytes, stands the page of the input.
module _ (input : List ℕ) {page made : List ℕ} {used : ℕ} (w : Writes page 0 (listing_of input) made used) (size : length made ≡ 9268) where
  used_is : used ≡ length (listing_of input)
  used_is = omega (arith, w.moves)

  pub used_within : used ≤ length made
  used_within = omega (arith, used_is, size, (listing_fits input).most)

  pub used_narrow : used < 4294967296
  used_narrow = omega (arith, used_is, (listing_fits input).most)

  used_front : take used made ≡ listing_of input
  used_front = front w (sym used_is) (omega (arith, used_within, kept w))

  pub copy_ends : EndFits 0 (take used made)
  copy_ends = rw used_front (record { fits = omega (arith, (listing_fits input).most) })

  module _ (out : List ℕ) where
    pub page_short : length out < used → (Err (numbered 4 0 0 0) ≡ listing_count input (length out)) × (out ≡ listing_leaves input out)
    unfolding listing_count listing_leaves
    page_short h =
        let q : length out < length (listing_of input) = omega (arith, used_is) in
        (simp (lt-ltb _ _ q), simp (lt-ltb _ _ q))

    pub page_whole : {after : List ℕ} {end : ℕ} → used ≤ length out → Writes out 0 (take used made) after end
        → (Ok used ≡ listing_count input (length out)) × (after ≡ listing_leaves input out)
    unfolding listing_count listing_leaves
    page_whole h copy =
        let q : length (listing_of input) ≤ length out = omega (arith, used_is) in
        (simp (le-ltb _ _ q) (ap Ok used_is), simp (le-ltb _ _ q) (copy.holds ∙ ap (sets out 0) used_front))
