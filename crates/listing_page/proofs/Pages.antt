-- Which page an input has, by the tests of the code.
use Prim.Native.Nat.{ℕ, ◌+◌, ◌*◌, ◌≤◌, ◌<◌}
use mathlib.Core.Path.{◌≡◌, sym, ap, ◌∙◌}
use mathlib.Core.Bool.{Bool}
use mathlib.Core.List.{List}
use borrow.Author.Tests.{eq-eqb, ne_eqb, lt-ltb, le-ltb}
use lib.ListN.{length, get_or, replicate}
use lib.Dec.{eqb, ltb}
use Rattle.egg.specs.declared.Refusal.{Refusal}
use Rattle.egg.specs.Answers.{Made, Verdict, fine}
use Rattle.egg.specs.Refusals.{refusal_paper}
use Rattle.std.specs.Prelude.{Err}
use Rattle.egg.specs.Table.{pick}
use Rattle.egg.specs.Pairs.{pair_count, orders_right}
use Rattle.build_lending.specs.Lending.{making}
use Rattle.enumeration.specs.Calls.{enumerates}
use Rattle.listing_lines.specs.Text.{refused_text}
use Rattle.listing_page.specs.Listing.{orders_in, page_by, page_of, right_page, listing_of}

-- With as many orders as there are pairs.
module _ (o : List ℕ) (n : ℕ) {v : Verdict} (q : v ≡ orders_right o n) where
  pub page_refused : {r : Refusal} → v ≡ Err r → right_page (orders_right o n) n o ≡ refused_text (refusal_paper r).number
  page_refused e = rw (← q, e)

  pub page_many : v ≡ fine → 4 < n → right_page (orders_right o n) n o ≡ refused_text 4
  page_many e h = rw (← q, e) (simp (lt-ltb _ _ h))

  -- The buffers are named by equations, so that no proof computes their zeros.
  module _ (e : v ≡ fine) (h : n ≤ 4) {t₀ w₀ : List ℕ} (a : t₀ ≡ replicate 1440 0) (b : w₀ ≡ replicate 13440 0) where
    page_fine : right_page (orders_right o n) n o ≡ page_of (enumerates t₀ 0 w₀ o n 120)
    page_fine =
        ap (λ (u : Verdict). right_page u n o) (sym q ∙ e)
        ∙ ap (λ (u : Bool). pick u (refused_text 4) (page_of (enumerates (replicate 1440 0) 0 (replicate 13440 0) o n 120))) (le-ltb 4 n h)
        ∙ ap (λ (x : List ℕ). page_of (enumerates x 0 (replicate 13440 0) o n 120)) (sym a)
        ∙ ap (λ (x : List ℕ). page_of (enumerates t₀ 0 x o n 120)) (sym b)

    pub page_made : {m : Made} {t w : List ℕ} → making m t w ≡ enumerates t₀ 0 w₀ o n 120
        → right_page (orders_right o n) n o ≡ page_by m t
    page_made p = page_fine ∙ ap page_of (sym p)

-- The tests in front of the orders. The orders that were read stand for those of the definition.
module _ (input : List ℕ) where
  pub listing_empty : length input ≡ 0 → listing_of input ≡ refused_text 2
  unfolding listing_of
  listing_empty z = simp (eq-eqb _ _ z)

  module _ (some : length input ≡ 0 → ⊥) where
    pub listing_generators : 8 < get_or input 0 0 → listing_of input ≡ refused_text 1
    unfolding listing_of
    listing_generators h = simp (ne_eqb _ _ some, lt-ltb _ _ h)

    module _ (few : get_or input 0 0 ≤ 8) {k : ℕ} (c : k ≡ pair_count (get_or input 0 0)) where
      pub listing_bytes : (length input ≡ 2 * k + 1 → ⊥) → listing_of input ≡ refused_text 2
      unfolding listing_of
      listing_bytes d = simp (ne_eqb _ _ some, le-ltb _ _ few, ← c, ne_eqb _ _ d)

      module _ (d : length input ≡ 2 * k + 1) {o : List ℕ} (q : o ≡ orders_in k input 0) where
        -- Over any page, so that the enumeration's own is not computed.
        by : (page : List ℕ → List ℕ)
            → pick (eqb (length input) 0) (refused_text 2)
            (pick (ltb 8 (get_or input 0 0)) (refused_text 1)
            (pick (eqb (length input) (2 * pair_count (get_or input 0 0) + 1)) (page (orders_in (pair_count (get_or input 0 0)) input 0)) (refused_text 2)))
            ≡ page o
        by page = simp (ne_eqb _ _ some, le-ltb _ _ few, ← c, eq-eqb _ _ d) (ap page (sym q))

        pub listing_orders : listing_of input ≡ right_page (orders_right o (get_or input 0 0)) (get_or input 0 0) o
        unfolding listing_of
        listing_orders = by (λ x. right_page (orders_right x (get_or input 0 0)) (get_or input 0 0) x)
