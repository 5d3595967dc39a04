-- This file defines the listing of an input: document 01's program as a function from bytes to bytes. "The listing program reads standard input: n in
-- a byte, then two bytes an order. Missing or extra bytes are 2; n of 5 to 8 is 4; its room is 120."
use Rattle.std.specs.Prelude.{ℕ, zero, suc, ◌+◌, ◌*◌, List, [], ◌∷◌, length, get_or, replicate, ltb, eqb, Ok, Err}
use Rattle.std.proofs.lemmas.List.Edits.{sets}
use Rattle.egg.specs.Answers.{Counted, Made, Verdict}
use Rattle.egg.specs.Refusals.{numbered, refusal_paper}
use Rattle.egg.specs.Table.{pick}
use Rattle.egg.specs.Pairs.{pair_count, orders_right}
use Rattle.build_lending.specs.Lending.{Making, making}
use Rattle.enumeration.specs.Calls.{enumerates}
use Rattle.listing_lines.specs.Text.{group_text, refused_text}

-- The i-th order that an input has after its first byte: "two bytes an order", the higher first.
abbrev pub order_in : List ℕ → ℕ → ℕ
order_in input i = get_or input (2 * i + 1) 0 * 256 + get_or input (2 * i + 2) 0

-- k orders of an input, from the i-th on.
unfoldable pub orders_in : ℕ → List ℕ → ℕ → List ℕ
orders_in zero input i = []
orders_in (suc k) input i = order_in input i ∷ orders_in k input (i + 1)

-- The page of an answer: the lines of the table, or the refusal.
abbrev pub page_by : Made → List ℕ → List ℕ
page_by (Ok f) t = group_text t f.generators f.elements
page_by (Err r) t = refused_text (refusal_paper r).number

-- The page of an enumeration.
abbrev pub page_of : Making → List ℕ
page_of (making m t w) = page_by m t

-- The page when the list of orders has the right length. Its first refusal is printed, if there is one; then "n of 5 to 8 is 4"; else the orders are
-- enumerated with room 120, in buffers of the program's own that four generators need, 120 · 12 and 120 · 112 numbers.
abbrev pub right_page : Verdict → ℕ → List ℕ → List ℕ
right_page (Err r) n orders = refused_text (refusal_paper r).number
right_page (Ok _) n orders =
    pick (ltb 4 n) (refused_text 4) (page_of (enumerates (replicate 1440 0) 0 (replicate 13440 0) orders n 120))

-- The page of any input. Refuses in this order: 2 for no byte at all, 1 for more than 8 generators, 2 for missing or extra bytes, 3, 4; then as the
-- enumeration does.
unfoldable pub listing_of : List ℕ → List ℕ
listing_of input =
    pick (eqb (length input) 0) (refused_text 2)
    (pick (ltb 8 (get_or input 0 0)) (refused_text 1)
    (pick (eqb (length input) (2 * pair_count (get_or input 0 0) + 1))
    (right_page (orders_right (orders_in (pair_count (get_or input 0 0)) input 0) (get_or input 0 0)) (get_or input 0 0) (orders_in (pair_count (get_or input 0 0)) input 0))
    (refused_text 2)))

-- What is answered to a buffer of `size` bytes: how long the page is, or, where the buffer is shorter, "4 | .. a lent buffer short".
unfoldable pub listing_count : List ℕ → ℕ → Counted
listing_count input size =
    pick (ltb size (length (listing_of input))) (Err (numbered 4 0 0 0)) (Ok (length (listing_of input)))

-- What the buffer holds afterwards: the whole page from its front on, or, where it is shorter, what it held.
unfoldable pub listing_leaves : List ℕ → List ℕ → List ℕ
listing_leaves input out = pick (ltb (length out) (length (listing_of input))) out (sets out 0 (listing_of input))
