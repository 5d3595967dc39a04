-- This file defines how a C caller passes a product: its handles stand one after the other in a lent list, five numbers each, and their count beside
-- it.
use Rattle.std.specs.Prelude.{ℕ, ◌+◌, ◌*◌, List, [], ◌∷◌, length, get_or, ltb}
use Rattle.egg.specs.declared.Factor.{Factor}
use Rattle.egg.specs.Table.{pick}
use Rattle.build_lending.specs.Lending.{no_factor}
use Rattle.capi_values.specs.Bridge.{handle}
use Rattle.group_handles.specs.declared.Group.{Group}

-- A number of generators as far as a byte can tell: 255 stands for all that is above, and such a handle fits no buffer anyhow.
abbrev pub byte_of : ℕ → ℕ
byte_of x = pick (ltb 255 x) 255 x

-- The handle from place `at` on: the lower and the higher half of its start, room, generators, elements. Where the list is too short for it there is
-- no factor, which fits no buffer: 17.
unfoldable pub handle_at : List ℕ → ℕ → Factor
handle_at l at =
    pick (ltb (length l) (at + 5)) no_factor
    (handle (get_or l at 0 + get_or l (at + 1) 0 * 4294967296) (get_or l (at + 2) 0) (byte_of (get_or l (at + 3) 0)) (get_or l (at + 4) 0))

-- The product whose handles stand from place `at` on: "factors per product 0 to 8". The count is kept as it is told, so that one above 8 is the
-- call's own 15.
unfoldable pub product_at : List ℕ → ℕ → ℕ → Group
product_at l at count = record {
  factors = handle_at l at ∷ handle_at l (at + 5) ∷ handle_at l (at + 10) ∷ handle_at l (at + 15) ∷ handle_at l (at + 20) ∷ handle_at l (at + 25) ∷ handle_at l (at + 30) ∷ handle_at l (at + 35) ∷ [];
  count = count;
}

-- The product whose handles the list starts with.
abbrev pub product_of : List ℕ → ℕ → Group
product_of l count = product_at l 0 count
