-- This file defines which handles a product lists, what they have together, and the refusals that come before anything is read in a table: 17 in a
-- handle, 14 for an argument, 15 for a product too large. Document 01: "factors per product 0 to 8; product elements at most 4,294,967,295".
use Rattle.std.specs.Prelude.{Ok, Err}
use Rattle.egg.specs.Refusals.{numbered}
use Rattle.std.specs.Prelude.{ℕ, ◌+◌, ◌-◌, ◌≡◌, List, [], ◌∷◌, ◌++◌, Bool, true, ◌&&◌, length, take, replicate, leb}
use Rattle.egg.specs.declared.Factor.{Factor}
use Rattle.egg.specs.Answers.{Verdict, fine}
use Rattle.egg.specs.Table.{pick}
use Rattle.egg.specs.Scan.{refused_of}
use Rattle.egg.specs.Factor.{fits_in}
use Rattle.build_lending.specs.Lending.{no_factor}
use Rattle.theory_radix.specs.Radix.{count}
use Rattle.group_handles.specs.declared.Group.{Group}
use Rattle.group_handles.specs.Answers.{Grouped}
use Rattle.group_handles.specs.declared.inner.Seen.{Seen}
use Rattle.group_handles.specs.declared.inner.Limit.{Limit}
use Rattle.group_handles.specs.declared.inner.Limit.TheVariants.{Elements, Generators, Number}

-- The handles that are listed, the fastest digit first: the first `count` of the eight.
abbrev pub handles : Group → List Factor
handles g = take g.count g.factors

-- How many elements each factor has: a digit is below its size.
abbrev pub sizes : List Factor → List ℕ
sizes [] = []
sizes (h ∷ hs) = h.elements ∷ sizes hs

-- How many elements the product has: a natural number, even where it is too large for a call to answer.
abbrev pub elements_of : List Factor → ℕ
elements_of hs = count (sizes hs)

-- How many generators the factors have together.
abbrev pub generators_of : List Factor → ℕ
generators_of [] = 0
generators_of (h ∷ hs) = h.generators + generators_of hs

-- Whether every handle fits the buffer, which has `len` numbers: 17, "the handle doesn't fit its buffer", is for any of them.
abbrev pub all_fit : ℕ → List Factor → Bool
all_fit len [] = true
all_fit len (h ∷ hs) = fits_in len h && all_fit len hs

-- A number as far as 32 bits can tell: 4,294,967,296 stands for all that is above them.
unfoldable pub capped : ℕ → ℕ
capped n = pick (leb n 4294967295) n 4294967296

-- What one pass over the handles shows.
abbrev pub seen : ℕ → List Factor → Seen
seen len hs = record { fit = all_fit len hs; elements = capped (elements_of hs); generators = generators_of hs }

-- What an argument of this kind has to be below.
abbrev pub limit_of : List Factor → Limit → ℕ
limit_of hs Elements = elements_of hs
limit_of hs Generators = generators_of hs
limit_of hs (Number k) = k

-- The same, by what one pass over the handles has shown.
abbrev pub limit_seen : Seen → Limit → ℕ
limit_seen s Elements = s.elements
limit_seen s Generators = s.generators
limit_seen s (Number k) = k

-- True where refusal 15, "more than 8 factors, product too large", is not due.
unfoldable pub limited : Group → Bool
limited g = leb g.count 8 && leb (elements_of (handles g)) 4294967295

-- "Calls on handles check 17 in the handle, then 14, then 15". The four tests are whether the handles fit, whether the first and the second argument
-- are too large, and whether the product is within its limits.
abbrev pub in_order : Bool → Bool → Bool → Bool → Verdict
in_order fit first second within =
    pick fit
    (pick first (refused_of 14 0 0 0)
    (pick second (refused_of 14 1 0 0)
    (pick within fine (refused_of 15 0 0 0))))
    (refused_of 17 0 0 0)

-- The refusals of a call with two arguments, a that has to be below la, and b below lb. A call with fewer arguments gives 0 below 1.
unfoldable pub admits : (len : ℕ) (g : Group) (a la b lb : ℕ) → Verdict
admits len g a la b lb = in_order (all_fit len (handles g)) (leb la a) (leb lb b) (limited g)

-- The same by what was seen of the handles; `told` is the count of factors that the product claims.
unfoldable pub admits_seen : (s : Seen) (told a : ℕ) (la : Limit) (b : ℕ) (lb : Limit) → Verdict
admits_seen s told a la b lb = in_order s.fit (leb (limit_seen s la) a) (leb (limit_seen s lb) b) (leb told 8 && leb s.elements 4294967295)

-- What a pass over the handles has to show for these tests. Since "17 in the handle" is the first of them, a pass may end at a handle that does not
-- fit.
pub record Looked (len : ℕ) (hs : List Factor) (s : Seen) : Type 0 where
  pub fits : s.fit ≡ all_fit len hs
  pub whole : s.fit ≡ true → s.elements ≡ capped (elements_of hs)

-- The product of the factors in a list; the places of the eight that are not used hold no factor.
abbrev pub group_of : List Factor → Group
group_of hs = record { factors = hs ++ replicate (8 - length hs) no_factor; count = length hs }

-- What `product` answers. Refuses in this order: 17 for a handle of either that does not fit, 15 for more than 8 factors or a product too large, of
-- either and of both together.
unfoldable pub joins : ℕ → Group → Group → Grouped
joins len a b =
    pick (all_fit len (handles a ++ handles b))
    (pick (leb a.count 8 && (leb b.count 8 && (leb (length (handles a ++ handles b)) 8 && leb (elements_of (handles a ++ handles b)) 4294967295)))
    (Ok (group_of (handles a ++ handles b)))
    (Err (numbered 15 0 0 0)))
    (Err (numbered 17 0 0 0))
