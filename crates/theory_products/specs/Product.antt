-- Direct products of any number of factors, for any n and N: what they are, and how their elements are numbered.
use Rattle.std.specs.Prelude.{ℕ, zero, suc, ◌+◌, ◌*◌, ◌-◌, ◌/◌, ◌%◌, ◌<◌, ◌≤◌, ◌≡◌, Bool, true, false, List, [], ◌∷◌, ◌++◌, get_or, length, ltb}
use Rattle.theory.specs.Numbering.{Distinct}
use Rattle.theory.specs.Words.{Word, walk, Spelled}
use Rattle.theory.specs.Regular.{compose, inverse}
use Rattle.theory.specs.Group.{GroupOn, RightSteps}
use Rattle.theory_radix.specs.Radix.{split, join}

-- A factor's data: its elements 0 .. N-1 with the operation and the inverse, its generators 0 .. n-1 with the step by each, and the recorded words.
-- That these are a group's is said below, in `IsGroup` and after it.
pub record Part : Type 0 where
  pub elements : ℕ
  pub generators : ℕ
  pub op : ℕ → ℕ → ℕ
  pub inv : ℕ → ℕ
  pub step : ℕ → ℕ → ℕ
  pub word : ℕ → List ℕ

-- The factor of a table with its predecessors and recorded words, as an accepted factor holds them.
abbrev pub table_part : (n N : ℕ) (step back : ℕ → ℕ → ℕ) (word : ℕ → List ℕ) → Part
table_part n N step back word =
    record { elements = N; generators = n; op = compose step word; inv = inverse back word; step = step; word = word }

-- The group of one element, with no generators: the empty product.
abbrev pub trivial : Part
trivial = record { elements = 1; generators = 0; op = λ a b. 0; inv = λ a. 0; step = λ e g. e; word = λ e. [] }

-- The first number where the test holds, else the second.
abbrev pub choose : Bool → ℕ → ℕ → ℕ
choose true x y = x
choose false x y = y

-- Each generator of a word moved up by n.
abbrev pub shift : ℕ → List ℕ → List ℕ
shift n [] = []
shift n (g ∷ w) = (n + g) ∷ shift n w

-- Two factors: the element with a in the first and b in the second is a + N·b, and the second's generators come after the first's.
abbrev pub pair : Part → Part → Part
pair p q = record {
  elements = p.elements * q.elements;
  generators = p.generators + q.generators;
  op = λ a b. p.op (a % p.elements) (b % p.elements) + p.elements * q.op (a / p.elements) (b / p.elements);
  inv = λ a. p.inv (a % p.elements) + p.elements * q.inv (a / p.elements);
  step = λ e g.
      choose (ltb g p.generators)
      (p.step (e % p.elements) g + p.elements * (e / p.elements))
      (e % p.elements + p.elements * q.step (e / p.elements) (g - p.generators));
  word = λ e. p.word (e % p.elements) ++ shift p.generators (q.word (e / p.elements));
}

-- The product of a list of factors; "First factor is the fastest digit".
abbrev pub product : List Part → Part
product [] = trivial
product (p ∷ ps) = pair p (product ps)

-- The numbers of elements of the factors: they are the ranges of the digits.
abbrev pub digit_ranges : List Part → List ℕ
digit_ranges [] = []
digit_ranges (p ∷ ps) = p.elements ∷ digit_ranges ps

-- How many generators the first f factors have together: this is added to a generator of the factor f to number it in the product.
abbrev pub offset : List Part → ℕ → ℕ
offset ps zero = 0
offset [] (suc f) = 0
offset (p ∷ ps) (suc f) = p.generators + offset ps f

-- The factor f; beyond the last it is the group of one element.
abbrev pub factor : List Part → ℕ → Part
factor ps f = get_or ps f trivial

-- The list of F p a b over the factors p with their digits a and b.
abbrev pub each : (Part → ℕ → ℕ → ℕ) → List Part → List ℕ → List ℕ → List ℕ
each F [] xs ys = []
each F (p ∷ ps) [] ys = []
each F (p ∷ ps) (a ∷ xs) [] = []
each F (p ∷ ps) (a ∷ xs) (b ∷ ys) = F p a b ∷ each F ps xs ys

-- F taken factor by factor: split both elements into digits, take F of the digits, and join the results.
abbrev pub componentwise : (Part → ℕ → ℕ → ℕ) → List Part → ℕ → ℕ → ℕ
componentwise F ps a b = join (digit_ranges ps) (each F ps (split (digit_ranges ps) a) (split (digit_ranges ps) b))

-- P holds of each factor.
pub data Each (P : Part → Type 0) : List Part → Type 0 where
  none : Each P []
  more : {p : Part} {ps : List Part} → P p → Each P ps → Each P (p ∷ ps)

-- The factor is a group.
pub record IsGroup (p : Part) : Type 0 where
  pub laws : GroupOn p.elements p.op p.inv

-- F can be taken factor by factor: it takes elements to elements, and of a pair it is F of the first digits and F of the second.
pub record Parted (F : Part → ℕ → ℕ → ℕ) : Type 0 where
  pub closed : {p : Part} {a b : ℕ} → IsGroup p → a < p.elements → b < p.elements → F p a b < p.elements
  pub at_pair : {p q : Part} {a b : ℕ} → IsGroup p → IsGroup q → a < p.elements * q.elements → b < p.elements * q.elements
      → F (pair p q) a b ≡ F p (a % p.elements) (b % p.elements) + p.elements * F q (a / p.elements) (b / p.elements)

-- The factor is a group, and its steps are multiplication on the right by the elements of its generators.
pub record Stepped (p : Part) : Type 0 where
  pub group : IsGroup p
  pub steps : RightSteps p.generators p.elements p.step p.op

-- Besides, each recorded word leads to its element.
pub record Worded (p : Part) : Type 0 where
  pub stepped : Stepped p
  pub spelled : Spelled p.generators p.elements p.step p.word

-- Besides, no word that leads to an element is shorter than its recorded one (order 11).
pub record Shortest (p : Part) : Type 0 where
  pub worded : Worded p
  pub shortest : {e : ℕ} {w : List ℕ} → Word p.generators w → walk p.step 0 w ≡ e → length (p.word e) ≤ length w

-- The steps are the group's, its generators are distinct, and none of them is the identity.
pub record DistinctlyGenerated (p : Part) : Type 0 where
  pub stepped : Stepped p
  pub distinct : Distinct p.generators p.step
