-- A subgroup with further groups beside it: what `product_left` and `product_right` hand back, and what the calls on it answer then. Document 01, module 6: "two
-- maps; .. the left and right products of the index formulas".
use Rattle.std.specs.Prelude.{Ok}
use Rattle.std.specs.Prelude.{ℕ, ◌+◌, ◌*◌, ◌≤◌, ◌<◌, ◌≡◌, List, [], ◌∷◌, ◌++◌, length, get_or}
use Rattle.egg.specs.Factor.{refused_reach}
use Rattle.theory.specs.Table.{generator}
use Rattle.factor_laws.specs.Accepted.{reach}
use Rattle.theory_products.specs.Product.{Part, product}
use Rattle.group_handles.specs.declared.Group.{Group}
use Rattle.group_handles.specs.Handles.{handles, elements_of, generators_of, group_of, joins}
use Rattle.group.specs.Questions as group
use Rattle.promises_group.specs.Products.{part, parts, direct, AllAccepted, AcceptedProduct}
use Rattle.build_numbering.specs.Renumber as appear
use Rattle.subgroup_build.specs.declared.Subgroup.{Subgroup}
use Rattle.subgroup_sides.specs.Sides.{over_side, sub_side, stride_of, over_count, put_left, put_right}
use Rattle.subgroup.specs.Indices.{over_of, sub_of}
use Rattle.subgroup.specs.Questions.{within_paper, to_over_answer, to_sub_answer, generator_answer}
use Rattle.promises_subgroup.specs.Generates.{SubgroupHolds}
use Rattle.promises_subgroup.specs.Asked.{Askable, MapAnswers}

-- The overgroup of s as a value that the calls on products take: what is below, the part in which the subgroup is, and what is above. And the product that is the
-- subgroup itself, where all its factors stand in one buffer.
abbrev pub over_group : Subgroup → Group
over_group s = group_of (over_side s)

abbrev pub sub_group : Subgroup → Group
sub_group s = group_of (sub_side s)

-- The subgroup's direct product, its own factor standing in a buffer of its own.
abbrev pub sub_direct : List ℕ → List ℕ → Subgroup → Part
sub_direct from table s = product (parts from (handles s.below) ++ (part table s.factor ∷ parts from (handles s.above)))

-- The two index formulas by the maps of s.
abbrev pub outward_of : Subgroup → List ℕ → ℕ → ℕ
outward_of s outw = over_of (stride_of s) (over_count s) s.factor.elements (λ e. get_or outw e 0)

abbrev pub inward_of : Subgroup → List ℕ → ℕ → ℕ
inward_of s inn = sub_of (stride_of s) (over_count s) s.factor.elements (λ x. get_or inn x 0)

-- A subgroup as it was made by the elements gens, with accepted factors below and above it, and its maps as they were made.
pub record Beside (from gens : List ℕ) (s : Subgroup) (t i o : List ℕ) : Type 1 where
  pub holds : SubgroupHolds from s.over gens (record { below = group_of []; factor = s.factor; over = s.over; above = group_of [] }) t i o
  pub over : AllAccepted from (handles s.over)
  pub below : AllAccepted from (handles s.below)
  pub above : AllAccepted from (handles s.above)
  pub known : Askable (length from) (length t) s i o

-- What `product_left` hands back where it is fine: the value whose overgroup is what `product` makes of g and the overgroup of s, and whose own factors are those of
-- g and then those of s. The element with b in g and e in the subgroup is carried to the one with b in g and, in the overgroup, what e is carried to.
pub record MultipliedLeft (from t : List ℕ) (g : Group) (s r : Subgroup) (o : List ℕ) : Type 0 where
  pub value : r ≡ put_left g s
  pub overgroup : joins (length from) g (over_group s) ≡ Ok (over_group r)
  pub side : sub_side r ≡ handles g ++ sub_side s
  pub outward : {b e x : ℕ} → b < elements_of (handles g) → e < elements_of (sub_side s)
      → to_over_answer (length from) (length t) s o (record { 0 = e }) ≡ reach x
      → to_over_answer (length from) (length t) r o (record { 0 = b + elements_of (handles g) * e }) ≡ reach (b + elements_of (handles g) * x)

-- The same of `product_right`: g comes above.
pub record MultipliedRight (from t : List ℕ) (s : Subgroup) (g : Group) (r : Subgroup) (o : List ℕ) : Type 0 where
  pub value : r ≡ put_right s g
  pub overgroup : joins (length from) (over_group s) g ≡ Ok (over_group r)
  pub side : sub_side r ≡ sub_side s ++ handles g
  pub outward : {e d x : ℕ} → e < elements_of (sub_side s) → d < elements_of (handles g)
      → to_over_answer (length from) (length t) s o (record { 0 = e }) ≡ reach x
      → to_over_answer (length from) (length t) r o (record { 0 = e + elements_of (sub_side s) * d }) ≡ reach (x + elements_of (over_side s) * d)

-- What the calls on such a subgroup answer, for every number in range; none of them is refused there. The overgroup is an accepted product, so that every answer
-- about it is its direct product's. The maps answer by the index formulas and undo each other. Identity is carried to identity, and the subgroup's product of a and
-- b to what `compose` answers of what a and b are carried to; the same of inverses, and back again of what is in the subgroup.
pub record SideAnswers (from t : List ℕ) (s : Subgroup) (i o : List ℕ) : Type 0 where
  pub overgroup : AcceptedProduct from (over_group s)
  pub maps : MapAnswers (length from) (length t) s i o
  pub identity : to_over_answer (length from) (length t) s o (record { 0 = 0 }) ≡ reach 0
  pub back_identity : within_paper (to_sub_answer (length from) (length t) s i (record { 0 = 0 })) ≡ record { number = 0; a = 0; b = 0; c = 0 }
  pub composes : {a b : ℕ} → a < elements_of (sub_side s) → b < elements_of (sub_side s)
      → ((sub_direct from t s).op a b < elements_of (sub_side s))
      × (to_over_answer (length from) (length t) s o (record { 0 = (sub_direct from t s).op a b })
      ≡ group.compose_answer from (over_group s) (record { 0 = outward_of s o a }) (record { 0 = outward_of s o b }))
  pub inverts : {a : ℕ} → a < elements_of (sub_side s)
      → ((sub_direct from t s).inv a < elements_of (sub_side s))
      × (to_over_answer (length from) (length t) s o (record { 0 = (sub_direct from t s).inv a })
      ≡ group.inverse_answer from (over_group s) (record { 0 = outward_of s o a }))
  pub back_composes : {x y : ℕ} → x < elements_of (over_side s) → y < elements_of (over_side s) → ¬ (inward_of s i x ≡ appear.no_number) → ¬ (inward_of s i y ≡ appear.no_number)
      → {z : ℕ} → group.compose_answer from (over_group s) (record { 0 = x }) (record { 0 = y }) ≡ reach z
      → within_paper (to_sub_answer (length from) (length t) s i (record { 0 = z }))
      ≡ record { number = 0; a = (sub_direct from t s).op (inward_of s i x) (inward_of s i y); b = 0; c = 0 }
  pub back_inverts : {x : ℕ} → x < elements_of (over_side s) → ¬ (inward_of s i x ≡ appear.no_number)
      → {z : ℕ} → group.inverse_answer from (over_group s) (record { 0 = x }) ≡ reach z
      → within_paper (to_sub_answer (length from) (length t) s i (record { 0 = z })) ≡ record { number = 0; a = (sub_direct from t s).inv (inward_of s i x); b = 0; c = 0 }

-- `generator` of such a subgroup: the generators of what is below, then those elements of its part of the overgroup by which it was made, then the generators of what
-- is above, each as an element of the whole overgroup; it is what the subgroup's generator is carried to, as in 005; and 14 beyond.
pub record SideGenerators (from gens t : List ℕ) (s : Subgroup) (o : List ℕ) : Type 0 where
  pub count : generators_of (sub_side s) ≡ generators_of (handles s.below) + (length gens + generators_of (handles s.above))
  pub carried : {g : ℕ} → g < generators_of (sub_side s)
      → generator_answer from t s o (record { 0 = g }) ≡ to_over_answer (length from) (length t) s o (record { 0 = generator (sub_direct from t s).step g })
  pub below : {g : ℕ} → g < generators_of (handles s.below)
      → generator_answer from t s o (record { 0 = g }) ≡ reach (generator (direct from s.below).step g)
  pub own : {g : ℕ} → g < length gens
      → generator_answer from t s o (record { 0 = generators_of (handles s.below) + g }) ≡ reach (stride_of s * get_or gens g 0)
  pub above : {g : ℕ} → g < generators_of (handles s.above)
      → generator_answer from t s o (record { 0 = generators_of (handles s.below) + (length gens + g) })
      ≡ reach (stride_of s * (over_count s * generator (direct from s.above).step g))
  pub beyond : {g : ℕ} → generators_of (sub_side s) ≤ g → generator_answer from t s o (record { 0 = g }) ≡ refused_reach 14 0

-- Where all the subgroup's factors stand in one buffer, `group::compose` and `group::generator` can be asked of its product too. Then `to_overgroup` takes what
-- the one `compose` answers to what the other answers, and nothing is refused:
pub record ComposesOver (from t all : List ℕ) (s : Subgroup) (o : List ℕ) (a b : ℕ) : Type 0 where
  pub within : ℕ
  pub first : ℕ
  pub second : ℕ
  pub carried : ℕ
  pub composed : group.compose_answer all (sub_group s) (record { 0 = a }) (record { 0 = b }) ≡ reach within
  pub first_out : to_over_answer (length from) (length t) s o (record { 0 = a }) ≡ reach first
  pub second_out : to_over_answer (length from) (length t) s o (record { 0 = b }) ≡ reach second
  pub composed_over : group.compose_answer from (over_group s) (record { 0 = first }) (record { 0 = second }) ≡ reach carried
  pub out : to_over_answer (length from) (length t) s o (record { 0 = within }) ≡ reach carried

pub record InOneBuffer (from t all : List ℕ) (s : Subgroup) (o : List ℕ) : Type 0 where
  pub subgroup : AcceptedProduct all (sub_group s)
  pub composes : {a b : ℕ} → a < elements_of (sub_side s) → b < elements_of (sub_side s) → ComposesOver from t all s o a b
  pub generators : {g e : ℕ} → g < generators_of (sub_side s) → group.generator_answer all (sub_group s) (record { 0 = g }) ≡ reach e
      → generator_answer from t s o (record { 0 = g }) ≡ to_over_answer (length from) (length t) s o (record { 0 = e })
