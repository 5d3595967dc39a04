-- Two handles that answer alike, call by call. Order 1: "Two factors that differ only in name answer every other question alike."
use Rattle.std.specs.Prelude.{ℕ, ◌≡◌, List, ℤ}
use Rattle.egg.specs.declared.Factor.{Factor}
use Rattle.egg.specs.declared.GroupElementId.{GroupElementId}
use Rattle.egg.specs.declared.GeneratorId.{GeneratorId}
use Rattle.egg.specs.Factor as egg
use Rattle.factor.specs.Questions as factor
use Rattle.factor.specs.Relations.{check_answer}
use Rattle.image.specs.Written.{write_count, written_image}
use Rattle.builder.specs.declared.Builder.{Builder}
use Rattle.builder.specs.Calls.{grows, stores, builds}
use Rattle.group_handles.specs.declared.Group.{Group}
use Rattle.group_handles.specs.Handles.{joins}
use Rattle.group_flatten.specs.Flat.{flat}
use Rattle.group.specs.Questions as group
use Rattle.group_walk.specs.Walked as walked
use Rattle.subgroup_build.specs.Generated.{from_generators}
use Rattle.subgroup_build.specs.declared.Subgroup.{Subgroup}
use Rattle.subgroup_predicate.specs.Predicate.{from_predicate}
use Rattle.subgroup_sides.specs.Sides.{left_product, right_product}
use Rattle.lists_factor.specs.Each as factor_lists
use Rattle.lists_group.specs.Each as product_lists

-- The four numbers of a handle are the same. That nothing else is in a handle, and so no name, is what makes two such handles one.
pub record SameNumbers (f g : Factor) : Type 0 where
  pub starts : f.start ≡ g.start
  pub rooms : f.room ≡ g.room
  pub generators : f.generators ≡ g.generators
  pub elements : f.elements ≡ g.elements

-- Every public call that is given a factor, by its own definition.
pub record FactorAlike (f g : Factor) : Type 0 where
  pub fits : (len : ℕ) → egg.fits_in len f ≡ egg.fits_in len g
  pub steps : (t : List ℕ) (e : GroupElementId) (x : GeneratorId) → egg.step_answer t f e x ≡ egg.step_answer t g e x
  pub counts : (t : List ℕ) → factor.count_answer t f ≡ factor.count_answer t g
  pub generators : (t : List ℕ) (x : GeneratorId) → factor.generator_answer t f x ≡ factor.generator_answer t g x
  pub walks : (t : List ℕ) (e : GroupElementId) (w : List ℕ) → factor.walk_answer t f e w ≡ factor.walk_answer t g e w
  pub composes : (t : List ℕ) (a b : GroupElementId) → factor.compose_answer t f a b ≡ factor.compose_answer t g a b
  pub inverts : (t : List ℕ) (a : GroupElementId) → factor.inverse_answer t f a ≡ factor.inverse_answer t g a
  pub conjugates : (t : List ℕ) (a b : GroupElementId) → factor.conjugate_answer t f a b ≡ factor.conjugate_answer t g a b
  pub lengths : (t : List ℕ) (e : GroupElementId) → factor.length_answer t f e ≡ factor.length_answer t g e
  pub writes : (t : List ℕ) (e : GroupElementId) (size : ℕ) → factor.write_answer t f e size ≡ factor.write_answer t g e size
  pub leaves : (t : List ℕ) (e : GroupElementId) (out : List ℕ) → factor.written t f e out ≡ factor.written t g e out
  pub parts : (t : List ℕ) (e : GroupElementId) (out : List ℕ) → factor.word_part t f e out ≡ factor.word_part t g e out
  pub checks : (t orders : List ℕ) → check_answer t f orders ≡ check_answer t g orders
  pub images : (t : List ℕ) (size : ℕ) → write_count t f size ≡ write_count t g size
  pub image_leaves : (t out : List ℕ) → written_image t f out ≡ written_image t g out
  -- Order 2's calls over lists, with what they leave in the output list.
  pub composes_each : (t a b out : List ℕ) → factor_lists.compose_each t f a b out ≡ factor_lists.compose_each t g a b out
  pub inverts_each : (t a out : List ℕ) → factor_lists.inverse_each t f a out ≡ factor_lists.inverse_each t g a out
  pub powers_each : (t a : List ℕ) (exponents : List ℤ) (out : List ℕ) → factor_lists.powi_each t f a exponents out ≡ factor_lists.powi_each t g a exponents out

-- Every public call that is given a product, those that make a subgroup in one included.
pub record ProductAlike (g h : Group) : Type 0 where
  pub counts : (t : List ℕ) → group.count_answer t g ≡ group.count_answer t h
  pub generator_counts : (t : List ℕ) → group.generators_answer t g ≡ group.generators_answer t h
  pub generators : (t : List ℕ) (x : GeneratorId) → group.generator_answer t g x ≡ group.generator_answer t h x
  pub steps : (t : List ℕ) (e : GroupElementId) (x : GeneratorId) → group.step_answer t g e x ≡ group.step_answer t h e x
  pub walks : (t : List ℕ) (e : GroupElementId) (w : List ℕ) → walked.walk_answer t g e w ≡ walked.walk_answer t h e w
  pub projects : (t : List ℕ) (f : ℕ) (e : GroupElementId) → group.project_answer t g f e ≡ group.project_answer t h f e
  pub injects : (t : List ℕ) (f : ℕ) (x : GroupElementId) → group.inject_answer t g f x ≡ group.inject_answer t h f x
  pub splits : (t : List ℕ) (e : GroupElementId) (size : ℕ) → group.split_answer t g e size ≡ group.split_answer t h e size
  pub split_leaves_lem : (t : List ℕ) (e : GroupElementId) (out : List ℕ) → group.split_leaves t g e out ≡ group.split_leaves t h e out
  pub joined : (t digits : List ℕ) → group.join_answer t g digits ≡ group.join_answer t h digits
  pub composes : (t : List ℕ) (a b : GroupElementId) → group.compose_answer t g a b ≡ group.compose_answer t h a b
  pub inverts : (t : List ℕ) (a : GroupElementId) → group.inverse_answer t g a ≡ group.inverse_answer t h a
  pub conjugates : (t : List ℕ) (a b : GroupElementId) → group.conjugate_answer t g a b ≡ group.conjugate_answer t h a b
  pub powers : (t : List ℕ) (a : GroupElementId) (i : ℤ) → group.powi_answer t g a i ≡ group.powi_answer t h a i
  pub periods : (t : List ℕ) (a : GroupElementId) → group.period_answer t g a ≡ group.period_answer t h a
  pub lengths : (t : List ℕ) (e : GroupElementId) → group.length_answer t g e ≡ group.length_answer t h e
  pub writes : (t : List ℕ) (e : GroupElementId) (size : ℕ) → group.write_answer t g e size ≡ group.write_answer t h e size
  pub leaves : (t : List ℕ) (e : GroupElementId) (out : List ℕ) → group.written t g e out ≡ group.written t h e out
  pub parts : (t : List ℕ) (e : GroupElementId) (out : List ℕ) → group.word_part t g e out ≡ group.word_part t h e out
  pub flattens : (from table : List ℕ) (start : ℕ) (work : List ℕ) (room : ℕ) → flat from g table start work room ≡ flat from h table start work room
  pub firsts : (len : ℕ) (b : Group) → joins len g b ≡ joins len h b
  pub seconds : (len : ℕ) (a : Group) → joins len a g ≡ joins len a h
  pub generated : (from gens table : List ℕ) (start : ℕ) (work inn outw : List ℕ) (room : ℕ)
      → from_generators from g gens table start work inn outw room ≡ from_generators from h gens table start work inn outw room
  pub chosen : (from members table : List ℕ) (start : ℕ) (work inn outw : List ℕ) (room : ℕ)
      → from_predicate from g members table start work inn outw room ≡ from_predicate from h members table start work inn outw room
  pub lefts : (from table : ℕ) (s : Subgroup) → left_product from table g s ≡ left_product from table h s
  pub rights : (from table : ℕ) (s : Subgroup) → right_product from table s g ≡ right_product from table s h
  pub composes_each : (t a b out : List ℕ) → product_lists.compose_each t g a b out ≡ product_lists.compose_each t h a b out
  pub inverts_each : (t a out : List ℕ) → product_lists.inverse_each t g a out ≡ product_lists.inverse_each t h a out
  pub powers_each : (t a : List ℕ) (exponents : List ℤ) (out : List ℕ) → product_lists.powi_each t g a exponents out ≡ product_lists.powi_each t h a exponents out

-- Every public call that is given a build under way.
pub record BuilderAlike (b c : Builder) : Type 0 where
  pub adds : (t : List ℕ) (e : GroupElementId) (g : GeneratorId) → grows t b e g ≡ grows t c e g
  pub sets : (t : List ℕ) (e : GroupElementId) (g : GeneratorId) (r : GroupElementId) → stores t b e g r ≡ stores t c e g r
  pub builts : (t w : List ℕ) → builds t b w ≡ builds t c w
