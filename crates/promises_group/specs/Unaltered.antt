-- This file defines what it is for a product that its factors' stretches were left alone. Document 01: "its handle and its needed stretch of table
-- come unaltered from the call that accepted it, in a product for each factor".
use Rattle.std.specs.Prelude.{ℕ, ◌≡◌, List, [], ◌∷◌, ℤ}
use Rattle.egg.specs.declared.Factor.{Factor}
use Rattle.egg.specs.declared.GroupElementId.{GroupElementId}
use Rattle.egg.specs.declared.GeneratorId.{GeneratorId}
use Rattle.factor_laws.specs.Unaltered.{Unaltered}
use Rattle.promises.specs.Leaves.{Lent}
use Rattle.promises.specs.Unaltered.{Apart}
use Rattle.group_handles.specs.declared.Group.{Group}
use Rattle.group_flatten.specs.Flat.{flat}
use Rattle.group.specs.Questions.{count_answer, generators_answer, generator_answer, step_answer, project_answer, inject_answer, split_answer, split_leaves, join_answer}
use Rattle.group.specs.Questions.{compose_answer, inverse_answer, conjugate_answer, powi_answer, period_answer, length_answer, write_answer, written, word_part}
use Rattle.promises_group.specs.Products.{AcceptedProduct}

-- Each factor of a list is unaltered between the buffers t and t'.
pub data AllUnaltered (t t' : List ℕ) : List Factor → Type 0 where
  none : AllUnaltered t t' []
  more : {h : Factor} {hs : List Factor} → Unaltered t t' h → AllUnaltered t t' hs → AllUnaltered t t' (h ∷ hs)

-- None of the factors overlaps the stretch that a call was lent.
pub data AllApart (b : Lent) : List Factor → Type 0 where
  alone : AllApart b []
  beside : {h : Factor} {hs : List Factor} → Apart h b → AllApart b hs → AllApart b (h ∷ hs)

-- Of the product g, accepted in the buffer t, the buffer t' holds the same: it is accepted there too, and every answer about it is the one from t.
pub record UnalteredProduct (t t' : List ℕ) (g : Group) : Type 0 where
  pub accepted : AcceptedProduct t' g
  pub counts : count_answer t' g ≡ count_answer t g
  pub generator_counts : generators_answer t' g ≡ generators_answer t g
  pub generators : (x : GeneratorId) → generator_answer t' g x ≡ generator_answer t g x
  pub steps : (e : GroupElementId) (x : GeneratorId) → step_answer t' g e x ≡ step_answer t g e x
  pub projects : (f : ℕ) (e : GroupElementId) → project_answer t' g f e ≡ project_answer t g f e
  pub injects : (f : ℕ) (x : GroupElementId) → inject_answer t' g f x ≡ inject_answer t g f x
  pub splits : (e : GroupElementId) (size : ℕ) → split_answer t' g e size ≡ split_answer t g e size
  pub split_leaves_lem : (e : GroupElementId) (out : List ℕ) → split_leaves t' g e out ≡ split_leaves t g e out
  pub joined : (digits : List ℕ) → join_answer t' g digits ≡ join_answer t g digits
  pub composes : (a b : GroupElementId) → compose_answer t' g a b ≡ compose_answer t g a b
  pub inverts : (a : GroupElementId) → inverse_answer t' g a ≡ inverse_answer t g a
  pub conjugates : (a b : GroupElementId) → conjugate_answer t' g a b ≡ conjugate_answer t g a b
  pub powers : (a : GroupElementId) (i : ℤ) → powi_answer t' g a i ≡ powi_answer t g a i
  pub periods : (a : GroupElementId) → period_answer t' g a ≡ period_answer t g a
  pub lengths : (e : GroupElementId) → length_answer t' g e ≡ length_answer t g e
  pub writes : (e : GroupElementId) (size : ℕ) → write_answer t' g e size ≡ write_answer t g e size
  pub leaves : (e : GroupElementId) (out : List ℕ) → written t' g e out ≡ written t g e out
  pub filled : (e : GroupElementId) (out : List ℕ) → word_part t' g e out ≡ word_part t g e out
  pub flattens : (table : List ℕ) (start : ℕ) (work : List ℕ) (room : ℕ) → flat t' g table start work room ≡ flat t g table start work room
