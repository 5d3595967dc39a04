-- This file defines what a product of accepted factors is, and states what the answers about it say.
use Rattle.std.specs.Prelude.{ℕ, zero, suc, ◌*◌, ◌/◌, ◌%◌, ◌≤◌, ◌<◌, ◌≡◌, true, List, [], ◌∷◌, ◌++◌, length, drop, get_or, ℤ}
use Rattle.egg.specs.declared.Factor.{Factor}
use Rattle.std.specs.Prelude.{Ok}
use Rattle.theory.specs.Table.{generator}
use Rattle.theory.specs.Words.{walk}
use Rattle.theory.specs.Group.{GroupOn, RightSteps, conjugate, integer_power, Period}
use Rattle.factor.specs.Questions as factor
use Rattle.factor_laws.specs.Accepted.{Accepted, factor_step, factor_back, factor_word, reach}
use Rattle.theory_radix.specs.Radix.{split, inject}
use Rattle.theory_products.specs.Product.{Part, table_part, product}
use Rattle.group_handles.specs.declared.Group.{Group}
use Rattle.group_handles.specs.Handles.{handles, sizes, limited}
use Rattle.group.specs.Questions.{count_answer, generators_answer, generator_answer, step_answer, project_answer, inject_answer, split_answer, split_leaves, join_answer}
use Rattle.group.specs.Questions.{compose_answer, inverse_answer, conjugate_answer, powi_answer, period_answer, length_answer, write_answer, written, word_part}

-- A factor as a part of a direct product: what its stretch holds.
abbrev pub part : List ℕ → Factor → Part
part t h = table_part h.generators h.elements (factor_step t h) (factor_back t h) (factor_word t h)

-- The factors of a list as parts.
abbrev pub parts : List ℕ → List Factor → List Part
parts t [] = []
parts t (h ∷ hs) = part t h ∷ parts t hs

-- "In a product for each factor": every handle that is listed is an accepted factor's.
pub data AllAccepted (t : List ℕ) : List Factor → Type 0 where
  none : AllAccepted t []
  more : {h : Factor} {hs : List Factor} → Accepted t h → AllAccepted t hs → AllAccepted t (h ∷ hs)

-- A product of accepted factors, within document 01's limits: "factors per product 0 to 8; product elements at most 4,294,967,295".
pub record AcceptedProduct (t : List ℕ) (g : Group) : Type 0 where
  pub factors : AllAccepted t (handles g)
  pub within : limited g ≡ true

-- The direct product of the factors, in theory's words.
abbrev pub direct : List ℕ → Group → Part
direct t g = product (parts t (handles g))

-- The list f 0, f 1, .. , of m numbers.
abbrev pub listed : ℕ → (ℕ → ℕ) → List ℕ
listed zero f = []
listed (suc m) f = f 0 ∷ listed m (λ i. f (suc i))

-- The steps by n generators from each of `room` elements, as a list of composed numbers has them.
abbrev pub step_rows : (ℕ → ℕ → ℕ) → ℕ → ℕ → List ℕ
step_rows step n room = listed (room * n) (λ i. step (i / n) (i % n))

-- Every answer about the product is the direct product's own.
pub record ProductAnswers (t : List ℕ) (g : Group) (P : Part) : Type 0 where
  pub group : GroupOn P.elements P.op P.inv
  pub right_steps : RightSteps P.generators P.elements P.step P.op
  pub counts : count_answer t g ≡ Ok P.elements
  pub generator_counts : generators_answer t g ≡ Ok P.generators
  pub generators : {x : ℕ} → x < P.generators → generator_answer t g (record { 0 = x }) ≡ reach (generator P.step x)
  pub steps : {e x : ℕ} → e < P.elements → x < P.generators
      → step_answer t g (record { 0 = e }) (record { 0 = x }) ≡ reach (P.op e (generator P.step x))
  pub composes : {a b : ℕ} → a < P.elements → b < P.elements → compose_answer t g (record { 0 = a }) (record { 0 = b }) ≡ reach (P.op a b)
  pub inverts : {a : ℕ} → a < P.elements → inverse_answer t g (record { 0 = a }) ≡ reach (P.inv a)
  pub conjugates : {a b : ℕ} → a < P.elements → b < P.elements
      → conjugate_answer t g (record { 0 = a }) (record { 0 = b }) ≡ reach (conjugate P.op P.inv a b)
  pub powers : {a : ℕ} → a < P.elements → (z : ℤ) → powi_answer t g (record { 0 = a }) z ≡ reach (integer_power P.op P.inv a z)
  pub periods : {a : ℕ} → a < P.elements → (k : ℕ) × (period_answer t g (record { 0 = a }) ≡ Ok k) × Period P.op a k
  -- Splitting gives the digits, and joining them gives the element back.
  pub split_counts : {e : ℕ} (size : ℕ) → e < P.elements → length (handles g) ≤ size → split_answer t g (record { 0 = e }) size ≡ Ok (length (handles g))
  pub splits : {e : ℕ} (out : List ℕ) → e < P.elements → length (handles g) ≤ length out
      → split_leaves t g (record { 0 = e }) out ≡ split (sizes (handles g)) e ++ drop (length (handles g)) out
  pub joins : {e : ℕ} → e < P.elements → join_answer t g (split (sizes (handles g)) e) ≡ reach e
  pub projects : {f e : ℕ} → f < length (handles g) → e < P.elements
      → project_answer t g f (record { 0 = e }) ≡ reach (get_or (split (sizes (handles g)) e) f 0)
  pub injects : {f x : ℕ} → f < length (handles g) → x < get_or (sizes (handles g)) f 1
      → inject_answer t g f (record { 0 = x }) ≡ reach (inject (sizes (handles g)) f x)
  -- The word that is written leads from the identity to its element.
  pub lengths : {e : ℕ} → e < P.elements → length_answer t g (record { 0 = e }) ≡ Ok (length (P.word e))
  pub writes : {e : ℕ} (size : ℕ) → e < P.elements → length (P.word e) ≤ size → write_answer t g (record { 0 = e }) size ≡ Ok (length (P.word e))
  pub leaves : {e : ℕ} (out : List ℕ) → e < P.elements → length (P.word e) ≤ length out
      → written t g (record { 0 = e }) out ≡ P.word e ++ drop (length (P.word e)) out
  pub filled : {e : ℕ} (out : List ℕ) → e < P.elements → length (P.word e) ≤ length out → word_part t g (record { 0 = e }) out ≡ P.word e
  pub spells : {e : ℕ} → e < P.elements → walk P.step 0 (P.word e) ≡ e
  -- No other group has these right steps.
  pub only_product : {op' : ℕ → ℕ → ℕ} {inv' : ℕ → ℕ} {a b : ℕ} → GroupOn P.elements op' inv'
      → RightSteps P.generators P.elements P.step op' → a < P.elements → b < P.elements → op' a b ≡ P.op a b

-- What `flatten` gives where it is fine: an accepted factor with the product's own numbers. "GeneratorIds and GroupElementIds are compatible between the
-- original group and the flattened group" (001).
pub record FlatGiven (P : Part) (t : List ℕ) (f : Factor) : Type 0 where
  pub accepted : Accepted t f
  pub same_elements : f.elements ≡ P.elements
  pub same_generators : f.generators ≡ P.generators
  pub same_steps : {e x : ℕ} → e < f.elements → x < f.generators → factor_step t f e x ≡ P.step e x
  pub composes : {a b : ℕ} → a < f.elements → b < f.elements → factor.compose_answer t f (record { 0 = a }) (record { 0 = b }) ≡ reach (P.op a b)
  pub inverts : {a : ℕ} → a < f.elements → factor.inverse_answer t f (record { 0 = a }) ≡ reach (P.inv a)
