-- Each C function of a product has one answer and leaves one thing in each lent list, by its own contract. Every contract is an equation with a definition over
-- the values at entry, so two outcomes that meet it are both that.
use Prim.Native.Nat.{ℕ}
use mathlib.Core.Path.{sym, ◌∙◌, ap}
use mathlib.Core.List.{List, [], ◌∷◌}
use Rattle.capi_values.specs.Bridge.{telling}
use Rattle.capi_group_build.proofs.hg_product.Kinds as hg-product-kinds
use Rattle.capi_group_build.proofs.hg_product.Reads as hg-product-reads
use Rattle.capi_group.proofs.hg_product_count.Kinds as hg-product-count-kinds
use Rattle.capi_group.proofs.hg_product_count.Reads as hg-product-count-reads
use Rattle.capi_group.proofs.hg_product_generators.Kinds as hg-product-generators-kinds
use Rattle.capi_group.proofs.hg_product_generators.Reads as hg-product-generators-reads
use Rattle.capi_group.proofs.hg_product_generator.Kinds as hg-product-generator-kinds
use Rattle.capi_group.proofs.hg_product_generator.Reads as hg-product-generator-reads
use Rattle.capi_group.proofs.hg_product_step.Kinds as hg-product-step-kinds
use Rattle.capi_group.proofs.hg_product_step.Reads as hg-product-step-reads
use Rattle.capi_walks.proofs.hg_product_walk.Kinds as hg-product-walk-kinds
use Rattle.capi_walks.proofs.hg_product_walk.Reads as hg-product-walk-reads
use Rattle.capi_group.proofs.hg_product_project.Kinds as hg-product-project-kinds
use Rattle.capi_group.proofs.hg_product_project.Reads as hg-product-project-reads
use Rattle.capi_group.proofs.hg_product_inject.Kinds as hg-product-inject-kinds
use Rattle.capi_group.proofs.hg_product_inject.Reads as hg-product-inject-reads
use Rattle.capi_group_build.proofs.hg_product_join.Kinds as hg-product-join-kinds
use Rattle.capi_group_build.proofs.hg_product_join.Reads as hg-product-join-reads
use Rattle.capi_group.proofs.hg_product_compose.Kinds as hg-product-compose-kinds
use Rattle.capi_group.proofs.hg_product_compose.Reads as hg-product-compose-reads
use Rattle.capi_group.proofs.hg_product_inverse.Kinds as hg-product-inverse-kinds
use Rattle.capi_group.proofs.hg_product_inverse.Reads as hg-product-inverse-reads
use Rattle.capi_group.proofs.hg_product_conjugate.Kinds as hg-product-conjugate-kinds
use Rattle.capi_group.proofs.hg_product_conjugate.Reads as hg-product-conjugate-reads
use Rattle.capi_group.proofs.hg_product_powi.Kinds as hg-product-powi-kinds
use Rattle.capi_group.proofs.hg_product_powi.Reads as hg-product-powi-reads
use Rattle.capi_group.proofs.hg_product_period.Kinds as hg-product-period-kinds
use Rattle.capi_group.proofs.hg_product_period.Reads as hg-product-period-reads
use Rattle.capi_group_build.proofs.hg_product_length.Kinds as hg-product-length-kinds
use Rattle.capi_group_build.proofs.hg_product_length.Reads as hg-product-length-reads
use Rattle.capi_group_build.proofs.hg_product_split.Kinds as hg-product-split-kinds
use Rattle.capi_group_build.proofs.hg_product_split.Reads as hg-product-split-reads
use Rattle.capi_group_build.proofs.hg_product_word.Kinds as hg-product-word-kinds
use Rattle.capi_group_build.proofs.hg_product_word.Reads as hg-product-word-reads
use Rattle.capi_group_build.proofs.hg_product_flatten.Kinds as hg-product-flatten-kinds
use Rattle.capi_group_build.proofs.hg_product_flatten.Reads as hg-product-flatten-reads
use Rattle.promises.specs.Unique.{Unique}

-- The number and the list of the answer: this function writes nothing else.
pub hg_product_unique : Unique 4 hg-product-kinds.ps hg-product-kinds.r hg-product-reads.Post (λ κs a x. telling a x.1.1.1.1.1.0.now [])
hg_product_unique = λ κs args a b x y p q. p ∙ sym q

-- The questions, which only read.
pub hg_product_count_unique : Unique 2 hg-product-count-kinds.ps hg-product-count-kinds.r hg-product-count-reads.Post (λ κs a x. a)
hg_product_count_unique = λ κs args a b x y p q. p ∙ sym q

pub hg_product_generators_unique : Unique 2 hg-product-generators-kinds.ps hg-product-generators-kinds.r hg-product-generators-reads.Post (λ κs a x. a)
hg_product_generators_unique = λ κs args a b x y p q. p ∙ sym q

pub hg_product_generator_unique : Unique 2 hg-product-generator-kinds.ps hg-product-generator-kinds.r hg-product-generator-reads.Post (λ κs a x. a)
hg_product_generator_unique = λ κs args a b x y p q. p ∙ sym q

pub hg_product_step_unique : Unique 2 hg-product-step-kinds.ps hg-product-step-kinds.r hg-product-step-reads.Post (λ κs a x. a)
hg_product_step_unique = λ κs args a b x y p q. p ∙ sym q

pub hg_product_walk_unique : Unique 3 hg-product-walk-kinds.ps hg-product-walk-kinds.r hg-product-walk-reads.Post (λ κs a x. a)
hg_product_walk_unique = λ κs args a b x y p q. p ∙ sym q

pub hg_product_project_unique : Unique 2 hg-product-project-kinds.ps hg-product-project-kinds.r hg-product-project-reads.Post (λ κs a x. a)
hg_product_project_unique = λ κs args a b x y p q. p ∙ sym q

pub hg_product_inject_unique : Unique 2 hg-product-inject-kinds.ps hg-product-inject-kinds.r hg-product-inject-reads.Post (λ κs a x. a)
hg_product_inject_unique = λ κs args a b x y p q. p ∙ sym q

pub hg_product_join_unique : Unique 3 hg-product-join-kinds.ps hg-product-join-kinds.r hg-product-join-reads.Post (λ κs a x. a)
hg_product_join_unique = λ κs args a b x y p q. p ∙ sym q

pub hg_product_compose_unique : Unique 2 hg-product-compose-kinds.ps hg-product-compose-kinds.r hg-product-compose-reads.Post (λ κs a x. a)
hg_product_compose_unique = λ κs args a b x y p q. p ∙ sym q

pub hg_product_inverse_unique : Unique 2 hg-product-inverse-kinds.ps hg-product-inverse-kinds.r hg-product-inverse-reads.Post (λ κs a x. a)
hg_product_inverse_unique = λ κs args a b x y p q. p ∙ sym q

pub hg_product_conjugate_unique : Unique 2 hg-product-conjugate-kinds.ps hg-product-conjugate-kinds.r hg-product-conjugate-reads.Post (λ κs a x. a)
hg_product_conjugate_unique = λ κs args a b x y p q. p ∙ sym q

pub hg_product_powi_unique : Unique 2 hg-product-powi-kinds.ps hg-product-powi-kinds.r hg-product-powi-reads.Post (λ κs a x. a)
hg_product_powi_unique = λ κs args a b x y p q. p ∙ sym q

pub hg_product_period_unique : Unique 2 hg-product-period-kinds.ps hg-product-period-kinds.r hg-product-period-reads.Post (λ κs a x. a)
hg_product_period_unique = λ κs args a b x y p q. p ∙ sym q

pub hg_product_length_unique : Unique 2 hg-product-length-kinds.ps hg-product-length-kinds.r hg-product-length-reads.Post (λ κs a x. a)
hg_product_length_unique = λ κs args a b x y p q. p ∙ sym q

-- The number, and what the lent list holds.
pub hg_product_split_unique : Unique 3 hg-product-split-kinds.ps hg-product-split-kinds.r hg-product-split-reads.Post
    {A = ℕ × List ℕ} (λ κs a x. (a, x.1.1.1.1.0.now))
hg_product_split_unique = λ κs args a b x y p q. ap (λ c. (c, x.1.1.1.1.0.now)) (p.0 ∙ sym q.0) ∙ ap (λ l. (b, l)) (p.1 ∙ sym q.1)

pub hg_product_word_unique : Unique 3 hg-product-word-kinds.ps hg-product-word-kinds.r hg-product-word-reads.Post
    {A = ℕ × List ℕ} (λ κs a x. (a, x.1.1.1.1.0.now))
hg_product_word_unique = λ κs args a b x y p q. ap (λ c. (c, x.1.1.1.1.0.now)) (p.0 ∙ sym q.0) ∙ ap (λ l. (b, l)) (p.1 ∙ sym q.1)

-- The number, the list of the answer, the table and the work; the buffer of the product is only read.
pub hg_product_flatten_unique : Unique 5 hg-product-flatten-kinds.ps hg-product-flatten-kinds.r hg-product-flatten-reads.Post
    (λ κs a x. telling a x.1.1.1.1.1.1.1.0.now (x.1.1.1.0.now ∷ x.1.1.1.1.1.0.now ∷ []))
hg_product_flatten_unique = λ κs args a b x y p q. p ∙ sym q
