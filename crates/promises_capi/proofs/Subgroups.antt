-- Each C function of a subgroup has one answer and leaves one thing in each lent list, by its own contract. Every contract is an equation with a definition
-- over the values at entry, so two outcomes that meet it are both that.
use mathlib.Core.Path.{sym, ◌∙◌}
use mathlib.Core.List.{[], ◌∷◌}
use Rattle.capi_values.specs.Bridge.{telling}
use Rattle.capi_subgroup.proofs.hg_subgroup.Kinds as hg-subgroup-kinds
use Rattle.capi_subgroup.proofs.hg_subgroup.Reads as hg-subgroup-reads
use Rattle.capi_subgroup.proofs.hg_subgroup_predicate.Kinds as hg-subgroup-predicate-kinds
use Rattle.capi_subgroup.proofs.hg_subgroup_predicate.Reads as hg-subgroup-predicate-reads
use Rattle.capi_subgroup.proofs.hg_subgroup_over.Kinds as hg-subgroup-over-kinds
use Rattle.capi_subgroup.proofs.hg_subgroup_over.Reads as hg-subgroup-over-reads
use Rattle.capi_subgroup.proofs.hg_subgroup_back.Kinds as hg-subgroup-back-kinds
use Rattle.capi_subgroup.proofs.hg_subgroup_back.Reads as hg-subgroup-back-reads
use Rattle.capi_subgroup.proofs.hg_subgroup_generator.Kinds as hg-subgroup-generator-kinds
use Rattle.capi_subgroup.proofs.hg_subgroup_generator.Reads as hg-subgroup-generator-reads
use Rattle.capi_subgroup.proofs.hg_subgroup_generators.Kinds as hg-subgroup-generators-kinds
use Rattle.capi_subgroup.proofs.hg_subgroup_generators.Reads as hg-subgroup-generators-reads
use Rattle.capi_subgroup.proofs.hg_subgroup_left.Kinds as hg-subgroup-left-kinds
use Rattle.capi_subgroup.proofs.hg_subgroup_left.Reads as hg-subgroup-left-reads
use Rattle.capi_subgroup.proofs.hg_subgroup_right.Kinds as hg-subgroup-right-kinds
use Rattle.capi_subgroup.proofs.hg_subgroup_right.Reads as hg-subgroup-right-reads
use Rattle.promises.specs.Unique.{Unique}

-- The functions that make a subgroup: the number, the list of the answer, the table, the work and both maps. The overgroup's buffer is only read.
pub hg_subgroup_unique : Unique 8 hg-subgroup-kinds.ps hg-subgroup-kinds.r hg-subgroup-reads.Post
    (λ κs a x. telling a x.1.1.1.1.1.1.1.1.1.1.0.now
    (x.1.1.1.1.0.now ∷ x.1.1.1.1.1.1.0.now ∷ x.1.1.1.1.1.1.1.0.now ∷ x.1.1.1.1.1.1.1.1.0.now ∷ []))
hg_subgroup_unique = λ κs args a b x y p q. p ∙ sym q

pub hg_subgroup_predicate_unique : Unique 8 hg-subgroup-predicate-kinds.ps hg-subgroup-predicate-kinds.r hg-subgroup-predicate-reads.Post
    (λ κs a x. telling a x.1.1.1.1.1.1.1.1.1.1.0.now
    (x.1.1.1.1.0.now ∷ x.1.1.1.1.1.1.0.now ∷ x.1.1.1.1.1.1.1.0.now ∷ x.1.1.1.1.1.1.1.1.0.now ∷ []))
hg_subgroup_predicate_unique = λ κs args a b x y p q. p ∙ sym q

-- The questions, which only read.
pub hg_subgroup_over_unique : Unique 4 hg-subgroup-over-kinds.ps hg-subgroup-over-kinds.r hg-subgroup-over-reads.Post (λ κs a x. a)
hg_subgroup_over_unique = λ κs args a b x y p q. p ∙ sym q

pub hg_subgroup_back_unique : Unique 4 hg-subgroup-back-kinds.ps hg-subgroup-back-kinds.r hg-subgroup-back-reads.Post (λ κs a x. a)
hg_subgroup_back_unique = λ κs args a b x y p q. p ∙ sym q

pub hg_subgroup_generator_unique : Unique 4 hg-subgroup-generator-kinds.ps hg-subgroup-generator-kinds.r hg-subgroup-generator-reads.Post (λ κs a x. a)
hg_subgroup_generator_unique = λ κs args a b x y p q. p ∙ sym q

pub hg_subgroup_generators_unique : Unique 3 hg-subgroup-generators-kinds.ps hg-subgroup-generators-kinds.r hg-subgroup-generators-reads.Post (λ κs a x. a)
hg_subgroup_generators_unique = λ κs args a b x y p q. p ∙ sym q

-- The number and the list of the answer: these functions write nothing else.
pub hg_subgroup_left_unique : Unique 5 hg-subgroup-left-kinds.ps hg-subgroup-left-kinds.r hg-subgroup-left-reads.Post (λ κs a x. telling a x.1.1.1.1.1.0.now [])
hg_subgroup_left_unique = λ κs args a b x y p q. p ∙ sym q

pub hg_subgroup_right_unique : Unique 5 hg-subgroup-right-kinds.ps hg-subgroup-right-kinds.r hg-subgroup-right-reads.Post (λ κs a x. telling a x.1.1.1.1.1.0.now [])
hg_subgroup_right_unique = λ κs args a b x y p q. p ∙ sym q
