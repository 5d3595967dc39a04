-- Each call on subgroups has one answer and leaves one thing in each lent buffer, by its own contract. Every contract is an equation with a definition over
-- the values at entry, so two outcomes that meet it are both that.
use mathlib.Core.Path.{sym, ◌∙◌}
use Rattle.subgroup_build.specs.Lent.{subgrouping}
use Rattle.subgroup.proofs.from_generators.Kinds as from-generators-kinds
use Rattle.subgroup.proofs.from_generators.Reads as from-generators-reads
use Rattle.subgroup.proofs.product_left.Kinds as product-left-kinds
use Rattle.subgroup.proofs.product_left.Reads as product-left-reads
use Rattle.subgroup.proofs.product_right.Kinds as product-right-kinds
use Rattle.subgroup.proofs.product_right.Reads as product-right-reads
use Rattle.subgroup.proofs.to_overgroup.Kinds as to-overgroup-kinds
use Rattle.subgroup.proofs.to_overgroup.Reads as to-overgroup-reads
use Rattle.subgroup.proofs.to_subgroup.Kinds as to-subgroup-kinds
use Rattle.subgroup.proofs.to_subgroup.Reads as to-subgroup-reads
use Rattle.subgroup.proofs.generator.Kinds as generator-kinds
use Rattle.subgroup.proofs.generator.Reads as generator-reads
use Rattle.subgroup.proofs.trivial.Kinds as trivial-kinds
use Rattle.subgroup.proofs.trivial.Reads as trivial-reads
use Rattle.subgroup.proofs.generator_count.Kinds as generator-count-kinds
use Rattle.subgroup.proofs.generator_count.Reads as generator-count-reads
use Rattle.subgroup.proofs.overgroup.Kinds as overgroup-kinds
use Rattle.subgroup.proofs.overgroup.Reads as overgroup-reads
use Rattle.promises.specs.Unique.{Unique}

-- The call that makes a subgroup: the verdict and the value, the table, the work and both maps. The overgroup's buffer and the list are only read.
pub from_generators_unique : Unique 6 from-generators-kinds.ps from-generators-kinds.r from-generators-reads.Post
    (λ κs a x. subgrouping a x.1.1.1.0.now x.1.1.1.1.1.0.now x.1.1.1.1.1.1.0.now x.1.1.1.1.1.1.1.0.now)
from_generators_unique = λ κs args a b x y p q. p ∙ sym q

-- The same call without generators, of the group of one element.
pub trivial_unique : Unique 4 trivial-kinds.ps trivial-kinds.r trivial-reads.Post
    (λ κs a x. subgrouping a x.0.now x.1.1.0.now x.1.1.1.0.now x.1.1.1.1.0.now)
trivial_unique = λ κs args a b x y p q. p ∙ sym q

-- The products with further factors, and the questions: they write to no buffer.
pub product_left_unique : Unique 2 product-left-kinds.ps product-left-kinds.r product-left-reads.Post (λ κs a x. a)
product_left_unique = λ κs args a b x y p q. p ∙ sym q

pub product_right_unique : Unique 2 product-right-kinds.ps product-right-kinds.r product-right-reads.Post (λ κs a x. a)
product_right_unique = λ κs args a b x y p q. p ∙ sym q

pub to_overgroup_unique : Unique 3 to-overgroup-kinds.ps to-overgroup-kinds.r to-overgroup-reads.Post (λ κs a x. a)
to_overgroup_unique = λ κs args a b x y p q. p ∙ sym q

pub to_subgroup_unique : Unique 3 to-subgroup-kinds.ps to-subgroup-kinds.r to-subgroup-reads.Post (λ κs a x. a)
to_subgroup_unique = λ κs args a b x y p q. p ∙ sym q

pub generator_unique : Unique 3 generator-kinds.ps generator-kinds.r generator-reads.Post (λ κs a x. a)
generator_unique = λ κs args a b x y p q. p ∙ sym q

pub generator_count_unique : Unique 2 generator-count-kinds.ps generator-count-kinds.r generator-count-reads.Post (λ κs a x. a)
generator_count_unique = λ κs args a b x y p q. p ∙ sym q

pub overgroup_unique : Unique 2 overgroup-kinds.ps overgroup-kinds.r overgroup-reads.Post (λ κs a x. a)
overgroup_unique = λ κs args a b x y p q. p ∙ sym q
