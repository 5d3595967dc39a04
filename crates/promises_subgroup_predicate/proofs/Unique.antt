-- `from_predicate` has one answer and leaves one thing in each lent buffer, by its own contract, which is an equation with a definition over the values at
-- entry: the verdict and the value, the table, the work and both maps. The overgroup's buffer and the bytes are only read.
use mathlib.Core.Path.{sym, ◌∙◌}
use Rattle.subgroup_build.specs.Lent.{subgrouping}
use Rattle.subgroup_predicate.proofs.from_predicate.Kinds as from-predicate-kinds
use Rattle.subgroup_predicate.proofs.from_predicate.Reads as from-predicate-reads
use Rattle.promises.specs.Unique.{Unique}

pub from_predicate_unique : Unique 6 from-predicate-kinds.ps from-predicate-kinds.r from-predicate-reads.Post
    (λ κs a x. subgrouping a x.1.1.1.0.now x.1.1.1.1.1.0.now x.1.1.1.1.1.1.0.now x.1.1.1.1.1.1.1.0.now)
from_predicate_unique = λ κs args a b x y p q. p ∙ sym q
