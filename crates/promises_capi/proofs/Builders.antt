-- Each C function of a builder has one answer and leaves one thing in each lent list, by its own contract. Every contract is an equation with a definition
-- over the values at entry, so two outcomes that meet it are both that.
use mathlib.Core.Path.{sym, ◌∙◌}
use mathlib.Core.List.{[], ◌∷◌}
use Rattle.builder.specs.Calls.{leaving}
use Rattle.capi_values.specs.Bridge.{telling}
use Rattle.capi_builder.proofs.hg_begin.Kinds as hg-begin-kinds
use Rattle.capi_builder.proofs.hg_begin.Reads as hg-begin-reads
use Rattle.capi_builder.proofs.hg_add.Kinds as hg-add-kinds
use Rattle.capi_builder.proofs.hg_add.Reads as hg-add-reads
use Rattle.capi_builder.proofs.hg_set.Kinds as hg-set-kinds
use Rattle.capi_builder.proofs.hg_set.Reads as hg-set-reads
use Rattle.capi_builder.proofs.hg_build.Kinds as hg-build-kinds
use Rattle.capi_builder.proofs.hg_build.Reads as hg-build-reads
use Rattle.promises.specs.Unique.{Unique}

-- The number, the list of the answer and the table.
pub hg_begin_unique : Unique 2 hg-begin-kinds.ps hg-begin-kinds.r hg-begin-reads.Post (λ κs a x. telling a x.1.1.1.1.0.now (x.0.now ∷ []))
hg_begin_unique = λ κs args a b x y p q. p ∙ sym q

pub hg_add_unique : Unique 2 hg-add-kinds.ps hg-add-kinds.r hg-add-reads.Post (λ κs a x. telling a x.1.1.1.1.1.1.1.0.now (x.0.now ∷ []))
hg_add_unique = λ κs args a b x y p q. p ∙ sym q

-- The number and the table.
pub hg_set_unique : Unique 1 hg-set-kinds.ps hg-set-kinds.r hg-set-reads.Post (λ κs a x. leaving a x.0.now)
hg_set_unique = λ κs args a b x y p q. p ∙ sym q

-- The number, the list of the answer, the table and the work.
pub hg_build_unique : Unique 3 hg-build-kinds.ps hg-build-kinds.r hg-build-reads.Post
    (λ κs a x. telling a x.1.1.1.1.1.1.0.now (x.0.now ∷ x.1.1.1.1.1.0.now ∷ []))
hg_build_unique = λ κs args a b x y p q. p ∙ sym q
