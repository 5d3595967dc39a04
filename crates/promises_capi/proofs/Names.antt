-- Each C function with a name has one answer and leaves one thing in each lent list, by its own contract. Every contract is an equation with a definition
-- over the values at entry, so two outcomes that meet it are both that.
use Prim.Native.Nat.{ℕ}
use mathlib.Core.Path.{sym, ◌∙◌, ap}
use mathlib.Core.List.{List, [], ◌∷◌}
use Rattle.capi_values.specs.Bridge.{telling}
use Rattle.capi_names.proofs.hg_composed_named.Kinds as hg-composed-named-kinds
use Rattle.capi_names.proofs.hg_composed_named.Reads as hg-composed-named-reads
use Rattle.capi_names.proofs.hg_enumerate_named.Kinds as hg-enumerate-named-kinds
use Rattle.capi_names.proofs.hg_enumerate_named.Reads as hg-enumerate-named-reads
use Rattle.capi_names.proofs.hg_begin_named.Kinds as hg-begin-named-kinds
use Rattle.capi_names.proofs.hg_begin_named.Reads as hg-begin-named-reads
use Rattle.capi_names.proofs.hg_joined.Kinds as hg-joined-kinds
use Rattle.capi_names.proofs.hg_joined.Reads as hg-joined-reads
use Rattle.capi_names.proofs.hg_joined_part.Kinds as hg-joined-part-kinds
use Rattle.capi_names.proofs.hg_joined_part.Reads as hg-joined-part-reads
use Rattle.promises.specs.Unique.{Unique}

-- The functions that make a factor: the number, the list of the answer, the table, the work and the record.
pub hg_composed_named_unique : Unique 6 hg-composed-named-kinds.ps hg-composed-named-kinds.r hg-composed-named-reads.Post
    (λ κs a x. telling a x.1.1.1.1.1.1.1.0.now (x.0.now ∷ x.1.1.0.now ∷ x.1.1.1.1.1.1.1.1.0.now ∷ []))
hg_composed_named_unique = λ κs args a b x y p q. p ∙ sym q

pub hg_enumerate_named_unique : Unique 6 hg-enumerate-named-kinds.ps hg-enumerate-named-kinds.r hg-enumerate-named-reads.Post
    (λ κs a x. telling a x.1.1.1.1.1.1.1.0.now (x.0.now ∷ x.1.1.0.now ∷ x.1.1.1.1.1.1.1.1.0.now ∷ []))
hg_enumerate_named_unique = λ κs args a b x y p q. p ∙ sym q

-- The number, the list of the answer, the table and the record.
pub hg_begin_named_unique : Unique 4 hg-begin-named-kinds.ps hg-begin-named-kinds.r hg-begin-named-reads.Post
    (λ κs a x. telling a x.1.1.1.1.1.0.now (x.0.now ∷ x.1.1.1.1.1.1.0.now ∷ []))
hg_begin_named_unique = λ κs args a b x y p q. p ∙ sym q

-- The number, and what the lent bytes hold.
pub hg_joined_unique : Unique 4 hg-joined-kinds.ps hg-joined-kinds.r hg-joined-reads.Post {A = ℕ × List ℕ} (λ κs a x. (a, x.1.1.1.1.0.now))
hg_joined_unique = λ κs args a b x y p q. ap (λ c. (c, x.1.1.1.1.0.now)) (p.0 ∙ sym q.0) ∙ ap (λ l. (b, l)) (p.1 ∙ sym q.1)

-- A question, which only reads.
pub hg_joined_part_unique : Unique 3 hg-joined-part-kinds.ps hg-joined-part-kinds.r hg-joined-part-reads.Post (λ κs a x. a)
hg_joined_part_unique = λ κs args a b x y p q. p ∙ sym q
