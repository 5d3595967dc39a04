-- Each C function over lists has one answer and leaves one thing in each lent list, by its own contract. Every contract is an equation with a definition over
-- the values at entry, so two outcomes that meet it are both that.
use mathlib.Core.Path.{sym, ◌∙◌}
use mathlib.Core.List.{[], ◌∷◌}
use Rattle.capi_values.specs.Bridge.{telling}
use Rattle.capi_lists_compose.proofs.hg_compose_each.Kinds as hg-compose-each-kinds
use Rattle.capi_lists_compose.proofs.hg_compose_each.Reads as hg-compose-each-reads
use Rattle.capi_lists.proofs.hg_inverse_each.Kinds as hg-inverse-each-kinds
use Rattle.capi_lists.proofs.hg_inverse_each.Reads as hg-inverse-each-reads
use Rattle.capi_lists.proofs.hg_powi_each.Kinds as hg-powi-each-kinds
use Rattle.capi_lists.proofs.hg_powi_each.Reads as hg-powi-each-reads
use Rattle.capi_lists.proofs.hg_product_compose_each.Kinds as hg-product-compose-each-kinds
use Rattle.capi_lists.proofs.hg_product_compose_each.Reads as hg-product-compose-each-reads
use Rattle.capi_lists.proofs.hg_product_inverse_each.Kinds as hg-product-inverse-each-kinds
use Rattle.capi_lists.proofs.hg_product_inverse_each.Reads as hg-product-inverse-each-reads
use Rattle.capi_lists.proofs.hg_product_powi_each.Kinds as hg-product-powi-each-kinds
use Rattle.capi_lists.proofs.hg_product_powi_each.Reads as hg-product-powi-each-reads
use Rattle.promises.specs.Unique.{Unique}

-- The number, the list of the verdict and the list of the results.
pub hg_compose_each_unique : Unique 5 hg-compose-each-kinds.ps hg-compose-each-kinds.r hg-compose-each-reads.Post (λ κs a x. telling a x.1.1.1.1.1.1.1.1.0.now (x.1.1.1.1.1.1.1.0.now ∷ []))
hg_compose_each_unique = λ κs args a b x y p q. p ∙ sym q

pub hg_inverse_each_unique : Unique 4 hg-inverse-each-kinds.ps hg-inverse-each-kinds.r hg-inverse-each-reads.Post (λ κs a x. telling a x.1.1.1.1.1.1.1.0.now (x.1.1.1.1.1.1.0.now ∷ []))
hg_inverse_each_unique = λ κs args a b x y p q. p ∙ sym q

pub hg_powi_each_unique : Unique 5 hg-powi-each-kinds.ps hg-powi-each-kinds.r hg-powi-each-reads.Post (λ κs a x. telling a x.1.1.1.1.1.1.1.1.0.now (x.1.1.1.1.1.1.1.0.now ∷ []))
hg_powi_each_unique = λ κs args a b x y p q. p ∙ sym q

pub hg_product_compose_each_unique : Unique 6 hg-product-compose-each-kinds.ps hg-product-compose-each-kinds.r hg-product-compose-each-reads.Post (λ κs a x. telling a x.1.1.1.1.1.1.0.now (x.1.1.1.1.1.0.now ∷ []))
hg_product_compose_each_unique = λ κs args a b x y p q. p ∙ sym q

pub hg_product_inverse_each_unique : Unique 5 hg-product-inverse-each-kinds.ps hg-product-inverse-each-kinds.r hg-product-inverse-each-reads.Post (λ κs a x. telling a x.1.1.1.1.1.0.now (x.1.1.1.1.0.now ∷ []))
hg_product_inverse_each_unique = λ κs args a b x y p q. p ∙ sym q

pub hg_product_powi_each_unique : Unique 6 hg-product-powi-each-kinds.ps hg-product-powi-each-kinds.r hg-product-powi-each-reads.Post (λ κs a x. telling a x.1.1.1.1.1.1.0.now (x.1.1.1.1.1.0.now ∷ []))
hg_product_powi_each_unique = λ κs args a b x y p q. p ∙ sym q
