-- Each call over lists of a factor's elements has one answer and leaves one thing in the output list, by its own contract.
-- Assumes nothing.
use mathlib.Core.Path.{sym, ◌∙◌}
use Rattle.lists.specs.Lists.{answered}
use Rattle.promises.specs.Unique.{Unique}
use Rattle.lists_factor.proofs.compose_each.Kinds as compose-each-kinds
use Rattle.lists_factor.proofs.compose_each.Reads as compose-each-reads
use Rattle.lists_factor.proofs.inverse_each.Kinds as inverse-each-kinds
use Rattle.lists_factor.proofs.inverse_each.Reads as inverse-each-reads
use Rattle.lists_factor.proofs.powi_each.Kinds as powi-each-kinds
use Rattle.lists_factor.proofs.powi_each.Reads as powi-each-reads

-- The output list is the last parameter, after the table, the handle and the lists.
pub compose_each_unique : Unique 4 compose-each-kinds.ps compose-each-kinds.r compose-each-reads.Post (λ κs a x. answered a x.1.1.1.1.0.now)
compose_each_unique = λ κs args a b x y p q. p ∙ sym q

pub inverse_each_unique : Unique 3 inverse-each-kinds.ps inverse-each-kinds.r inverse-each-reads.Post (λ κs a x. answered a x.1.1.1.0.now)
inverse_each_unique = λ κs args a b x y p q. p ∙ sym q

pub powi_each_unique : Unique 4 powi-each-kinds.ps powi-each-kinds.r powi-each-reads.Post (λ κs a x. answered a x.1.1.1.1.0.now)
powi_each_unique = λ κs args a b x y p q. p ∙ sym q
