-- Two calls of products and what is kept of them are one round, by `raised_next`.
use mathlib.Core.Path.{◌∙◌}
use Rattle.lists_powers.proofs.Rounds.{raised_next}
use borrow.Author.Rules.{rules}
use Rattle.lists_powers.proofs.inner.round.Goals as goal

pub returns-then-not-products : goal.returns-then-not-products
returns-then-not-products c = λ h. search rules

pub returns-then-not-products-2 : goal.returns-then-not-products-2
returns-then-not-products-2 c = λ h. search rules

pub keep-requires : goal.keep-requires
keep-requires c = (c.requires.0, (c.products.auto.results ∙ c.requires.1.1.1.0, c.products-2.auto.results ∙ c.requires.1.1.0))

pub returns : goal.returns
returns c = λ h. raised_next (c.requires.1.1.1.1.1) (c.factors.ensures) (c.products.ensures (c.if-not-products.false)) (c.products-2.ensures (c.if-not-products-2.false)) (c.keep.ensures) (c.requires.1.0) (c.requires.1.1.0) (c.products.auto.results ∙ c.requires.1.1.1.0)
