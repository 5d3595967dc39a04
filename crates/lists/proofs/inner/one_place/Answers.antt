-- Where it is said, each test has passed.
use borrow.Author.Rules.{rules}
use borrow.Author.Tests.{eqb-true}
use Rattle.lists.proofs.inner.one_place.Goals as goal

pub returns-then-first-ne1 : goal.returns-then-first-ne1
returns-then-first-ne1 c = λ h. search rules

pub returns-then-second-ne1 : goal.returns-then-second-ne1
returns-then-second-ne1 c = λ h. search rules

pub returns : goal.returns
returns c = λ h. (c.if-first-ne1.false, (c.if-second-ne1.false, eqb-true _ _ h))
