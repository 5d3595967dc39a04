-- One law for each answer.
use mathlib.Core.Path.{◌∙◌}
use Rattle.factor_questions.proofs.Walks.{generator_none, generator_step}
use Rattle.factor_questions.proofs.inner.generator_in.Goals as goal

pub returns-then-n-g : goal.returns-then-n-g
returns-then-n-g c = let a = c.args in generator_none a.s.now a.n a.count a.g.0 c.if-n-g.true

pub returns : goal.returns
returns c = let a = c.args in c.next.ensures ∙ generator_step a.s.now a.n a.count a.g.0 c.if-n-g.false
