-- By care, or by a step.
use native.Mathlib.Omega.{arith}
use Rattle.subgroup_one_factor.proofs.LetterLaws.{letter_step}
use Rattle.subgroup_one_factor.proofs.inner.letter_product.Goals as goal

pub returns : goal.returns
returns c = letter_step c.args.from.now c.args.f c.args.a.0 c.args.b.0 c.args.letter c.part.ensures c.requires.1 (omega (arith, c.if-letter-eq0.false)) c.if-f-a.false c.next.ensures
