use mathlib.Core.Path.{refl, ◌∙◌}
use native.Mathlib.Omega.{arith}
use Rattle.factor_word_letters.proofs.Letters.{spell_end, spell_more, spell_last}
use Rattle.factor_word_letters.proofs.inner.spell_from.Goals as goal

pub loop-left-init : goal.loop-left-init
loop-left-init c = (refl, refl)

pub put_letters-requires : goal.put_letters-requires
put_letters-requires c = c.requires

pub shape_of-out-then-left-le5 : goal.shape_of-out-then-left-le5
shape_of-out-then-left-le5 c = c.put_letters.auto.out ∙ c.loop-left.invariant.0

pub returns-then-left-le5 : goal.returns-then-left-le5
returns-then-left-le5 c = spell_last c.args.s.now c.args.n c.loop-left.at c.args.start c.args.offset c.loop-left.out c.loop-left-test.true c.hop-c.ensures c.put_letters.ensures c.if-left-le5.true ∙ c.loop-left.invariant.1

pub loop-left-smaller : goal.loop-left-smaller
loop-left-smaller c = omega (arith, c.loop-left-test.true)

pub loop-left-preserved : goal.loop-left-preserved
loop-left-preserved c = (c.put_letters.auto.out ∙ c.loop-left.invariant.0, spell_more c.args.s.now c.args.n c.loop-left.at c.args.start c.args.offset c.loop-left.out c.loop-left-test.true c.hop-c.ensures c.put_letters.ensures ∙ c.loop-left.invariant.1)

pub shape_of-out : goal.shape_of-out
shape_of-out c = c.loop-left.invariant.0

pub returns : goal.returns
returns c = spell_end c.args.s.now c.args.n c.loop-left.at c.args.start c.args.offset c.loop-left.out c.loop-left-test.false ∙ c.loop-left.invariant.1
