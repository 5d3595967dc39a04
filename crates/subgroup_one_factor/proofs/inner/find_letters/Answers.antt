use mathlib.Core.Path.{refl}
use lib.ListN.{length-set}
use Rattle.subgroup_one_factor.proofs.LetterLaws.{letters_none, letters_next, letters_end}
use Rattle.subgroup_one_factor.proofs.inner.find_letters.Goals as goal

pub loop-i-init : goal.loop-i-init
loop-i-init c = (refl, letters_none c.args.s.now c.args.n c.args.count c.args.gens.now c.args.letters.now)

pub nonzero_rem-by : goal.nonzero_rem-by
nonzero_rem-by c = c.requires

pub loop-i-preserved : goal.loop-i-preserved
loop-i-preserved c = (simp length-set c.loop-i.invariant.0, letters_next c.loop-i.invariant.1 (rw c.loop-i.invariant.0 c.loop-i-test.true) c.get-by.ensures c.step_letter.ensures)

pub shape_of-letters : goal.shape_of-letters
shape_of-letters c = c.loop-i.invariant.0

pub returns : goal.returns
returns c = letters_end c.loop-i.invariant.1 (rw c.loop-i.invariant.0 c.loop-i-test.false)
