-- The five stores are those of the definition.
use lib.ListN.{length-set}
use native.Mathlib.Omega.{arith}
use Rattle.factor_word_letters.proofs.Letters.{put_five}
use Rattle.factor_word_letters.proofs.inner.put_five.Goals as goal

pub bounds-held-place-2 : goal.bounds-held-place-2
bounds-held-place-2 c = simp length-set (omega (arith, c.requires))

pub bounds-held-place-3 : goal.bounds-held-place-3
bounds-held-place-3 c = simp length-set (omega (arith, c.requires))

pub bounds-held-place-4 : goal.bounds-held-place-4
bounds-held-place-4 c = simp length-set (omega (arith, c.requires))

pub bounds-held-place-5 : goal.bounds-held-place-5
bounds-held-place-5 c = simp length-set (omega (arith, c.requires))

pub returns : goal.returns
returns c = put_five c.args.c c.args.place c.args.held.now
