use Rattle.egg.proofs.Refusing.{handed_on}
use Rattle.lists.proofs.Places.{come_so_far, stores, refuses, worked}
use borrow.Author.Rules.{rules}
use native.Mathlib.Omega.{arith}
use mathlib.Core.Path.{refl}
use lib.ListN.{length-set}
use Rattle.lists_factor.proofs.inner.inverse_in_turn.Goals as goal

pub loop-i-init : goal.loop-i-init
loop-i-init c = (come_so_far (c.requires.1.1) (c.requires.0) (omega (arith, c.requires.0, c.requires.1.0)), refl)

pub shape_of-results-in_err-e : goal.shape_of-results-in_err-e
shape_of-results-in_err-e c = c.loop-i.invariant.1

pub returns-in_err-e : goal.returns-in_err-e
returns-in_err-e c = rw (handed_on c.from_residual.ensures) (refuses (c.loop-i.invariant.0) (search rules) (c.inverse-said.ensures) c.at_place.ensures (c.in_err-e.was))

pub bounds-results-i : goal.bounds-results-i
bounds-results-i c = omega (arith, c.requires.1.0, c.loop-i.invariant.1)

pub loop-i-preserved : goal.loop-i-preserved
loop-i-preserved c = (stores (c.loop-i.invariant.0) (search rules) (omega (arith, c.requires.1.0, c.loop-i.invariant.1)) (c.inverse-said.ensures) c.at_place.ensures (c.in_ok-e.was), simp length-set (c.loop-i.invariant.1))

pub shape_of-results : goal.shape_of-results
shape_of-results c = c.loop-i.invariant.1

pub returns : goal.returns
returns c = worked (c.loop-i.invariant.0) (search rules)
