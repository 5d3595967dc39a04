-- The handle is tested, and then each place's row answers.
use Rattle.lists.proofs.Places.{none_yet, all_places, right_here}
use Rattle.lists_factor.proofs.Sides.{rows_there, inverse_right}
use Prim.Native.Nat.{◌<◌}
use native.Mathlib.Omega.{arith}
use mathlib.Core.Path.{refl, sym, ◌∙◌}
use lib.ListN.{length-set}
use Rattle.lists_factor.proofs.inner.inverses_found.Goals as goal

pub returns-then-not-fits : goal.returns-then-not-fits
returns-then-not-fits c = (omega arith, none_yet)

pub part-s-requires : goal.part-s-requires
part-s-requires c = sym (c.fits.ensures) ∙ c.if-not-fits.false

pub loop-i-init : goal.loop-i-init
loop-i-init c = (none_yet, refl)

pub inverse_number-inverse-requires : goal.inverse_number-inverse-requires
inverse_number-inverse-requires c = rows_there (c.args.table.now) (c.args.f) (sym (c.fits.ensures) ∙ c.if-not-fits.false) (c.part-s.ensures)

pub shape_of-results-then-count-inverse : goal.shape_of-results-then-count-inverse
shape_of-results-then-count-inverse c = c.loop-i.invariant.1

pub returns-then-count-inverse : goal.returns-then-count-inverse
returns-then-count-inverse c = (omega (arith, c.loop-i-test.true), c.loop-i.invariant.0)

pub bounds-results-i : goal.bounds-results-i
bounds-results-i c = omega (arith, c.loop-i-test.true, c.requires, c.loop-i.invariant.1)

pub loop-i-preserved : goal.loop-i-preserved
loop-i-preserved c =
    let below : c.inverse_number-inverse.result < c.args.f.elements = omega (arith, c.if-count-inverse.false) in
    let R = c.inverse_number-inverse.ensures below in
    (right_here (c.loop-i.invariant.0) (omega (arith, c.loop-i-test.true, c.requires, c.loop-i.invariant.1)) (inverse_right (c.args.table.now) (c.args.f) (sym (c.fits.ensures) ∙ c.if-not-fits.false) (c.part-s.ensures) R.0 R.1 below), length-set (c.loop-i.results) (c.loop-i.i) (c.inverse_number-inverse.result) ∙ c.loop-i.invariant.1)

pub shape_of-results : goal.shape_of-results
shape_of-results c = c.loop-i.invariant.1

pub returns : goal.returns
returns c = (omega arith, all_places (c.loop-i.invariant.0) (omega (arith, c.loop-i-test.false)))
