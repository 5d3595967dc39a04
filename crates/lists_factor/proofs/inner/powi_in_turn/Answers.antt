use Rattle.egg.proofs.Refusing.{handed_on}
use Rattle.group_powers.proofs.Signs.{read_is}
use Rattle.lists.proofs.Places.{working, stores, refuses, worked, exponent_there}
use borrow.Author.Rules.{rules}
use native.Mathlib.Omega.{arith}
use mathlib.Core.Path.{refl, ◌∙◌}
use lib.ListN.{get_or, length-set}
use Rattle.group_powers.specs.Powers.{powi_alone}
use lib.IntN.{ℤ}
use Rattle.lists_factor.proofs.inner.powi_in_turn.Goals as goal

pub loop-i-init : goal.loop-i-init
loop-i-init c = (working, refl)

pub exponent-k-requires : goal.exponent-k-requires
exponent-k-requires c = omega (arith, c.requires.0)

pub shape_of-results-in_err-e : goal.shape_of-results-in_err-e
shape_of-results-in_err-e c = c.loop-i.invariant.1

pub returns-in_err-e : goal.returns-in_err-e
returns-in_err-e c = rw (handed_on c.from_residual.ensures) (refuses (c.loop-i.invariant.0) (search rules) (exponent_there (λ (z : ℤ). powi_alone (c.args.table.now) (c.args.f) (record { 0 = get_or (c.args.a.now) (c.loop-i.i) 0 }) z) (c.powi-said.ensures) (read_is (c.exponent-k.result) (record { sfits = c.exponent-k.type_inv }) ∙ c.exponent-k.ensures)) c.at_place.ensures (c.in_err-e.was))

pub bounds-results-i : goal.bounds-results-i
bounds-results-i c = omega (arith, c.requires.1, c.loop-i.invariant.1)

pub loop-i-preserved : goal.loop-i-preserved
loop-i-preserved c = (stores (c.loop-i.invariant.0) (search rules) (omega (arith, c.requires.1, c.loop-i.invariant.1)) (exponent_there (λ (z : ℤ). powi_alone (c.args.table.now) (c.args.f) (record { 0 = get_or (c.args.a.now) (c.loop-i.i) 0 }) z) (c.powi-said.ensures) (read_is (c.exponent-k.result) (record { sfits = c.exponent-k.type_inv }) ∙ c.exponent-k.ensures)) c.at_place.ensures (c.in_ok-e.was), simp length-set (c.loop-i.invariant.1))

pub shape_of-results : goal.shape_of-results
shape_of-results c = c.loop-i.invariant.1

pub returns : goal.returns
returns c = worked (c.loop-i.invariant.0) (search rules)
