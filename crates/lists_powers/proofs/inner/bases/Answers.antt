use mathlib.Core.Path.{refl, ◌∙◌}
use lib.ListN.{length-set}
use native.Mathlib.Omega.{arith}
use borrow.Author.Rules.{rules}
use Rattle.group_powers.proofs.Signs.{read_is}
use Rattle.lists_powers.proofs.Places.{bases_none, bases_next, bases_all}
use Rattle.lists_powers.proofs.inner.bases.Goals as goal

pub loop-i-init : goal.loop-i-init
loop-i-init c = (bases_none, (refl, refl))

pub exponent-e-requires : goal.exponent-e-requires
exponent-e-requires c = omega (arith, c.requires.0)

pub shape_of-bs-in_default : goal.shape_of-bs-in_default
shape_of-bs-in_default c = c.loop-i.invariant.1.0

pub shape_of-ks-in_default : goal.shape_of-ks-in_default
shape_of-ks-in_default c = c.loop-i.invariant.1.1

pub returns-in_default : goal.returns-in_default
returns-in_default c = λ h. search rules

pub bounds-bs-i : goal.bounds-bs-i
bounds-bs-i c = omega (arith, c.requires.1.0, c.loop-i.invariant.1.0)

pub bounds-ks-i : goal.bounds-ks-i
bounds-ks-i c = omega (arith, c.requires.1.1, c.loop-i.invariant.1.1)

pub loop-i-preserved : goal.loop-i-preserved
loop-i-preserved c = (bases_next (c.loop-i.invariant.0) (omega (arith, c.requires.1.0, c.loop-i.invariant.1.0)) (omega (arith, c.requires.1.1, c.loop-i.invariant.1.1)) (read_is (c.exponent-e.result) (record { sfits = c.exponent-e.type_inv }) ∙ c.exponent-e.ensures) (c.positive.ensures _ c.in-Some.is), (simp length-set (c.loop-i.invariant.1.0), simp length-set (c.loop-i.invariant.1.1)))

pub shape_of-bs : goal.shape_of-bs
shape_of-bs c = c.loop-i.invariant.1.0

pub shape_of-ks : goal.shape_of-ks
shape_of-ks c = c.loop-i.invariant.1.1

pub returns : goal.returns
returns c = λ h. bases_all (c.loop-i.invariant.0) (search rules)
