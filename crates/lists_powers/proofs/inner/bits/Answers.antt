use native.Mathlib.Nat.{div-eq_of_lt}
use native.Mathlib.Omega.{arith}
use borrow.Author.Rules.{rules}
use Rattle.lists_powers.proofs.inner.bits.Goals as goal

pub loop-j-init : goal.loop-j-init
loop-j-init c = omega arith

pub returns-then-k-j-eq0 : goal.returns-then-k-j-eq0
returns-then-k-j-eq0 c = (omega arith, c.if-k-j-eq0.true)

pub loop-j-preserved : goal.loop-j-preserved
loop-j-preserved c = omega arith

pub returns : goal.returns
returns c = (omega arith, div-eq_of_lt (search rules))
