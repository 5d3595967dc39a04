-- Whichever word is the shorter, the walk back along it and the ending are the product's. Where there is no way, nothing is said.
use native.Mathlib.Omega.{arith}
use mathlib.Core.Path.{sym, ◌∙◌}
use Rattle.egg.proofs.Rooms.{false_true}
use Rattle.factor_compose.proofs.Numbers.{routed}
use Rattle.factor_compose.proofs.inner.route.Goals as goal

pub returns-then-len-lt6 : goal.returns-then-len-lt6
returns-then-len-lt6 c = λ h. absurd (false_true (sym c.no_way.ensures ∙ h))

pub returns-then-len-gt4096 : goal.returns-then-len-gt4096
returns-then-len-gt4096 c = λ h. absurd (false_true (sym c.no_way-then-len-gt4096.ensures ∙ h))

pub returns-then-count-i : goal.returns-then-count-i
returns-then-count-i c = λ h. absurd (false_true (sym c.no_way-then-count-i.ensures ∙ h))

pub returns-then-len-other : goal.returns-then-len-other
returns-then-len-other c = λ h. absurd (false_true (sym c.no_way-then-len-other.ensures ∙ h))

pub returns : goal.returns
returns c = λ h. routed c.args.s.now c.args.n c.args.count c.args.a c.args.b c.requires.1.1.1 (omega (arith, c.if-len-lt6.false)) c.if-len-gt4096.false c.recorded-i.ensures c.if-count-i.false c.recorded-own.ensures (omega arith) c.recorded-other.ensures c.if-len-other.false c.requires.1.0 c.fewer-inverted.ensures c.chosen.ensures c.chosen-2.ensures c.chosen-3.ensures
