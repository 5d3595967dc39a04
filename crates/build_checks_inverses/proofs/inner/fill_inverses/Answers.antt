use Prim.Native.Nat.{◌<◌}
use mathlib.Core.Path.{◌∙◌}
use borrow.Author.Rules.{rules}
use Rattle.build_checks_inverses.proofs.Hints.{filling, by_hint, fills, filled}
use Rattle.build_checks_inverses.proofs.inner.fill_inverses.Goals as goal

pub loop-e-init : goal.loop-e-init
loop-e-init c = filling _ _ _

pub loop-e-preserved : goal.loop-e-preserved
loop-e-preserved c = let small : c.inverse_by-x.result.0 < 4294967296 = search rules in
    rw (c.put.ensures, c.inverse_at.ensures.at)
    (fills c.loop-e.invariant c.loop-e-test.true small
    (c.inverse_by-x.ensures ∙ by_hint c.loop-e.invariant c.get-h.ensures (c.requires.each _ c.loop-e-test.true)))

pub returns : goal.returns
returns c = filled c.loop-e.invariant c.loop-e-test.false
