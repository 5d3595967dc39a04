use Rattle.std.proofs.Common.{◌≡◌, ◌-◌}
use Rattle.enumeration_wake.specs.Waking.{state}
use Rattle.enumeration_facts.specs.Facts.{settle_from}
use Rattle.enumeration_facts.proofs.inner.settle.Given as goal

abbrev pub invariant-loop : goal.invariant-loop
invariant-loop l = settle_from (l.end - l.counter) l.n (state l.t l.w l.top) ≡ settle_from l.end l.n (state l.initial.t l.initial.w l.initial.top)
