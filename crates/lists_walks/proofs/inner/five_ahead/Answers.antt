-- The five letters of a row's cell are the next five of the walk; where no lane is live, nothing moves.
use mathlib.Core.Path.{refl, sym, ◌∙◌}
use native.Mathlib.Omega.{arith}
use Rattle.egg.proofs.Rooms.{false_true}
use Rattle.lists_walks.proofs.Lanes.{forward, stays}
use Rattle.lists_walks.proofs.inner.five_ahead.Goals as goal

pub returns-then-not-live : goal.returns-then-not-live
returns-then-not-live c = λ h. record { p = stays c.if-not-live.true (c.requires.1.p); q = stays c.if-not-live.true (c.requires.1.q); r = stays c.if-not-live.true (c.requires.1.r); t = stays c.if-not-live.true (c.requires.1.t); next = refl }

pub five_back-y-requires : goal.five_back-y-requires
five_back-y-requires c = (c.requires.0, record { p = c.requires.1.p.inside.stored; q = c.requires.1.q.inside.stored; r = c.requires.1.r.inside.stored; t = c.requires.1.t.inside.stored })

pub returns-then-y-eq0 : goal.returns-then-y-eq0
returns-then-y-eq0 c = λ h. absurd (false_true (sym c.broken.ensures ∙ h))

pub onward-requires : goal.onward-requires
onward-requires c = c.requires.1.p.far

pub onward-requires-2 : goal.onward-requires-2
onward-requires-2 c = c.requires.1.q.far

pub onward-requires-3 : goal.onward-requires-3
onward-requires-3 c = c.requires.1.r.far

pub onward-requires-4 : goal.onward-requires-4
onward-requires-4 c = c.requires.1.t.far

pub returns : goal.returns
returns c = λ h. let back = c.five_back-y.ensures (omega (arith, c.if-y-eq0.false)) in record { p = forward (c.requires.1.p) c.recorded.ensures back.p c.onward.ensures; q = forward (c.requires.1.q) c.recorded-2.ensures back.q c.onward-2.ensures; r = forward (c.requires.1.r) c.recorded-3.ensures back.r c.onward-3.ensures; t = forward (c.requires.1.t) c.recorded-4.ensures back.t c.onward-4.ensures; next = refl }
