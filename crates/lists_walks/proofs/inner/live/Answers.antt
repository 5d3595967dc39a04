-- The first lane that has a place, or else none has.
use mathlib.Core.Path.{sym}
use Rattle.egg.proofs.Rooms.{false_true}
use borrow.Author.Tests.{ltb-true, ltb-false}
use Rattle.lists_walks.specs.Lanes.{live_p, live_q, live_r, live_t}
use Rattle.lists_walks.proofs.inner.live.Goals as goal

pub returns-then-p-k : goal.returns-then-p-k
returns-then-p-k c = (λ h. live_p c.if-p-k.true, λ h. absurd (false_true (sym h)))

pub returns-then-q-k : goal.returns-then-q-k
returns-then-q-k c = (λ h. live_q c.if-q-k.true, λ h. absurd (false_true (sym h)))

pub returns-then-r-k : goal.returns-then-r-k
returns-then-r-k c = (λ h. live_r c.if-r-k.true, λ h. absurd (false_true (sym h)))

pub returns : goal.returns
returns c = (λ h. live_t (ltb-true _ _ h), λ h. record { p = c.if-p-k.false; q = c.if-q-k.false; r = c.if-r-k.false; t = ltb-false _ _ h })
