-- One answer after the other; a limit is what `limit_of` gave.
use borrow.Author.Tests.{not-true, not-false, le-leb, lt-leb}
use Rattle.group_handles.specs.Handles.{admits_seen}
use Rattle.group_handles.proofs.inner.admit_seen.Goals as goal

pub returns-then-not-s : goal.returns-then-not-s
unfolding admits_seen
returns-then-not-s c = rw (not-true (c.args.s.fit) (c.if-not-s.true))

pub returns-then-limit_of-a : goal.returns-then-limit_of-a
unfolding admits_seen
returns-then-limit_of-a c = rw (← c.limit_of.ensures) (simp (le-leb _ _ (c.if-limit_of-a.true)) (rw (not-false (c.args.s.fit) (c.if-not-s.false))))

pub returns-then-limit_of-b : goal.returns-then-limit_of-b
unfolding admits_seen
returns-then-limit_of-b c = rw (← c.limit_of.ensures, ← c.limit_of-2.ensures) (simp (lt-leb _ _ (c.if-limit_of-a.false), le-leb _ _ (c.if-limit_of-b.true)) (rw (not-false (c.args.s.fit) (c.if-not-s.false))))

pub returns-then-count-gt8 : goal.returns-then-count-gt8
unfolding admits_seen
returns-then-count-gt8 c = rw (← c.limit_of.ensures, ← c.limit_of-2.ensures) (simp (lt-leb _ _ (c.if-limit_of-a.false), lt-leb _ _ (c.if-limit_of-b.false), lt-leb _ _ (c.if-count-gt8.true)) (rw (not-false (c.args.s.fit) (c.if-not-s.false))))

pub returns-then-s-gt4294967295 : goal.returns-then-s-gt4294967295
unfolding admits_seen
returns-then-s-gt4294967295 c = rw (← c.limit_of.ensures, ← c.limit_of-2.ensures) (simp (lt-leb _ _ (c.if-limit_of-a.false), lt-leb _ _ (c.if-limit_of-b.false), le-leb _ _ (c.if-count-gt8.false), lt-leb _ _ (c.if-s-gt4294967295.true)) (rw (not-false (c.args.s.fit) (c.if-not-s.false))))

pub returns : goal.returns
unfolding admits_seen
returns c = rw (← c.limit_of.ensures, ← c.limit_of-2.ensures) (simp (lt-leb _ _ (c.if-limit_of-a.false), lt-leb _ _ (c.if-limit_of-b.false), le-leb _ _ (c.if-count-gt8.false), le-leb _ _ (c.if-s-gt4294967295.false)) (rw (not-false (c.args.s.fit) (c.if-not-s.false))))
