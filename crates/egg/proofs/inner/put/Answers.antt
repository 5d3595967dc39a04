use Rattle.egg.proofs.Laws.{put_at_out}
use Rattle.egg.specs.Table.{put_at}
use borrow.Author.Tests.{lt-ltb, le-ltb}
use mathlib.Core.Path.{sym}
use Rattle.egg.proofs.inner.put.Goals as goal

pub returns-then-v-lt4294967296 : goal.returns-then-v-lt4294967296
unfolding put_at
returns-then-v-lt4294967296 c = simp (lt-ltb _ _ c.if-v-lt4294967296.true)

pub returns-else-v-lt4294967296 : goal.returns-else-v-lt4294967296
unfolding put_at
returns-else-v-lt4294967296 c = simp (le-ltb _ _ c.if-v-lt4294967296.false)

pub returns-else-i-s : goal.returns-else-i-s
returns-else-i-s c = sym (put_at_out c.args.s.now c.args.i c.args.v c.if-i-s.false)
