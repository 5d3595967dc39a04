-- A store past the end changes nothing.
use mathlib.Core.Path.{sym}
use lib.Seq.{set_out}
use Rattle.builder_rereading.proofs.inner.keep.Goals as goal

pub returns-else-i-w : goal.returns-else-i-w
returns-else-i-w c = sym (set_out _ _ _ (c.if-i-w.false))
