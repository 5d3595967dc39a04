-- A store past the end changes nothing.
use mathlib.Core.Path.{sym}
use lib.Seq.{set_out}
use Rattle.egg.proofs.inner.put_byte.Goals as goal

pub returns-else-i-out : goal.returns-else-i-out
returns-else-i-out c = sym (set_out _ _ _ c.if-i-out.false)
