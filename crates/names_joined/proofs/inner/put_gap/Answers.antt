-- Nothing before the first name, and else the three bytes.
use mathlib.Core.Path.{ap, subst}
use lib.ListN.{length}
use native.Mathlib.Omega.{arith}
use Rattle.names_joined.specs.Joined.{PutFrom}
use Rattle.names_joined.proofs.Puts.{no_gap, gap_between}
use Rattle.names_joined.proofs.inner.put_gap.Goals as goal

pub returns-then-f-eq0 : goal.returns-then-f-eq0
returns-then-f-eq0 c = no_gap c.args.out.now c.args.at c.if-f-eq0.true

pub put_at-requires : goal.put_at-requires
put_at-requires c = omega (arith, c.requires, ap length (gap_between c.args.f c.if-f-eq0.false))

pub returns : goal.returns
returns c = subst (λ z. PutFrom z c.args.out.now c.args.at c.put_at.new.out c.put_at.result) (gap_between c.args.f c.if-f-eq0.false) c.put_at.ensures
