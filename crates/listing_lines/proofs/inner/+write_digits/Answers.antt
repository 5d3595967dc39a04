-- Each way through the code is one equation of `digits`.
use Prim.Native.Nat.{◌+◌, ◌%◌}
use mathlib.Core.List.{[], ◌∷◌}
use native.Mathlib.Nat.{mod-lt}
use native.Mathlib.Omega.{arith}
use lib.Dec.{lit<}
use Rattle.listing_lines.proofs.Laws.{joined, nothing, first_ends, then_ends, digits_none, digits_one, digits_more}
use Rattle.listing_lines.proofs.inner.+write_digits.Goals as goal

pub returns-then-k-eq0 : goal.returns-then-k-eq0
returns-then-k-eq0 t c = rw (digits_none c.args.x c.if-k-eq0.true) (nothing c.args.out.now _)

pub put_byte-requires : goal.put_byte-requires
put_byte-requires t c = rw (c.digit.ensures, ← digits_one c.if-k-eq0.false _ c.if-x-lt10.true) c.requires

pub returns-then-x-lt10 : goal.returns-then-x-lt10
returns-then-x-lt10 t c = rw (digits_one c.if-k-eq0.false _ c.if-x-lt10.true, ← c.digit.ensures) c.put_byte.ensures

pub write_digits-next-requires : goal.write_digits-next-requires
write_digits-next-requires t c = (omega arith, first_ends ((48 + c.args.x % 10) ∷ []) (rw (← digits_more c.if-k-eq0.false _ c.if-x-lt10.false) c.requires))

pub digit-requires-2 : goal.digit-requires-2
digit-requires-2 t c = mod-lt _ (lit< tt)

pub put_byte-requires-2 : goal.put_byte-requires-2
put_byte-requires-2 t c = rw c.digit-2.ensures (then_ends c.write_digits-next.ensures _ (rw (← digits_more c.if-k-eq0.false _ c.if-x-lt10.false) c.requires))

pub returns : goal.returns
returns t c = rw (digits_more c.if-k-eq0.false _ c.if-x-lt10.false, ← c.digit-2.ensures) (joined c.write_digits-next.ensures c.put_byte-2.ensures)
