-- One law for each answer.
use lib.ListN.{length}
use native.Mathlib.Omega.{arith}
use mathlib.Core.Path.{ap}
use borrow.Author.Tests.{not-true, not-false}
use Rattle.group_handles.specs.declared.inner.Seen.{Seen}
use Rattle.group_handles.proofs.Admitted.{seen_fit}
use Rattle.group_handles.proofs.Joins.{joins_first, joins_second, joins_many, joins_more, joins_long, joins_large, joins_fine}
use Rattle.group_handles.proofs.product.Goals as goal

pub returns-then-not-first : goal.returns-then-not-first
returns-then-not-first c = joins_first (length c.args.table.now) c.args.a c.args.b (seen_fit (length c.args.table.now) c.args.a c.look-first.ensures.0 (not-true _ c.if-not-first.true))

pub returns-then-not-second : goal.returns-then-not-second
returns-then-not-second c = joins_second (length c.args.table.now) c.args.a c.args.b (seen_fit (length c.args.table.now) c.args.a c.look-first.ensures.0 (not-false _ c.if-not-first.false)) (seen_fit (length c.args.table.now) c.args.b c.look-second.ensures.0 (not-true _ c.if-not-second.true))

pub returns-then-a-gt8 : goal.returns-then-a-gt8
returns-then-a-gt8 c = joins_many (length c.args.table.now) c.args.a c.args.b (seen_fit (length c.args.table.now) c.args.a c.look-first.ensures.0 (not-false _ c.if-not-first.false)) (seen_fit (length c.args.table.now) c.args.b c.look-second.ensures.0 (not-false _ c.if-not-second.false)) c.if-a-gt8.true

pub returns-then-b-gt8 : goal.returns-then-b-gt8
returns-then-b-gt8 c = joins_more (length c.args.table.now) c.args.a c.args.b (seen_fit (length c.args.table.now) c.args.a c.look-first.ensures.0 (not-false _ c.if-not-first.false)) (seen_fit (length c.args.table.now) c.args.b c.look-second.ensures.0 (not-false _ c.if-not-second.false)) c.if-a-gt8.false c.if-b-gt8.true

pub overflow_add-k : goal.overflow_add-k
overflow_add-k c = omega (arith, c.listed.ensures.1, c.listed-2.ensures.1)

pub returns-then-k-gt8 : goal.returns-then-k-gt8
returns-then-k-gt8 c = joins_long (length c.args.table.now) c.args.a c.args.b (seen_fit (length c.args.table.now) c.args.a c.look-first.ensures.0 (not-false _ c.if-not-first.false)) (seen_fit (length c.args.table.now) c.args.b c.look-second.ensures.0 (not-false _ c.if-not-second.false)) c.if-a-gt8.false c.if-b-gt8.false (rw (c.listed.ensures.0, c.listed-2.ensures.0)) c.if-k-gt8.true

pub joined-group-requires : goal.joined-group-requires
joined-group-requires c = rw (← c.listed.ensures.0, ← c.listed-2.ensures.0) c.if-k-gt8.false

pub returns-then-whole-gt4294967295 : goal.returns-then-whole-gt4294967295
returns-then-whole-gt4294967295 c = joins_large (length c.args.table.now) c.args.a c.args.b (seen_fit (length c.args.table.now) c.args.a c.look-first.ensures.0 (not-false _ c.if-not-first.false)) (seen_fit (length c.args.table.now) c.args.b c.look-second.ensures.0 (not-false _ c.if-not-second.false)) c.if-a-gt8.false c.if-b-gt8.false (rw (c.listed.ensures.0, c.listed-2.ensures.0)) c.if-k-gt8.false c.joined-group.ensures (ap (λ (s : Seen). s.elements) c.look-whole.ensures.0) c.if-whole-gt4294967295.true

pub returns : goal.returns
returns c = joins_fine (length c.args.table.now) c.args.a c.args.b (seen_fit (length c.args.table.now) c.args.a c.look-first.ensures.0 (not-false _ c.if-not-first.false)) (seen_fit (length c.args.table.now) c.args.b c.look-second.ensures.0 (not-false _ c.if-not-second.false)) c.if-a-gt8.false c.if-b-gt8.false (rw (c.listed.ensures.0, c.listed-2.ensures.0)) c.if-k-gt8.false c.joined-group.ensures (ap (λ (s : Seen). s.elements) c.look-whole.ensures.0) c.if-whole-gt4294967295.false
