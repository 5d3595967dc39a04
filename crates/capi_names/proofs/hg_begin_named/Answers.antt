-- The call's own table, and its answer and name written.
use Rattle.capi_names.proofs.Told.{short_out, short_record, both_long, named_begun_told_lem}
use Rattle.capi_names.proofs.hg_begin_named.Goals as goal

pub returns-then-out-lt5 : goal.returns-then-out-lt5
returns-then-out-lt5 c = short_out c.args.out.now c.args.record.now _ _ c.if-out-lt5.true

pub returns-then-record-lt33 : goal.returns-then-record-lt33
returns-then-record-lt33 c = short_record c.args.out.now c.args.record.now _ _ c.if-out-lt5.false c.if-record-lt33.true

pub returns : goal.returns
returns c = both_long c.args.out.now c.args.record.now _ _ c.if-out-lt5.false c.if-record-lt33.false (named_begun_told_lem c.args.out.now c.args.record.now c.begin-b.ensures c.write_named_begun.ensures)
