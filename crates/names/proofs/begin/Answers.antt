-- One law for each answer.
use Rattle.egg.proofs.Refusing.{handed_on}
use Rattle.names.proofs.Makes.{long_begin_refused, long_begin_18, short_begin_refused, short_begun}
use Rattle.names.proofs.begin.Goals as goal

pub returns-in_err-begin_right : goal.returns-in_err-begin_right
returns-in_err-begin_right c = rw (handed_on c.from_residual.ensures) (long_begin_refused c.args.table.now _ _ _ c.args.name.now c.if-name-gt32.true c.begin_right.ensures c.in_err-begin_right.was)

pub returns-then-name-gt32 : goal.returns-then-name-gt32
returns-then-name-gt32 c = long_begin_18 c.args.table.now _ _ _ c.args.name.now c.if-name-gt32.true c.begin_right.ensures c.in_ok-begin_right.was

pub returns-in_err-builder : goal.returns-in_err-builder
returns-in_err-builder c = rw (handed_on c.from_residual-in_err-builder.ensures) (short_begin_refused c.args.table.now _ _ _ c.args.name.now c.if-name-gt32.false c.begin.ensures c.in_err-builder.was)

pub returns : goal.returns
returns c = short_begun c.args.table.now _ _ _ c.args.name.now c.if-name-gt32.false c.begin.ensures c.in_ok-builder.was c.name_of.ensures
