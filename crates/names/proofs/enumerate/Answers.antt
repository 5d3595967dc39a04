-- One law for each answer.
use Rattle.egg.proofs.Refusing.{handed_on}
use Rattle.names.specs.Making.{named_enumerates}
use Rattle.names.proofs.Makes.{long_refused, long_18, short_refused, short_made}
use Rattle.names.proofs.enumerate.Goals as goal

pub returns-in_err-enumerate_right : goal.returns-in_err-enumerate_right
unfolding named_enumerates
returns-in_err-enumerate_right c = rw (handed_on c.from_residual.ensures) (long_refused c.args.name.now _ c.args.table.now c.args.work.now _ c.if-name-gt32.true c.enumerate_right.ensures c.in_err-enumerate_right.was)

pub returns-then-name-gt32 : goal.returns-then-name-gt32
unfolding named_enumerates
returns-then-name-gt32 c = long_18 c.args.name.now _ c.args.table.now c.args.work.now _ c.if-name-gt32.true c.enumerate_right.ensures c.in_ok-enumerate_right.was

pub returns-in_err-factor : goal.returns-in_err-factor
unfolding named_enumerates
returns-in_err-factor c = rw (handed_on c.from_residual-in_err-factor.ensures) (short_refused c.args.name.now _ c.args.table.now c.args.work.now _ c.if-name-gt32.false c.enumerate.ensures c.in_err-factor.was)

pub returns : goal.returns
unfolding named_enumerates
returns c = short_made c.args.name.now _ c.args.table.now c.args.work.now _ c.if-name-gt32.false c.enumerate.ensures c.in_ok-factor.was c.name_of.ensures
