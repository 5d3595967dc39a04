-- One law for each answer.
use Rattle.egg.proofs.Refusing.{handed_on}
use mathlib.Core.Path.{refl}
use native.Mathlib.Omega.{arith}
use Rattle.names_joined.specs.Joined.{listed_names}
use Rattle.names.proofs.Written.{was_measured, joined_altered, joined_refused, joined_short, joined_written}
use Rattle.names.proofs.write_joined.Goals as goal

pub returns-in_err-k : goal.returns-in_err-k
returns-in_err-k c = rw (handed_on c.from_residual.ensures) (joined_altered c.args.table.now c.args.g c.args.out.now c.joined_length.ensures (c.in_err-k.was))

pub returns-then-out-k : goal.returns-then-out-k
returns-then-out-k c = joined_short c.args.table.now c.args.g c.args.out.now c.joined_length.ensures (c.in_ok-k.was) c.admit_one.ensures (c.in_ok-admit_one.was) c.if-out-k.true refl

pub write-requires : goal.write-requires
write-requires c = ((was_measured (listed_names c.args.g) c.joined_length.ensures (c.in_ok-k.was)).fit, omega (arith, (was_measured (listed_names c.args.g) c.joined_length.ensures (c.in_ok-k.was)).long, c.if-out-k.false))

pub returns-in_err-admit_one : goal.returns-in_err-admit_one
returns-in_err-admit_one c = rw (handed_on c.from_residual-in_err-admit_one.ensures) (joined_refused c.args.table.now c.args.g c.args.out.now c.joined_length.ensures (c.in_ok-k.was) c.admit_one.ensures (c.in_err-admit_one.was))

pub returns : goal.returns
returns c = joined_written c.args.table.now c.args.g c.args.out.now c.joined_length.ensures (c.in_ok-k.was) c.admit_one.ensures (c.in_ok-admit_one.was) c.if-out-k.false c.write.ensures
