-- One law for each answer.
use Rattle.builder_arguments.proofs.Places.{long_full, long_read}
use Rattle.builder_arguments.proofs.inner.over_long.Goals as goal

pub returns-then-f : goal.returns-then-f
returns-then-f c = long_full (c.args.t.now) (c.args.f) (c.args.e) (c.if-f.true)

pub returns : goal.returns
returns c = long_read (c.args.t.now) (c.args.f) (c.args.e) (c.if-f.false) (c.word_length.ensures)
