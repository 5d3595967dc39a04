use lib.ListN.{length}
use mathlib.Core.Path.{refl}
use native.Mathlib.Omega.{arith}
use Rattle.group_handles.proofs.Lists.{turn_at, turned_all, fits_there, some_there}
use Rattle.group_handles.specs.Handles.{handles}
use Rattle.group_words.proofs.Spelling.{looking, looks_stop, looks_on, looks_end}
use Rattle.group_words.proofs.inner.readables.Goals as goal

pub loop-f-init : goal.loop-f-init
loop-f-init c = looking c.args.table.now (handles c.args.g) c.args.e.0

pub part-s-requires : goal.part-s-requires
part-s-requires c = (fits_there c.args.g c.loop-f.f c.listed-c.ensures.0 c.loop-f-test.true (length c.args.table.now) c.requires)

pub nonzero_rem-d : goal.nonzero_rem-d
nonzero_rem-d c = omega (arith, (some_there c.args.g c.loop-f.f c.listed-c.ensures.0 c.loop-f-test.true (length c.args.table.now) c.requires))

pub returns-then-not-readable : goal.returns-then-not-readable
returns-then-not-readable c = looks_stop c.loop-f.invariant (turn_at c.args.g c.loop-f.f c.listed-c.ensures.0 c.loop-f-test.true) c.part-s.ensures refl c.word_length-len.ensures c.readable.ensures c.if-not-readable.true

pub nonzero_div-rest : goal.nonzero_div-rest
nonzero_div-rest c = omega (arith, (some_there c.args.g c.loop-f.f c.listed-c.ensures.0 c.loop-f-test.true (length c.args.table.now) c.requires))

pub loop-f-preserved : goal.loop-f-preserved
loop-f-preserved c = looks_on c.loop-f.invariant (turn_at c.args.g c.loop-f.f c.listed-c.ensures.0 c.loop-f-test.true) c.part-s.ensures refl c.word_length-len.ensures c.readable.ensures c.if-not-readable.false

pub returns : goal.returns
returns c = looks_end c.loop-f.invariant (turned_all (handles c.args.g) c.loop-f.f c.listed-c.ensures.0 c.loop-f-test.false)
