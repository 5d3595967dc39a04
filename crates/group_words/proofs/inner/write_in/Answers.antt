-- One law for each answer, which `wrote` says of the buffer too.
use Rattle.egg.proofs.Refusing.{handed_on}
use lib.ListN.{length}
use mathlib.Core.Path.{refl, ◌∙◌}
use Rattle.group_handles.specs.Handles.{handles}
use Rattle.group_words.proofs.Spelling.{writes_none, writes_short, writes_unread, writes_count, wrote}
use Rattle.group_words.proofs.inner.write_in.Goals as goal

pub lengths-requires : goal.lengths-requires
lengths-requires c = c.requires

pub returns-in_err-k : goal.returns-in_err-k
returns-in_err-k c = wrote c.args.table.now (handles c.args.g) c.args.e.0 c.args.out.now (writes_none c.args.table.now (handles c.args.g) c.args.e.0 (length c.args.out.now) c.lengths.ensures c.in_err-k.was ∙ c.in_err-k.was) (handed_on c.from_residual.ensures) refl

pub returns-then-out-k : goal.returns-then-out-k
returns-then-out-k c = wrote c.args.table.now (handles c.args.g) c.args.e.0 c.args.out.now (writes_short c.args.table.now (handles c.args.g) c.args.e.0 (length c.args.out.now) c.lengths.ensures c.in_ok-k.was c.if-out-k.true) refl refl

pub readables-requires : goal.readables-requires
readables-requires c = c.requires

pub returns-then-not-readables : goal.returns-then-not-readables
returns-then-not-readables c = wrote c.args.table.now (handles c.args.g) c.args.e.0 c.args.out.now (writes_unread c.args.table.now (handles c.args.g) c.args.e.0 (length c.args.out.now) c.lengths.ensures c.in_ok-k.was c.if-out-k.false c.readables.ensures c.if-not-readables.true) refl refl

pub spells-requires : goal.spells-requires
spells-requires c = c.requires

pub returns : goal.returns
returns c = wrote c.args.table.now (handles c.args.g) c.args.e.0 c.args.out.now (writes_count c.args.table.now (handles c.args.g) c.args.e.0 (length c.args.out.now) c.lengths.ensures c.in_ok-k.was c.if-out-k.false c.readables.ensures c.if-not-readables.false) refl c.spells.ensures
