use Rattle.build_lending.specs.Lending.{no_factor}
use Prim.Native.Nat.{◌<◌}
use lib.ListN.{length, get_or}
use mathlib.Core.Path.{refl}
use native.Mathlib.Omega.{arith}
use Rattle.group_handles.proofs.Lists.{turn_at, turned_all, fits_there, some_there}
use Rattle.group_handles.specs.Handles.{handles}
use Rattle.group_words.proofs.Spelling.{spelling, spells_on, spells_end}
use borrow.Author.Rules.{rules}
use Rattle.group_words.proofs.inner.spells.Goals as goal

pub loop-f-init : goal.loop-f-init
loop-f-init c = (omega arith, spelling c.args.table.now (handles c.args.g) c.args.e.0 c.args.out.now)

pub part-s-requires : goal.part-s-requires
part-s-requires c = (fits_there c.args.g c.loop-f.f c.listed-c.ensures.0 c.loop-f-test.true (length c.args.table.now) c.requires)

pub nonzero_rem-d : goal.nonzero_rem-d
nonzero_rem-d c = omega (arith, (some_there c.args.g c.loop-f.f c.listed-c.ensures.0 c.loop-f-test.true (length c.args.table.now) c.requires))

pub spell_from-requires : goal.spell_from-requires
spell_from-requires c = omega (arith, c.loop-f.invariant.1.starts, c.listed-c.ensures.1, c.loop-f-test.true)

pub overflow_add-start : goal.overflow_add-start
overflow_add-start c = let k : c.word_length-len.result < 4294967296 = search rules in omega (arith, c.loop-f.invariant.1.starts, c.listed-c.ensures.1, c.loop-f-test.true)

pub overflow_add-offset : goal.overflow_add-offset
overflow_add-offset c = let k : (get_or c.args.g.factors c.loop-f.f no_factor).generators < 256 = search rules in omega (arith, c.loop-f.invariant.1.offsets, c.listed-c.ensures.1, c.loop-f-test.true)

pub nonzero_div-rest : goal.nonzero_div-rest
nonzero_div-rest c = omega (arith, (some_there c.args.g c.loop-f.f c.listed-c.ensures.0 c.loop-f-test.true (length c.args.table.now) c.requires))

pub loop-f-preserved : goal.loop-f-preserved
loop-f-preserved c = (omega (arith, c.loop-f-test.true), spells_on c.loop-f.invariant.1 (turn_at c.args.g c.loop-f.f c.listed-c.ensures.0 c.loop-f-test.true) c.part-s.ensures refl c.word_length-len.ensures c.spell_from.ensures (search rules) (search rules) c.spell_from.auto.out)

pub shape_of-out : goal.shape_of-out
shape_of-out c = c.loop-f.invariant.1.kept

pub returns : goal.returns
returns c = spells_end c.loop-f.invariant.1 (turned_all (handles c.args.g) c.loop-f.f c.listed-c.ensures.0 c.loop-f-test.false)
