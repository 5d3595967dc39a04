-- One law for each part that has the generator.
use mathlib.Core.Path.{◌∙◌}
use native.Mathlib.Omega.{arith}
use Rattle.subgroup_sides.proofs.Generators.{below_ready, above_ready, fits_factor, stride_fits, within_fits, above_fits, generator_below, generator_within, generator_above, read_part}
use Rattle.subgroup_sides.proofs.inner.side_generator.Goals as goal

pub step_in-requires : goal.step_in-requires
step_in-requires c = below_ready c.args.from.now c.args.table.now c.args.s c.requires.0 c.requires.1

pub returns-then-all-k : goal.returns-then-all-k
returns-then-all-k c = c.step_in.ensures ∙ generator_below c.args.from.now c.args.table.now c.args.s c.requires.0 c.requires.1 c.args.g.0 c.generators_of-k.ensures.0 c.if-all-k.true

pub part-part-requires : goal.part-part-requires
part-part-requires c = fits_factor c.args.from.now c.args.table.now c.args.s c.requires.0 c.requires.1

pub scaled-requires : goal.scaled-requires
scaled-requires c = within_fits c.args.from.now c.args.table.now c.args.s c.requires.0 c.requires.1 c.elements_of-stride.ensures _ (read_part _ _ _ c.part-part.ensures c.next-within.ensures)

pub returns-then-left-factor : goal.returns-then-left-factor
returns-then-left-factor c = generator_within c.args.from.now c.args.table.now c.args.s c.requires.0 c.requires.1 c.args.g.0 c.generators_of-k.ensures.0 c.if-all-k.false c.elements_of-stride.ensures c.if-left-factor.true (read_part _ _ _ c.part-part.ensures c.next-within.ensures) c.scaled.ensures

pub step_in-high-requires : goal.step_in-high-requires
step_in-high-requires c = above_ready c.args.from.now c.args.table.now c.args.s c.requires.0 c.requires.1

pub overflow_mul-stride : goal.overflow_mul-stride
overflow_mul-stride c = record { fits = omega (arith, stride_fits c.args.from.now c.args.table.now c.args.s c.requires.0 c.requires.1 c.elements_of-stride.ensures) }

pub scaled-requires-2 : goal.scaled-requires-2
scaled-requires-2 c = above_fits c.args.from.now c.args.table.now c.args.s c.requires.0 c.requires.1 c.elements_of-stride.ensures _ c.step_in-high.ensures

pub returns : goal.returns
returns c = generator_above c.args.from.now c.args.table.now c.args.s c.requires.0 c.requires.1 c.args.g.0 c.generators_of-k.ensures.0 c.if-all-k.false c.elements_of-stride.ensures c.if-left-factor.false c.step_in-high.ensures c.scaled-2.ensures
