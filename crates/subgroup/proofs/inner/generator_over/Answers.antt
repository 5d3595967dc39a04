-- What was reached is carried on.
use Rattle.egg.proofs.Refusing.{handed_on}
use mathlib.Core.Path.{◌∙◌}
use lib.ListN.{length}
use Rattle.subgroup.specs.Questions.{carried_over}
use Rattle.subgroup_sides.proofs.Generators.{generator_element}
use Rattle.subgroup.proofs.Carries.{carries_refused, carries_on}
use Rattle.subgroup.proofs.Outlines.{side_goes, carried_told}
use Rattle.subgroup.proofs.inner.generator_over.Goals as goal

pub returns-in_err-e : goal.returns-in_err-e
returns-in_err-e c = handed_on c.from_residual.ensures ∙ carries_refused c.side_generator.ensures (λ e. carried_over c.args.s c.args.outw.now e) c.in_err-e.was

pub carry_over-requires : goal.carry_over-requires
carry_over-requires c = side_goes (length c.args.from.now) (length c.args.table.now) c.args.s c.requires.1 c.requires.0.1 _ (generator_element c.args.from.now c.args.table.now c.args.s c.requires.0.0 c.requires.0.1 c.args.g.0 c.side_generator.ensures c.in_ok-e.was)

pub returns : goal.returns
returns c = c.carry_over.ensures ∙ carried_told (length c.args.from.now) (length c.args.table.now) c.args.s c.requires.1 c.requires.0.1 _ (generator_element c.args.from.now c.args.table.now c.args.s c.requires.0.0 c.requires.0.1 c.args.g.0 c.side_generator.ensures c.in_ok-e.was) c.args.outw.now ∙ carries_on c.side_generator.ensures (λ e. carried_over c.args.s c.args.outw.now e) c.in_ok-e.was
