-- One law for each answer.
use lib.ListN.{get_or}
use Rattle.subgroup_predicate_choices.proofs.Choices.{new_known, new_byte}
use Rattle.subgroup_predicate_choices.proofs.inner.is_new.Goals as goal

pub returns-then-get : goal.returns-then-get
returns-then-get c = new_known c.args.inn.now (λ y. get_or c.args.members.now y 0) c.args.x.0 c.get.ensures c.if-get.true

pub returns : goal.returns
returns c = new_byte c.args.inn.now (λ y. get_or c.args.members.now y 0) c.args.x.0 c.get.ensures c.if-get.false c.byte.ensures
