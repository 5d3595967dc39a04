use Rattle.enumeration_facts.proofs.FactLaws.{updated_by}
use Rattle.enumeration_facts.proofs.inner.update_with_fact.Goals as goal

pub returns : goal.returns
returns c = updated_by c.args.n c.args.t.now c.args.w.now c.args.top c.args.place c.get-lefts.ensures c.get-left_count.ensures c.get-rights.ensures c.get-right_count.ensures c.empty.ensures c.wake_all-after_lefts.ensures c.wake_all.ensures
