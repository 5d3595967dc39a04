use Rattle.enumeration_facts.proofs.FactLaws.{emptied_by}
use Rattle.enumeration_facts.proofs.inner.empty.Goals as goal

pub returns : goal.returns
returns c = emptied_by c.args.w.now c.args.place c.put.ensures c.put-2.ensures c.put-3.ensures c.put-4.ensures c.put-5.ensures c.put-6.ensures c.put-7.ensures
