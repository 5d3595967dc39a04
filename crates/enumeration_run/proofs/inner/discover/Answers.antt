use mathlib.Core.Path.{◌∙◌}
use Rattle.enumeration_run.proofs.RunLaws.{discovered_by}
use Rattle.enumeration_run.proofs.inner.discover.Goals as goal

pub returns : goal.returns
returns c = discovered_by c.args.n c.args.orders.now c.args.e c.args.g c.args.new c.args.t.now c.args.w.now c.set_successor.ensures.1 c.add_rows.ensures (c.put.ensures ∙ rw c.place_at-place.ensures.at) (c.settle.ensures ∙ rw c.place_at-place.ensures.at)
