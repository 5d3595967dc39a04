-- A byte that has a place is stored there; one past the end changes nothing.
use Rattle.listing_lines.proofs.Laws.{stored, dropped}
use Rattle.listing_lines.proofs.inner.put_byte.Goals as goal
use Rattle.listing_lines.proofs.inner.put_byte.Goals.{then-at-out, else-at-out}

pub returns : goal.returns
returns c =
    elim c.if-at-out.branch [
      | then-at-out w ↦ rw w.out-is (stored c.args.out.now c.args.at c.args.b)
      | else-at-out w ↦ rw w.out-is (dropped c.args.out.now c.args.at c.args.b w.if-at-out.false)
    ]
