-- A copy into what follows `at`.
use Rattle.names_joined.proofs.Puts.{copied_back}
use Rattle.names_joined.proofs.inner.put_at.Goals as goal

pub returns : goal.returns
returns c = copied_back c.args.out.now c.args.part.now c.args.at c.copy_from_slice.ensures.after
