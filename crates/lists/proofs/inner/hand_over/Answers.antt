-- By the answer: only where it is fine is there anything to copy.
use Rattle.egg.proofs.Refusing.{handed_on}
use Rattle.lists.proofs.inner.hand_over.Goals as goal

pub returns-in_err-said : goal.returns-in_err-said
returns-in_err-said c = rw (handed_on c.from_residual.ensures, c.in_err-said.was)

pub returns : goal.returns
returns c = rw (c.in_ok-said.was, c.copy_front.ensures)
