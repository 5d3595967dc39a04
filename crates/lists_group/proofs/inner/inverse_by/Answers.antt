-- What was gathered is handed over, by `handed`.
use Rattle.lists.proofs.Answers.{handed}
use Rattle.lists_group.proofs.inner.inverse_by.Goals as goal

pub returns : goal.returns
returns c = handed (c.args.out.now) (c.inverse_into-said.ensures) (c.requires.0) (c.hand_over.ensures)
