-- What was gathered is handed over, by `handed`.
use Rattle.lists.proofs.Answers.{handed}
use Rattle.lists_factor.proofs.inner.compose_by.Goals as goal

pub returns : goal.returns
returns c = handed (c.args.out.now) (c.compose_into-said.ensures) (c.requires.1.0) (c.hand_over.ensures)
