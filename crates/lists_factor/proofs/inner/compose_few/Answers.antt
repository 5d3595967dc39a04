-- The quick walks have found all products, or the places are asked as several are.
use Rattle.lists.proofs.Answers.{handed}
use Rattle.lists.proofs.Places.{all_worked}
use borrow.Author.Rules.{rules}
use Rattle.lists_factor.proofs.inner.compose_few.Goals as goal

pub returns-then-one_by_one : goal.returns-then-one_by_one
returns-then-one_by_one c = handed (c.args.out.now) (all_worked (c.one_by_one.ensures (c.if-one_by_one.true)) (search rules)) (c.requires.1.1) (c.hand_over.ensures)
