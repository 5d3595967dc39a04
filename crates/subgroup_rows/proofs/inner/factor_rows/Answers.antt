use lib.ListN.{length}
use Rattle.subgroup_one_factor.proofs.OneFactor.{one_some}
use Rattle.subgroup_one_factor.proofs.LetterLaws.{letters_of}
use Rattle.subgroup_rows.proofs.inner.factor_rows.Goals as goal

pub find_letters-requires : goal.find_letters-requires
find_letters-requires c = one_some (length c.args.from.now) c.args.f c.requires

pub lettered_rows-requires : goal.lettered_rows-requires
lettered_rows-requires c = (c.requires, letters_of c.part.ensures c.find_letters.ensures)
