-- The turns start from the subgroup of one element.
use mathlib.Core.Path.{refl}
use native.Mathlib.Omega.{arith}
use lib.ListN.{get_or}
use Rattle.group_handles.specs.Handles.{handles}
use Rattle.group_digits.specs.Digits.{composes}
use Rattle.subgroup_predicate.proofs.Told.{told_start}
use borrow.Author.Rules.{rules}
use Rattle.subgroup_predicate.proofs.inner.told_in.Goals as goal

pub generated_in-made-requires : goal.generated_in-made-requires
generated_in-made-requires c = c.requires.0

pub choose_all-requires : goal.choose_all-requires
choose_all-requires c = ((c.requires.0, (let a = c.generated_in-made.auto.inn in let b = c.requires.1 in omega arith)), record { few = search rules; long = refl })

pub returns : goal.returns
returns c = (told_start c.args.w.now (composes c.args.from.now (handles c.args.over)) c.args.room (λ y. get_or c.args.members.now y 0) c.generated_in-made.auto.t c.generated_in-made.auto.inn c.generated_in-made.auto.outw c.generated_in-made.ensures c.choose_all.ensures.0, c.choose_all.ensures.1)
