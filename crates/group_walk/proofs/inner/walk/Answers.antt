use Rattle.egg.proofs.Refusing.{handed_on}
use mathlib.Core.Path.{◌∙◌, ap}
use Rattle.group_handles.specs.declared.inner.Seen.{Seen}
use lib.ListN.{length}
use Rattle.group_walk.specs.Walked.{walk_answer}
use Rattle.group_walk.proofs.Admits.{going}
use Rattle.group_walk.proofs.inner.walk.Goals as goal

pub follow-requires : goal.follow-requires
follow-requires c = (going (length c.args.table.now) c.args.g _ c.args.word.now (c.admit_walk.ensures (length c.args.table.now) c.look-s.ensures.0) c.in_ok-admit_walk.was, ap (λ (s : Seen). s.elements) c.look-s.ensures.0)

pub returns-in_err-admit_walk : goal.returns-in_err-admit_walk
unfolding walk_answer
returns-in_err-admit_walk c = handed_on c.from_residual.ensures ∙ rw (← (c.admit_walk.ensures (length c.args.table.now) c.look-s.ensures.0), c.in_err-admit_walk.was)

pub returns : goal.returns
unfolding walk_answer
returns c = c.follow.ensures ∙ rw (← (c.admit_walk.ensures (length c.args.table.now) c.look-s.ensures.0), c.in_ok-admit_walk.was)
