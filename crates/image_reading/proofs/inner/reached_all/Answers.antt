-- The test decides the pick of `reached_all`.
use Rattle.egg.proofs.Refusing.{handed_on}
use mathlib.Core.Path.{◌∙◌}
use Rattle.image_reading.proofs.ReadLaws.{all_refused, all_fewer, all_whole}
use Rattle.image_reading.proofs.inner.reached_all.Goals as goal

pub returns-in_err-c : goal.returns-in_err-c
returns-in_err-c c = handed_on c.from_residual.ensures ∙ all_refused c.args.room c.in_err-c.was

pub returns-then-c-room : goal.returns-then-c-room
returns-then-c-room c = all_fewer c.args.room c.in_ok-c.was c.if-c-room.true

pub returns-else-c-room : goal.returns-else-c-room
returns-else-c-room c = all_whole c.args.room c.in_ok-c.was c.if-c-room.false
