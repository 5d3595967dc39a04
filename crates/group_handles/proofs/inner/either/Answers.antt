-- A place of the two lists together is one of the first or one of the second.
use Rattle.group_handles.specs.Handles.{handles}
use Rattle.group_handles.proofs.Sums.{either_left, either_right}
use mathlib.Core.Path.{◌∙◌}
use native.Mathlib.Omega.{arith}
use Rattle.build_lending.specs.Lending.{no_factor}
use Rattle.group_handles.proofs.inner.either.Goals as goal

pub returns-then-i-k : goal.returns-then-i-k
returns-then-i-k c = c.handle.ensures ∙ either_left no_factor (handles c.args.a) (handles c.args.b) c.args.i (rw (← c.listed-k.ensures.0) c.if-i-k.true)

pub returns : goal.returns
returns c = c.handle-2.ensures ∙ either_right no_factor (handles c.args.a) (handles c.args.b) c.args.i _ (rw (← c.listed-k.ensures.0) (omega (arith, c.if-i-k.false)))
