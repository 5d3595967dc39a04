-- An exponent as the machine hands it on.
use Prim.Native.Nat.{ℕ}
use mathlib.Core.Path.{◌≡◌, ◌∙◌}
use mathlib.Core.List.{List}
use lib.IntN.{ℤ}
use mir.Syntax.{w32}
use mir.Val.{SFits}
use Rattle.egg.specs.declared.GroupElementId.{GroupElementId}
use Rattle.egg.specs.Answers.{Reached}
use Rattle.group_handles.specs.declared.Group.{Group}
use Rattle.group.specs.Questions.{powi_answer}
use Rattle.group_powers.proofs.Signs.{read, read_is}

pub powi_handed : {g p : Group} {r : Reached} (t : List ℕ) (a : GroupElementId) (z : ℤ) → SFits w32 z → g ≡ p → r ≡ powi_answer t g a (read z) → r ≡ powi_answer t p a z
powi_handed t a z f q e = e ∙ rw (q, read_is z f)
