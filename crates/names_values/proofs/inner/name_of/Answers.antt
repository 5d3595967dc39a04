-- The bytes are copied over zeros.
use Prim.Native.Nat.{ℕ}
use mathlib.Core.List.{List, ◌++◌}
use mathlib.Core.Path.{refl, sym, ap, ◌∙◌}
use lib.ListN.{length, drop, replicate}
use lib.Seq.{take-length}
use Rattle.names_values.proofs.Copied.{copied_name}
use Rattle.names_values.proofs.inner.name_of.Goals as goal

pub returns : goal.returns
returns c =
    copied_name c.args.name.now
    (ap (λ (l : List ℕ). l ++ drop (length c.args.name.now) (replicate 32 0)) (c.copy_from_slice.ensures.after ∙ sym (take-length c.args.name.now)))
    refl
