-- This file defines what a call writes to a lent buffer, and which factors it leaves alone. Document 01: "A factor may be built into any stretch of a
-- longer table buffer."
use Rattle.std.specs.Prelude.{ℕ, ◌+◌, ◌≤◌, ◌≡◌, ◌⊎◌, List, length}
use Rattle.egg.specs.declared.Factor.{Factor}
use Rattle.build_lending.specs.Lending.{table_need, within}
use Rattle.promises.specs.Leaves.{Lent}

-- The call wrote nothing, or it wrote the needed stretch, which is in the buffer.
pub data Wrote (b : Lent) : Type 0 where
  nothing : b.exit ≡ b.entry → Wrote b
  part : (s : List ℕ) → b.start + b.need ≤ length b.entry → length s ≡ b.need → b.exit ≡ within b.entry b.start (b.start + b.need) s → Wrote b

-- The needed stretch and that of the factor do not overlap.
abbrev pub Apart : Factor → Lent → Type 0
Apart f b = (b.start + b.need ≤ f.start) ⊎ (f.start + table_need f.generators f.room ≤ b.start)
