-- An accepted table is a factor whose group, steps and words are in order; by the numbering rule its words are the shortest.
use Prim.Native.Nat.{ℕ}
use mathlib.Core.List.{List}
use Rattle.theory.specs.Table.{Table, Columns}
use Rattle.theory.specs.Words.{Spelled, Recorded}
use Rattle.theory.specs.Regular.{Check}
use Rattle.theory.specs.Appearance.{FirstAppearance}
use Rattle.theory.proofs.Sound.{sound, sound_steps}
use Rattle.theory.proofs.Shortest.{shortest}
use Rattle.theory_products.specs.Product.{table_part, Worded, Shortest}

module _ {n N : ℕ} {step back : ℕ → ℕ → ℕ} {word : ℕ → List ℕ} where
  pub table_worded : Table n N step → Spelled n N step word → Columns n N step back → Check n N step word → Worded (table_part n N step back word)
  table_worded T S B C = record { stepped = record { group = record { laws = sound T S C B }; steps = sound_steps T S C }; spelled = S }

  pub table_shortest : {parent last : ℕ → ℕ} → Table n N step → Spelled n N step word → Columns n N step back → Check n N step word
      → FirstAppearance n N step parent last → Recorded N parent last word → Shortest (table_part n N step back word)
  table_shortest T S B C F R = record { worded = table_worded T S B C; shortest = λ w z. shortest T F R w z }
