-- 12 is given exactly where live and delayed viewers would part.
use Rattle.std.specs.Prelude.{Err}
use Rattle.egg.specs.Refusals.{numbered}
use Prim.Native.Nat.{ℕ, ◌*◌, ◌≤◌}
use mathlib.Core.Path.{◌≡◌}
use mathlib.Core.Logic.{◌↔◌}
use mathlib.Core.Bool.{true}
use mathlib.Core.List.{List}
use lib.ListN.{length}
use Rattle.build_lending.specs.Lending.{lent_right, making}
use Rattle.factor.specs.Composed.{composed}
use Rattle.build_reading.specs.Reading.{composed_at}
use Rattle.theory.proofs.Counting.{numbered_table}
use Rattle.theory.proofs.FirstPlaces.{numbered_spelled}
use Rattle.theory.proofs.Parting.{groupless_parting}
use Rattle.promises.specs.Composed.{ViewersPart}
use Rattle.build_laws.specs.Taken.{Groupless}
use Rattle.promises.proofs.Composed.{composed_12}

pub groupless_parted : {src : ℕ → ℕ → ℕ} {n room N : ℕ} → Groupless src n room N ↔ ViewersPart src n room N
groupless_parted = (
  λ G.
      let R = G.readable.by_rule in
      record {
        readable = G.readable;
        back = G.back;
        until_12 = G.until_12;
        parting = (groupless_parting (numbered_table R) (numbered_spelled R) G.until_12.predecessors).0 G.no_group_lem;
      },
  λ P.
      let R = P.readable.by_rule in
      record {
        readable = P.readable;
        back = P.back;
        until_12 = P.until_12;
        no_group_lem = (groupless_parting (numbered_table R) (numbered_spelled R) P.until_12.predecessors).1 P.parting;
      },
)

module _ (table : List ℕ) (start : ℕ) (work rows : List ℕ) (n room : ℕ) (hn : n ≤ 8)
    (lent : lent_right (length table) start (length work) room n ≡ true) (listed : room * n ≤ length rows) where
  pub composed_12_parted : ((t : List ℕ) × (w : List ℕ)
      × (composed table start work rows n room ≡ making (Err (numbered 12 0 0 0)) t w))
      ↔ ((N : ℕ) × ViewersPart (composed_at rows n) n room N)
  composed_12_parted =
      let both = composed_12 table start work rows n room hn lent listed in (
        λ a. let g = both.0 a in (g.0, groupless_parted.0 g.1),
        λ p. both.1 (p.0, groupless_parted.1 p.1),
      )
