-- A loop over a scan: each turn goes on or stops at a refusal; the pair that was taken apart is the pair of the list.
use Prim.Native.Nat.{◌/◌, ◌%◌}
use lib.ListN.{length, get_or}
use Rattle.egg.specs.Pairs.{pair_code}
use Rattle.egg.proofs.Scans.{Scanning}
use Rattle.factor_relations.specs.Relations.{relation_at, pairs_row}
use Rattle.factor_relations.proofs.inner.pairs_row.Given as goal

abbrev pub invariant-loop-k : goal.invariant-loop-k
invariant-loop-k l = Scanning (length l.orders) (λ i. relation_at l.s l.n l.count l.e.0 (pair_code i / 8) (pair_code i % 8) (get_or l.orders i 0)) l.k (pairs_row l.s l.n l.count l.orders l.e.0)
