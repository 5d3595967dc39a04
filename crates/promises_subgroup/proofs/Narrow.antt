-- A build in a stretch that is longer than it needs: its first part, as long as is needed, holds the same by itself.
use Prim.Native.Nat.{ℕ, ◌+◌, ◌*◌, ◌-◌, ◌≤◌}
use mathlib.Core.Path.{◌≡◌, sym, ap, ◌∙◌}
use mathlib.Core.List.{List}
use native.Mathlib.Nat.{le_refl}
use lib.ListN.{length, take, replicate, length-replicate}
use lib.Seq.{take_at}
use Rattle.std.specs.Prelude.{Ok}
use Rattle.build_lending.specs.Finish.{built, finished_placed}
use Rattle.build_lending.specs.Lending.{table_need, work_need}
use Rattle.build_reading.specs.Reading.{read_all}
use Rattle.enumeration_run_laws.specs.Longer.{longer}
use Rattle.build_laws.specs.Taken.{Holding}
use Rattle.build_laws.proofs.Built.{built_holds, taken_built}
use Rattle.promises.proofs.Roomier.{built_roomier}

cut_longer : (k m : ℕ) (l : List ℕ) → length l ≡ m → take m (longer k l) ≡ l
unfolding longer
cut_longer k m l q = take_at l (replicate k 0) m q

same_table : {N : ℕ} {t t' w w' : List ℕ} → built (Ok N) t w ≡ built (Ok N) t' w' → t ≡ t'
same_table h = cc

module _ (src : ℕ → ℕ → ℕ) (n room size : ℕ) (w : List ℕ) (few : n ≤ 8) (lo : 1 ≤ room) (hi : room ≤ 65535) (fits : room * (2 * n + 4) ≤ size)
    (work : work_need n room ≤ length w) where
  pub narrow : {N : ℕ} {t w₁ : List ℕ} → finished_placed (read_all src n room (replicate size 0)) n w ≡ built (Ok N) t w₁
      → Holding src n room (table_need n room) N (take (table_need n room) t)
  narrow {N} {t} q =
      let v : List ℕ = replicate (work_need n room) 0 in
      let enough : work_need n room ≤ length v = rw (length-replicate {A = ℕ} (work_need n room) 0) (le_refl (work_need n room)) in
      let T = (built_holds src n room size w few lo hi fits work q).taken in
      let b = taken_built src n room (table_need n room) v few lo hi (le_refl (table_need n room)) enough T in
      let H = built_holds src n room (table_need n room) v few lo hi (le_refl (table_need n room)) enough b.2 in
      let r = built_roomier src n room (table_need n room) v few lo hi (le_refl (table_need n room)) enough room size w hi fits work (le_refl room) fits b.2 in
      let e : t ≡ longer (size - table_need n room) b.0 = same_table (sym q ∙ r.1) in
      let z : take (table_need n room) t ≡ b.0 =
      ap (λ (l : List ℕ). take (table_need n room) l) e ∙ cut_longer (size - table_need n room) (table_need n room) b.0 H.size_kept in
      rw z H
