-- A build from the numbers of a source, in any stretches that are long enough: refused exactly where there is a fault, with its number and places. So the
-- numbers alone determine which refusal comes.
use Prim.Native.Nat.{ℕ, ◌+◌, ◌*◌, ◌≤◌}
use mathlib.Core.Path.{◌≡◌, refl, sym, ◌∙◌}
use mathlib.Core.Logic.{◌↔◌, ◌⊎◌, inl, inr, ⊎_elim}
use mathlib.Core.List.{List}
use native.Mathlib.Nat.{le_refl}
use lib.ListN.{length, replicate, length-replicate}
use Rattle.egg.specs.declared.Refusal.{Refusal}
use Rattle.std.specs.Prelude.{Ok, Err}
use Rattle.build_checks.specs.Checks.{checked, check_group}
use Rattle.build_lending.specs.Finish.{Built, built, zeroed, finished, finished_placed}
use Rattle.build_lending.proofs.Finishing.{refused_counted}
use Rattle.build_lending.specs.Lending.{work_need}
use Rattle.egg.specs.Answers.{numbered}
use Rattle.build_reading.specs.Reading.{placed, read_all}
use Rattle.build_reading_laws.specs.Read.{Readable}
use Rattle.build_reading_laws.proofs.Readings.{accepted_read, refused_read, readable_accepted, refuses_refused}
use Rattle.build_laws.specs.Taken.{Taken}
use Rattle.build_laws.proofs.Built.{built_holds, taken_built}
use Rattle.build_laws.proofs.Twelve.{build_refused, refused_build, groupless_built}
use Rattle.promises_refusals.specs.Faults.{Fault, unread, lacks, strays, twists, misnumbers, groupless}
use Rattle.promises_refusals.proofs.Checked.{lacks_refused, strays_refused, twists_refused, misnumbers_refused, checked_fault}

module _ (src : ℕ → ℕ → ℕ) (n room size : ℕ) (w : List ℕ) (few : n ≤ 8) (lo : 1 ≤ room) (hi : room ≤ 65535) (fits : room * (2 * n + 4) ≤ size)
    (work : work_need n room ≤ length w) where
  abbrev build : Built
  build = finished_placed (read_all src n room (replicate size 0)) n w

  abbrev RefusedBy : Refusal → Type 0
  RefusedBy r = (t : List ℕ) × (w₁ : List ℕ) × (build ≡ built (Err r) t w₁)

  -- Whatever a build refuses, there is the fault.
  pub built_fault : {r : Refusal} {t w₁ : List ℕ} → finished_placed (read_all src n room (replicate size 0)) n w ≡ built (Err r) t w₁ → Fault src n room r
  built_fault q = ⊎_elim
      (λ a. unread (refused_read src n room size few lo hi fits a.1))
      (λ a. checked_fault src n room size w few lo hi fits work (accepted_read src n room size few lo hi fits a.4) a.5)
      (build_refused (read_all src n room (replicate size 0)) n w q)

  -- A check that refuses after the reading of what is readable.
  after : {N : ℕ} (r : Refusal) (a : (t : List ℕ) × (read_all src n room (replicate size 0) ≡ placed (Ok N) t))
      → (t₁ : List ℕ) × (w₁ : List ℕ) × (check_group a.0 w n N ≡ checked (Err r) t₁ w₁) → RefusedBy r
  after r a b = (zeroed b.0, zeroed b.1, refused_build n w a.1 b.2)

  read : {N : ℕ} → Readable src n room N → (t : List ℕ) × (read_all src n room (replicate size 0) ≡ placed (Ok N) t)
  read G = readable_accepted src n room size few lo hi fits G

  -- And each fault is refused so.
  pub fault_built : {r : Refusal} → Fault src n room r
      → (t : List ℕ) × (w₁ : List ℕ) × (finished_placed (read_all src n room (replicate size 0)) n w ≡ built (Err r) t w₁)
  unfolding finished
  fault_built (unread F) = let a = refuses_refused src n room size few lo hi fits F in (zeroed a.0, zeroed w, rw a.1)
  fault_built (lacks {e} {g} L) =
      let a = read L.readable in
      after (numbered 8 e g 0) a (a.0, w, lacks_refused src n room size w few lo hi fits work (accepted_read src n room size few lo hi fits a.1) L.first)
  fault_built (strays {e} {g} L) =
      let a = read L.readable in
      after (numbered 9 e g 0) a
      (a.0, w, strays_refused src n room size w few lo hi fits work (accepted_read src n room size few lo hi fits a.1) L.columns L.first)
  fault_built (twists {e} {i} {j} L) =
      let a = read L.readable in
      let b = twists_refused src n room size w few lo hi fits work (accepted_read src n room size few lo hi fits a.1) L.columns
      (λ x g hx hg. L.moves hx hg) L.first in
      after (numbered 10 e i j) a (b.0, b.1, rw (← L.again_is, ← L.inverse_is) b.2)
  fault_built (misnumbers {g} L) =
      let a = read L.readable in
      after (numbered 11 g 0 0) a
      (misnumbers_refused src n room size w few lo hi fits work (accepted_read src n room size few lo hi fits a.1) L.columns
      (λ x h hx hh. L.moves hx hh) (λ x hx. L.turns hx) L.first)
  fault_built (groupless G) = groupless_built src n room size w few lo hi fits work G

  -- Refused by r exactly where r is the fault.
  pub built_exactly : (r : Refusal)
      → ((t : List ℕ) × (w₁ : List ℕ) × (finished_placed (read_all src n room (replicate size 0)) n w ≡ built (Err r) t w₁)) ↔ Fault src n room r
  built_exactly r = (λ a. built_fault a.2, fault_built)

  -- Accepted or refused, by what the numbers are.
  pub built_either : (b : Built) → finished_placed (read_all src n room (replicate size 0)) n w ≡ b
      → ((N : ℕ) × Taken src n room N) ⊎ ((r : Refusal) × Fault src n room r)
  built_either (built (Ok N) t v) q = inl (N, (built_holds src n room size w few lo hi fits work q).taken)
  built_either (built (Err r) t v) q = inr (r, built_fault q)

-- Of the numbers alone, within document 01's limits: they are taken or have a fault, not both, and one fault only.
same_built : {r s : Refusal} {t t₁ v v₁ : List ℕ} → built (Err r) t v ≡ built (Err s) t₁ v₁ → r ≡ s
same_built h = cc

module _ (src : ℕ → ℕ → ℕ) (n room : ℕ) (few : n ≤ 8) (lo : 1 ≤ room) (hi : room ≤ 65535) where
  abbrev size : ℕ
  size = room * (2 * n + 4)

  abbrev w : List ℕ
  w = replicate (work_need n room) 0

  work : work_need n room ≤ length w
  work = rw length-replicate (le_refl (work_need n room))

  pub fault_once : {r s : Refusal} → Fault src n room r → Fault src n room s → r ≡ s
  fault_once F G =
      let a = fault_built src n room size w few lo hi (le_refl size) work F in
      let b = fault_built src n room size w few lo hi (le_refl size) work G in
      same_built (sym a.2 ∙ b.2)

  pub taken_no_fault : {N : ℕ} {r : Refusal} → Taken src n room N → Fault src n room r → ⊥
  taken_no_fault G F =
      let a = taken_built src n room size w few lo hi (le_refl size) work G in
      let b = fault_built src n room size w few lo hi (le_refl size) work F in
      refused_counted (sym b.2 ∙ a.2)

  pub taken_or_fault : ((N : ℕ) × Taken src n room N) ⊎ ((r : Refusal) × Fault src n room r)
  taken_or_fault = built_either src n room size w few lo hi (le_refl size) work (finished_placed (read_all src n room (replicate size 0)) n w) refl
