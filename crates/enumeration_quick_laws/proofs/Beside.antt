-- The two runs side by side: q is the table of the quick one, t and w are the stretches of the other, and F is the table that the quick one will leave.
use Prim.Native.Nat.{ℕ, suc, ◌+◌, ◌*◌, ◌<◌, ◌≤◌}
use mathlib.Core.Path.{◌≡◌}
use mathlib.Core.List.{List}
use native.Mathlib.Omega.{arith}
use lib.ListN.{get_or}
use Rattle.egg.specs.Table.{start_of, step_of, last_of}
use Rattle.enumeration_quick_laws.proofs.Ahead.{AllBefore}
use Rattle.enumeration_run_laws.specs.Invariant.{StepKnown}
use Rattle.enumeration_run_laws.specs.Going.{Going}
use Rattle.enumeration_closure_laws.specs.Closure.{Closed}
use Rattle.enumeration_quick_laws.specs.Sweeping.{Live, TwoWay, Grows}

-- Between two places: the steps of the quick run's table go both ways, the other run is closed, it knows all that the quick run knows, and the words are the same.
pub record Beside (n : ℕ) (o : List ℕ) (lt lw : ℕ) (F : List ℕ) (c : ℕ) (q t w : List ℕ) : Type 0 where
  pub two_way : TwoWay n c lt q
  pub closed : Closed n o (step_of F n) (Live (last_of F n)) c lt lw t w
  pub known : (e h : ℕ) → h < n → StepKnown n q e h → StepKnown n t e h
  pub rest : (e k : ℕ) → 2 * n ≤ k → k < 2 * n + 4 → get_or t (start_of n e + k) 0 ≡ get_or q (start_of n e + k) 0

-- The same, before the place of row x and column g is visited.
pub record Abreast (n : ℕ) (o : List ℕ) (room lt lw : ℕ) (F : List ℕ) (x g c : ℕ) (q t w : List ℕ) : Type 1 where
  pub beside : Beside n o lt lw F c q t w
  pub going : Going n o room lt lw x g c t w
  pub seen : AllBefore n (StepKnown n q) x g

-- What is known in a table leads in the last one where it leads there.
pub grown_step : {n c N : ℕ} {q F : List ℕ} → Grows n c N q F → (e g : ℕ) → g < n → StepKnown n q e g → get_or q (start_of n e + g) 0 ≡ suc (step_of F n e g)
grown_step G e g hg k = let same = G.known e g hg k in omega arith
