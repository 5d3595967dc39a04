-- The build from composed rows.
use Prim.Native.Nat.{ℕ}
use mathlib.Core.Path.{◌≡◌, ap, ◌∙◌}
use mathlib.Core.List.{List}
use lib.ListN.{replicate}
use Rattle.egg.specs.Answers.{Counted}
use Rattle.build_lending.specs.Finish.{Built, finished, finished_placed}
use Rattle.build_reading.specs.Reading.{Placed, placed, read_all, composed_at}
use Rattle.factor_composed_rows.specs.Rows.{composed_in}

-- The build: a zeroed table, read into, and finished.
pub composed_in_lem : (size : ℕ) (w rows : List ℕ) (n room : ℕ) {t₀ t : List ℕ} {c : Counted} {b : Built} → t₀ ≡ replicate size 0
    → placed c t ≡ read_all (composed_at rows n) n room t₀ → b ≡ finished c n t w → b ≡ composed_in size w rows n room
unfolding composed_in
composed_in_lem size w rows n room {t₀} {t} {c} a p q =
    let e : placed c t ≡ read_all (composed_at rows n) n room (replicate size 0) = rw a at p in
    q ∙ ap (λ (x : Placed). finished_placed x n w) e
