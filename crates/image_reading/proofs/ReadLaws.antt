-- Laws of the build from an image's rows: one for each answer of its last test, and one for the whole.
use Prim.Native.Nat.{ℕ, ◌≤◌, ◌<◌}
use mathlib.Core.Path.{◌≡◌, ap, ◌∙◌}
use mathlib.Core.List.{List}
use borrow.Author.Tests.{lt-ltb, le-ltb}
use lib.ListN.{replicate}
use Rattle.egg.specs.declared.Refusal.{Refusal}
use Rattle.egg.specs.Answers.{Counted}
use Rattle.std.specs.Prelude.{Ok, Err}
use Rattle.egg.specs.Answers.{numbered}
use Rattle.build_lending.specs.Finish.{Built, finished, finished_placed}
use Rattle.build_reading.specs.Reading.{Placed, placed, read_all, composed_at}
use Rattle.image_reading.specs.Read.{reached_all, all_placed, image_in}

-- Where a reading gave a refusal, too few, or all.
module _ (room : ℕ) {c : Counted} where
  pub all_refused : {r : Refusal} → c ≡ Err r → Err r ≡ reached_all room c
  all_refused e = rw e

  pub all_fewer : {k : ℕ} → c ≡ Ok k → k < room → Err (numbered 16 0 0 0) ≡ reached_all room c
  all_fewer e h = rw e (simp (lt-ltb _ _ h))

  pub all_whole : {k : ℕ} → c ≡ Ok k → room ≤ k → Ok k ≡ reached_all room c
  all_whole e h = rw e (simp (le-ltb _ _ h))

-- The build: a zeroed table, read into, and finished.
pub image_in_lem : (size : ℕ) (w rows : List ℕ) (n room : ℕ) {t₀ t : List ℕ} {c d : Counted} {b : Built} → t₀ ≡ replicate size 0
    → placed c t ≡ read_all (composed_at rows n) n room t₀ → d ≡ reached_all room c → b ≡ finished d n t w → b ≡ image_in size w rows n room
unfolding image_in
image_in_lem size w rows n room {t₀} {t} {c} {d} a p r q =
    let e : placed c t ≡ read_all (composed_at rows n) n room (replicate size 0) = rw a at p in
    q ∙ ap (λ (x : Counted). finished x n t w) r ∙ ap (λ (x : Placed). finished_placed (all_placed room x) n w) e
