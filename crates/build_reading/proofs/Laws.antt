-- The stores of a build one after the other, and one law for each answer of `adds`, by the tests that lead to it.
use Prim.Native.Nat.{ℕ, ◌+◌, ◌*◌, ◌≤◌, ◌<◌}
use mathlib.Core.Path.{◌≡◌, sym, ap}
use mathlib.Core.List.{List}
use borrow.Author.Tests.{le-leb, lt-leb}
use lib.ListN.{get_or}
use lib.Dec.{eqb}
use Rattle.egg.specs.declared.GroupElementId.{GroupElementId}
use Rattle.egg.specs.declared.GeneratorId.{GeneratorId}
use Rattle.egg.specs.Answers.{Reached}
use Rattle.std.specs.Prelude.{Ok, Err}
use Rattle.egg.specs.Table.{put_at, start_of, succ_at, pred_at, length_of}
use Rattle.build_reading.specs.Build.{is_new, set_step, set_word, Adds, adds}
use Rattle.egg.specs.Answers.{numbered}

module _ (t : List ℕ) (n : ℕ) (e : GroupElementId) (g : GeneratorId) where
  pub step_stored : (r : GroupElementId) {at back old : ℕ} {t₁ t₂ : List ℕ} → at ≡ succ_at n e g → back ≡ pred_at n r g → old ≡ get_or t at 0
      → t₁ ≡ put_at t at (r.0 + 1) → t₂ ≡ put_at t₁ back (e.0 + 1) → (eqb old 0 ≡ is_new t n e g) × (t₂ ≡ set_step t n e g r)
  unfolding set_step
  step_stored r p q o a b = (rw (o, p), rw (b, a, p, q))

  pub word_stored : (new : GroupElementId) (len : ℕ) {s : ℕ} {t₁ t₂ t₃ : List ℕ} → s ≡ start_of n new.0
      → t₁ ≡ put_at t (s + 2 * n) e.0 → t₂ ≡ put_at t₁ (s + 2 * n + 1) g.0 → t₃ ≡ put_at t₂ (s + 2 * n + 2) len
      → t₃ ≡ set_word t n new e g len
  unfolding set_word
  word_stored new len q a b z = rw (z, b, a, q)

module _ (t : List ℕ) (n room count : ℕ) (e : GroupElementId) (g : GeneratorId) where
  pub adds_full : room ≤ count → adds t n room count e g ≡ record { answer = Err (numbered 5 e.0 g.0 0); table = t }
  unfolding adds
  adds_full h = simp (le-leb _ _ h)

  pub adds_long : count < room → 4096 ≤ length_of t n e.0 → adds t n room count e g ≡ record { answer = Err (numbered 6 e.0 g.0 0); table = t }
  unfolding adds
  adds_long h k = simp (lt-leb _ _ h, le-leb _ _ k)

  pub adds_new : {len : ℕ} {t₁ t₂ : List ℕ} → count < room → len ≡ length_of t n e.0 → len < 4096
      → t₁ ≡ set_word t n (record { 0 = count }) e g (len + 1) → t₂ ≡ set_step t₁ n e g (record { 0 = count })
      → adds t n room count e g ≡ record { answer = Ok (record { 0 = count }); table = t₂ }
  unfolding adds
  adds_new {len} h q k a b =
      let z : length_of t n e.0 < 4096 = rw (← q) k in
      rw (b, a, q) (simp (lt-leb _ _ h, lt-leb _ _ z))

-- The parts of an equation of answers.
pub parts : {a : Adds} {x : Reached} {l : List ℕ} → a ≡ record { answer = x; table = l } → (x ≡ a.answer) × (l ≡ a.table)
parts q = (sym (ap (λ (b : Adds). b.answer) q), sym (ap (λ (b : Adds). b.table) q))
