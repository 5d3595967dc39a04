-- A new element as it is set in a table, with its word, the step to it and the step back: these two steps are known then, and no others that were not.
use Prim.Native.Nat.{ℕ, ◌+◌, ◌*◌, ◌<◌, ◌≤◌}
use mathlib.Core.Path.{◌≡◌, ◌∙◌}
use mathlib.Core.List.{List}
use native.Mathlib.Omega.{arith}
use lib.ListN.{length}
use Rattle.egg.specs.declared.GroupElementId.{GroupElementId}
use Rattle.egg.specs.declared.GeneratorId.{GeneratorId}
use Rattle.egg.specs.Table.{start_of}
use Rattle.egg.proofs.Cells.{cell_inside}
use Rattle.build_reading.specs.Build.{set_step, set_word}
use Rattle.enumeration_run_laws.specs.Invariant.{StepKnown}
use Rattle.enumeration_run_laws.proofs.Marking.{set_length}
use Rattle.enumeration_run_laws.proofs.Growing.{word_length}
use Rattle.enumeration_run_laws.proofs.Knowing.{set_more, set_known}
use Rattle.enumeration_run_laws.proofs.Since.{set_other, word_step}

-- The table with the element that has the number c.
abbrev pub stepped : (t : List ℕ) (n c : ℕ) (e : GroupElementId) (g : GeneratorId) (len : ℕ) → List ℕ
stepped t n c e g len =
    set_step (set_step (set_word t n (record { 0 = c }) e g len) n e g (record { 0 = c })) n (record { 0 = c }) g e

module _ (t : List ℕ) (n c : ℕ) (e : GroupElementId) (g : GeneratorId) (len : ℕ) where
  abbrev new : GroupElementId
  new = record { 0 = c }

  abbrev word : List ℕ
  word = set_word t n new e g len

  abbrev once : List ℕ
  once = set_step word n e g new

  word_long : length word ≡ length t
  word_long = word_length t n c e g len

  pub stepped_length : length (stepped t n c e g len) ≡ length t
  stepped_length = set_length once n new g e ∙ set_length word n e g new ∙ word_long

  pub stepped_more : (x h : ℕ) → h < n → StepKnown n t x h → StepKnown n (stepped t n c e g len) x h
  stepped_more x h hh k = set_more n once new g e x h hh (set_more n word e g new x h hh (rw (word_step n t c e g len x h (omega arith)) k))

  module _ (he : e.0 < c) (hg : g.0 < n) where
    pub stepped_only : (x h : ℕ) → h < n → (x ≡ e.0 → h ≡ g.0 → ⊥) → (x ≡ c → h ≡ g.0 → ⊥) → StepKnown n (stepped t n c e g len) x h → StepKnown n t x h
    stepped_only x h hh d d' k =
        rw (
          set_other n once new g e hg x h (omega arith) d' (λ a b. omega arith),
          set_other n word e g new hg x h (omega arith) d (λ a b. omega arith),
          word_step n t c e g len x h (omega arith),
        ) at k

    module _ (fits : (c + 1) * (2 * n + 4) ≤ length t) (limit : c < 65535) where
      inside : (x : ℕ) → x < c + 1 → start_of n x + g.0 < length t
      inside x hx = let low : g.0 < 2 * n + 4 = omega arith in omega (arith, cell_inside n low hx)

      pub stepped_here : StepKnown n (stepped t n c e g len) e.0 g.0
      stepped_here = set_more n once new g e e.0 g.0 hg (set_known n word e g new (rw word_long (inside e.0 (omega arith))) (omega arith))

      pub stepped_new : StepKnown n (stepped t n c e g len) c g.0
      stepped_new = set_known n once new g e (rw (set_length word n e g new, word_long) (inside c (omega arith))) (omega arith)
