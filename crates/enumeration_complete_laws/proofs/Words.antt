-- The words that a run has recorded are those of the table; they stay so where steps are set, and where a new element's word is written.
use Prim.Native.Nat.{ℕ, ◌+◌, ◌*◌, ◌%◌, ◌<◌, ◌≤◌}
use mathlib.Core.Path.{◌≡◌, sym, ap, ◌∙◌}
use mathlib.Core.Logic.{⊎_elim}
use mathlib.Core.List.{List}
use native.Mathlib.Omega.{arith}
use lib.ListN.{get_or, length}
use Rattle.egg.specs.declared.GroupElementId.{GroupElementId}
use Rattle.egg.specs.declared.GeneratorId.{GeneratorId}
use Rattle.egg.specs.Table.{start_of, parent_of, last_of, length_of}
use Rattle.build_reading.specs.Build.{set_word}
use Rattle.theory.specs.Appearance.{First}
use Rattle.theory.specs.Numbering as rule
use Rattle.theory.proofs.BoundedTests.{below_suc}
use Rattle.theory.proofs.Counting.{new_first}
use Rattle.theory.proofs.FirstPlaces.{parent_found, last_found}
use Rattle.theory.proofs.RuleLaws.{new_letters}
use Rattle.enumeration_run_laws.proofs.Growing.{parent_old, last_old, parent_new, last_new}
use Rattle.enumeration_run_laws.proofs.Since.{word_old, word_new}
use Rattle.enumeration_complete_laws.specs.Ends.{TableWords}

-- In s the cells of the words are those of t.
pub record WordsKept (n : ℕ) (t s : List ℕ) : Type 0 where
  pub rest : (y k : ℕ) → 2 * n ≤ k → k < 2 * n + 4 → get_or s (start_of n y + k) 0 ≡ get_or t (start_of n y + k) 0

module _ {n : ℕ} {t s : List ℕ} (R : WordsKept n t s) where
  parent_is : (y : ℕ) → parent_of s n y ≡ parent_of t n y
  parent_is y = R.rest y (2 * n) (omega arith) (omega arith)

  last_is : (y : ℕ) → last_of s n y ≡ last_of t n y
  last_is y =
      let i : start_of n y + (2 * n + 1) ≡ start_of n y + 2 * n + 1 = omega arith in
      ap (λ (v : ℕ). v % 8) (rw i at (R.rest y (2 * n + 1) (omega arith) (omega arith)))

  length_is : (y : ℕ) → length_of s n y ≡ length_of t n y
  length_is y =
      let i : start_of n y + (2 * n + 2) ≡ start_of n y + 2 * n + 2 = omega arith in
      rw i at (R.rest y (2 * n + 2) (omega arith) (omega arith))

  pub words_kept : {step : ℕ → ℕ → ℕ} {c : ℕ} → TableWords n step c t → TableWords n step c s
  words_kept W = record {
    parent = λ y pos hy. parent_is y ∙ W.parent y pos hy;
    last = λ y pos hy. last_is y ∙ W.last y pos hy;
    letters = λ y hy. length_is y ∙ W.letters y hy;
  }

-- A new element, whose word is that of x and the letter g.
pub words_new : {n : ℕ} {step : ℕ → ℕ → ℕ} {x g c : ℕ} {t : List ℕ} → TableWords n step c t → rule.Known n step x g c → x < c → g < n → step x g ≡ c → n ≤ 8 → c < 65535
    → start_of n c + (2 * n + 4) ≤ length t → length_of t n x < 4096
    → TableWords n step (c + 1) (set_word t n (record { 0 = c }) (record { 0 = x }) (record { 0 = g }) (length_of t n x + 1))
words_new {n} {step} {x} {g} {c} {t} W K hx hg leads few limit fits small = record {
  parent = λ y pos hy. ⊎_elim
      (λ q. rw q (parent_new t n c e γ len fits (omega arith) ∙ sym (parent_found F)))
      (λ l. parent_old t n c e γ len y l ∙ W.parent y pos l)
      (below_suc (omega arith));
  last = λ y pos hy. ⊎_elim
      (λ q. rw q (last_new t n c e γ len fits (omega arith) ∙ sym (last_found F)))
      (λ l. last_old t n c e γ len y l ∙ W.last y pos l)
      (below_suc (omega arith));
  letters = λ y hy. ⊎_elim
      (λ q. rw q (word_new n t c e γ len fits (omega arith) ∙ omega (arith, new_letters K hg leads, W.letters x hx)))
      (λ l. let d : y ≡ c → ⊥ = omega arith in word_old n t c e γ len y d ∙ W.letters y l)
      (below_suc (omega arith));
} where
  e : GroupElementId
  e = record { 0 = x }

  γ : GeneratorId
  γ = record { 0 = g }

  len : ℕ
  len = length_of t n x + 1

  F : First n step c x g
  F = new_first K hg leads
