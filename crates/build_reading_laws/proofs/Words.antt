-- The words that a reading has stored when c elements are known: those that the numbers themselves record. A new element's word is its parent's and
-- one generator, since the place at which it is met is where it first appears.
use Prim.Native.Nat.{ℕ, suc, ◌+◌, ◌*◌, ◌≤◌, ◌<◌}
use mathlib.Core.Path.{◌≡◌, sym, ◌∙◌}
use mathlib.Core.Logic.{⊎_elim}
use mathlib.Core.List.{List}
use native.Mathlib.Omega.{arith}
use lib.ListN.{length}
use Rattle.theory.specs.Numbering.{Known}
use Rattle.theory.specs.Appearance.{parent_of_lem, last_of_lem, recorded}
use Rattle.theory.proofs.BoundedTests.{below_suc}
use Rattle.theory.proofs.Counting.{row_known, new_first}
use Rattle.theory.proofs.FirstPlaces.{parent_found, last_found}
use Rattle.theory.proofs.RuleLaws.{new_letters}
use Rattle.build_reading_laws.proofs.Stores.{cell, worded, word_keeps, word_parent, word_last, word_letters}

pub record Words (src : ℕ → ℕ → ℕ) (n c : ℕ) (t : List ℕ) : Type 0 where
  pub parent : {e : ℕ} → 0 < e → e < c → cell t n e (2 * n) ≡ parent_of_lem n src e
  pub letter : {e : ℕ} → 0 < e → e < c → cell t n e (2 * n + 1) ≡ last_of_lem n src e
  pub letters : {e : ℕ} → e < c → cell t n e (2 * n + 2) ≡ length (recorded n src e)
  pub no_parent : cell t n 0 (2 * n) ≡ 0
  pub no_letter : cell t n 0 (2 * n + 1) ≡ 0
  pub no_inverse : (e : ℕ) → cell t n e (2 * n + 3) ≡ 0

module _ {src : ℕ → ℕ → ℕ} {n : ℕ} where
  pub words_same : {c : ℕ} {t t' : List ℕ} → ((e k : ℕ) → 2 * n ≤ k → k < 2 * n + 4 → cell t' n e k ≡ cell t n e k)
      → Words src n c t → Words src n c t'
  words_same same W = record {
    parent = λ {e} p h. same e (2 * n) (omega arith) (omega arith) ∙ W.parent p h;
    letter = λ {e} p h. same e (2 * n + 1) (omega arith) (omega arith) ∙ W.letter p h;
    letters = λ {e} h. same e (2 * n + 2) (omega arith) (omega arith) ∙ W.letters h;
    no_parent = same 0 (2 * n) (omega arith) (omega arith) ∙ W.no_parent;
    no_letter = same 0 (2 * n + 1) (omega arith) (omega arith) ∙ W.no_letter;
    no_inverse = λ e. same e (2 * n + 3) (omega arith) (omega arith) ∙ W.no_inverse e;
  }

  module _ {x g c len : ℕ} {t : List ℕ} (W : Words src n c t) (K : Known n src x g c) (hg : g < n) (is : src x g ≡ c)
      (hl : len ≡ suc (length (recorded n src x))) (room : len ≤ 4096) (hn : n ≤ 8) (small : c < 65535)
      (fits : suc c * (2 * n + 4) ≤ length t) where
    hx : x < c
    hx = row_known K

    old_row : {e : ℕ} → e < c → (k : ℕ) → k < 2 * n + 4 → cell (worded t n c x g len) n e k ≡ cell t n e k
    old_row {e} h k hk = word_keeps t n c x g len e k hk (λ p l m. omega arith)

    pub words_new : Words src n (suc c) (worded t n c x g len)
    words_new =
        let F = new_first K hg is in
        let hx' : x ≤ c = omega (arith, hx) in
        record {
          parent = λ {e} p h. ⊎_elim
              (λ q. rw q (word_parent t n c x g len hx' hg hn room small fits ∙ sym (parent_found F)))
              (λ l. old_row l (2 * n) (omega arith) ∙ W.parent p l)
              (below_suc h);
          letter = λ {e} p h. ⊎_elim
              (λ q. rw q (word_last t n c x g len hx' hg hn room small fits ∙ sym (last_found F)))
              (λ l. old_row l (2 * n + 1) (omega arith) ∙ W.letter p l)
              (below_suc h);
          letters = λ {e} h. ⊎_elim
              (λ q. rw q (word_letters t n c x g len hx' hg hn room small fits ∙ hl ∙ sym (new_letters K hg is)))
              (λ l. old_row l (2 * n + 2) (omega arith) ∙ W.letters l)
              (below_suc h);
          no_parent = old_row (omega (arith, hx)) (2 * n) (omega arith) ∙ W.no_parent;
          no_letter = old_row (omega (arith, hx)) (2 * n + 1) (omega arith) ∙ W.no_letter;
          no_inverse = λ e. word_keeps t n c x g len e (2 * n + 3) (omega arith) (λ p l m. omega arith) ∙ W.no_inverse e;
        }
