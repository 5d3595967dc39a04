-- The answers through the handle: where it fits and the arguments are in range, they are those of its stretch.
use Prim.Native.Nat.{ℕ, zero, suc, ◌≤◌, ◌<◌}
use mathlib.Core.Path.{◌≡◌, refl, sym, ◌∙◌}
use mathlib.Core.Logic.{◌↔◌}
use mathlib.Core.Bool.{true}
use mathlib.Core.List.{List, ◌++◌}
use native.Mathlib.Omega.{arith}
use borrow.Author.Tests.{lt-leb}
use lib.ListN.{length, get_or, drop}
use lib.Seq.{take-append_seam}
use Rattle.egg.specs.declared.Refusal.{Refusal}
use Rattle.egg.specs.declared.Factor.{Factor}
use Rattle.egg.specs.Answers.{fine}
use Rattle.std.specs.Prelude.{Ok, Err}
use Rattle.egg.specs.Pairs.{orders_right}
use Rattle.egg.specs.Factor.{fits_in, stretch, step_answer}
use Rattle.egg.proofs.Answers.{step_read_lem}
use Rattle.egg.proofs.Scans.{scan_fine}
use Rattle.factor_walk.specs.Walked.{letter_right, letters_right, walk_in}
use Rattle.factor_walk.proofs.Letters.{letter_right_lem}
use Rattle.build_lending.proofs.Fits.{fits_small}
use Rattle.factor.specs.Questions.{admits, compose_answer, inverse_answer, conjugate_answer, count_answer, generator_answer, walk_answer, length_answer, write_answer, written, word_part}
use Rattle.factor_relations.specs.Relations.{relations}
use Rattle.factor.specs.Relations.{check_answer}
use Rattle.theory.specs.Group.{conjugate}
use Rattle.theory.specs.Words.{Word, empty, letter, walk}
use Rattle.theory.specs.Regular.{compose, inverse}
use Rattle.theory.specs.Presentation.{order_of, Holds}
use Rattle.factor_laws.specs.Accepted.{Accepted, factor_step, factor_back, factor_word, reach}
use Rattle.factor_relations_laws.specs.Fails.{Fails}
use Rattle.factor_laws.proofs.Steps.{follow_word, inverse_in_lem, generator_in_lem, compose_in_lem, conjugate_in_lem}
use Rattle.build_checks_laws.proofs.Accepted.{read_step_lem}
use Rattle.factor_laws.proofs.Letters.{length_in_lem, write_in_lem, spell_word}
use Rattle.factor_relations_laws.proofs.Relators.{orders_long, relations_exact, relations_fail}

pub admits_fine : (len : ℕ) (f : Factor) {a b : ℕ} → fits_in len f ≡ true → a < f.elements → b < f.elements → admits len f a b ≡ fine
unfolding admits
admits_fine len f fits ha hb = rw fits (simp (lt-leb _ _ ha, lt-leb _ _ hb))

-- Each letter of a word over n generators is right.
word_letter : {n : ℕ} {u : List ℕ} → Word n u → (i : ℕ) → i < length u → get_or u i 0 < n
word_letter empty i l = absurd (omega arith)
word_letter (letter hg hu) zero l = hg
word_letter (letter hg hu) (suc i) l = word_letter hu i (omega arith)

pub letters_fine : {n : ℕ} {u : List ℕ} → Word n u → letters_right n u ≡ fine
unfolding letters_right
letters_fine {n} {u} hu = (scan_fine (length u) (letter_right n u)).1 (λ i l. letter_right_lem n u i refl (word_letter hu i l))

module _ {t : List ℕ} {f : Factor} (A : Accepted t f) where
  origin : 0 < f.elements
  origin = A.sound.table.origin

  pub few_generators : f.generators ≤ 8
  few_generators = (fits_small (length t) f A.fits).0

  pub few_elements : f.elements ≤ 65535
  few_elements = (fits_small (length t) f A.fits).1

  module _ {e : ℕ} (he : e < f.elements) where
    pub step_answer_lem : {g : ℕ} → g < f.generators
        → step_answer t f (record { 0 = e }) (record { 0 = g }) ≡ reach (factor_step t f e g)
    step_answer_lem {g} hg = sym (step_read_lem t f (record { 0 = e }) (record { 0 = g }) A.fits he hg) ∙ read_step_lem A.sound he hg

    pub walk_answer_lem : {u : List ℕ} → Word f.generators u → walk_answer t f (record { 0 = e }) u ≡ reach (walk (factor_step t f) e u)
    unfolding walk_answer walk_in
    walk_answer_lem hu = rw (admits_fine (length t) f A.fits he origin, letters_fine hu) (follow_word A.sound he hu)

    pub inverse_answer_lem : inverse_answer t f (record { 0 = e }) ≡ reach (inverse (factor_back t f) (factor_word t f) e)
    unfolding inverse_answer
    inverse_answer_lem = rw (admits_fine (length t) f A.fits he origin) (inverse_in_lem A.sound he)

    pub length_answer_lem : length_answer t f (record { 0 = e }) ≡ Ok (length (factor_word t f e))
    unfolding length_answer
    length_answer_lem = rw (admits_fine (length t) f A.fits he origin) (length_in_lem A.sound he)

    pub write_answer_lem : (size : ℕ) → length (factor_word t f e) ≤ size
        → write_answer t f (record { 0 = e }) size ≡ Ok (length (factor_word t f e))
    unfolding write_answer
    write_answer_lem size room = rw (admits_fine (length t) f A.fits he origin) (write_in_lem A.sound A.ruled A.hops few_elements size he room)

    pub written_is : (out : List ℕ) → length (factor_word t f e) ≤ length out
        → written t f (record { 0 = e }) out
        ≡ factor_word t f e ++ drop (length (factor_word t f e)) out
    unfolding written
    written_is out room =
        rw (write_answer_lem (length out) room) (spell_word A.sound A.hops few_elements few_generators (length (factor_word t f e)) out he refl room)

    pub word_part_lem : (out : List ℕ) → length (factor_word t f e) ≤ length out
        → word_part t f (record { 0 = e }) out ≡ factor_word t f e
    unfolding word_part
    word_part_lem out room =
        rw (write_answer_lem (length out) room, written_is out room)
        (take-append_seam (factor_word t f e) (drop (length (factor_word t f e)) out))

  module _ {a b : ℕ} (ha : a < f.elements) (hb : b < f.elements) where
    pub compose_answer_lem : compose_answer t f (record { 0 = a }) (record { 0 = b })
        ≡ reach (compose (factor_step t f) (factor_word t f) a b)
    unfolding compose_answer
    compose_answer_lem = rw (admits_fine (length t) f A.fits ha hb) (compose_in_lem A.sound A.ruled A.hops few_elements ha hb)

    pub conjugate_answer_lem : conjugate_answer t f (record { 0 = a }) (record { 0 = b })
        ≡ reach (conjugate (compose (factor_step t f) (factor_word t f)) (inverse (factor_back t f) (factor_word t f)) a b)
    unfolding conjugate_answer
    conjugate_answer_lem = rw (admits_fine (length t) f A.fits ha hb) (conjugate_in_lem A.sound A.ruled A.hops few_elements ha hb)

  pub count_answer_lem : count_answer t f ≡ Ok f.elements
  unfolding count_answer
  count_answer_lem = rw (admits_fine (length t) f A.fits origin origin)

  pub generator_answer_lem : {g : ℕ} → g < f.generators → generator_answer t f (record { 0 = g }) ≡ reach (suc g)
  unfolding generator_answer
  generator_answer_lem hg = rw (admits_fine (length t) f A.fits origin origin) (generator_in_lem A.sound hg)

  -- With right orders the check is the test of the relations.
  module _ (o : List ℕ) (right : orders_right o f.generators ≡ fine) where
    pub check_is : check_answer t f o ≡ relations (stretch t f) f.generators f.elements o
    unfolding check_answer
    check_is = rw (admits_fine (length t) f A.fits origin origin, right)

    pub check_answer_lem : check_answer t f o ≡ fine ↔ Holds f.generators f.elements (order_of o) (factor_step t f)
    check_answer_lem = rw check_is (relations_exact A.sound few_generators o (orders_long o f.generators right))

    pub check_fails : {r : Refusal} → check_answer t f o ≡ Err r → Fails f.generators (order_of o) (factor_step t f) 0 r
    check_fails h = relations_fail A.sound few_generators o (orders_long o f.generators right) (sym check_is ∙ h)
