-- Of an accepted factor every answer is a group's, and no other group's.
use Prim.Native.Nat.{ℕ, ◌<◌}
use mathlib.Core.Path.{◌≡◌, sym, ap, ◌∙◌}
use mathlib.Core.List.{List}
use Rattle.egg.specs.declared.Factor.{Factor}
use Rattle.factor.specs.Questions.{compose_answer, inverse_answer}
use Rattle.theory.specs.AnyGroup.{SomeGroup}
use Rattle.theory.specs.Regular.{compose, inverse}
use Rattle.theory.proofs.Complete.{compose_is_op, inverse_is_inv}
use Rattle.theory.proofs.Exact.{compose_is_any, inverse_is_any}
use Rattle.build_checks_laws.proofs.Accepted.{sound_group, sound_right_steps}
use Rattle.factor_laws.specs.Accepted.{Accepted, AnswersOf, factor_step, factor_back, factor_word, reach}
use Rattle.factor_laws.proofs.Handles.{step_answer_lem, inverse_answer_lem, length_answer_lem, write_answer_lem, written_is, word_part_lem, compose_answer_lem, conjugate_answer_lem}
use Rattle.factor_laws.proofs.Handles.{count_answer_lem, generator_answer_lem, check_answer_lem, check_fails}

module _ {t : List ℕ} {f : Factor} (A : Accepted t f) where
  pub accepted_answers : (op : ℕ → ℕ → ℕ) × (inv : ℕ → ℕ) × AnswersOf t f op inv
  accepted_answers = (
    compose (factor_step t f) (factor_word t f),
    inverse (factor_back t f) (factor_word t f),
    record {
      group = sound_group A.sound;
      right_steps = sound_right_steps A.sound;
      counts = count_answer_lem A;
      generators = λ hg. generator_answer_lem A hg ∙ ap reach (sym (A.sound.identity_row_lem hg));
      steps = λ he hg. step_answer_lem A he hg ∙ ap reach ((sound_right_steps A.sound).step_is he hg);
      composes = compose_answer_lem A;
      walks = compose_answer_lem A;
      inverts = inverse_answer_lem A;
      conjugates = conjugate_answer_lem A;
      lengths = length_answer_lem A;
      writes = λ size he. write_answer_lem A he size;
      leaves = λ out he. written_is A he out;
      parts = λ out he. word_part_lem A he out;
      spells = A.sound.spelled.spells;
      checks = check_answer_lem A;
      fails = λ o right. check_fails A o right;
      only_product = λ G R ha hb. sym (compose_is_op G R A.sound.spelled ha hb);
      only_inverse = λ G R ha. sym (inverse_is_inv G R A.sound.spelled A.sound.columns ha);
    },
  )

  -- The same for a group on any carrier: composing and inverting are multiplying and inverting what the numbers number.
  module _ (G : SomeGroup f.generators f.elements (factor_step t f)) where
    open G use {group, numbers}

    pub compose_any : {a b : ℕ} → a < f.elements → b < f.elements
        → compose_answer t f (record { 0 = a }) (record { 0 = b }) ≡ reach (numbers.num (group.op (numbers.elt a) (numbers.elt b)))
    compose_any ha hb = compose_answer_lem A ha hb ∙ ap reach (compose_is_any A.sound.spelled G ha hb)

    pub inverse_any : {a : ℕ} → a < f.elements → inverse_answer t f (record { 0 = a }) ≡ reach (numbers.num (group.inv (numbers.elt a)))
    inverse_any ha = inverse_answer_lem A ha ∙ ap reach (inverse_is_any A.sound.spelled G A.sound.columns ha)
