-- Over lists of an accepted factor's elements each place is the group's own product, inverse and power, or the first number that is no element is named.
-- Assumes nothing.
use Prim.Native.Nat.{ℕ, ◌≤◌, ◌<◌}
use mathlib.Core.Path.{◌≡◌, ap, ◌∙◌}
use mathlib.Core.Bool.{true}
use mathlib.Core.List.{List}
use native.Mathlib.Omega.{arith}
use lib.ListN.{length}
use lib.IntN.{ℤ}
use Rattle.egg.specs.declared.Factor.{Factor}
use Rattle.egg.specs.Answers.{Verdict}
use Rattle.std.specs.Prelude.{Err}
use Rattle.egg.specs.Factor.{fits_in, stretch}
use Rattle.factor_questions.specs.Walks.{compose_in, inverse_in}
use Rattle.egg.specs.Answers.{numbered, if_reach}
use Rattle.factor.specs.Questions.{compose_answer, inverse_answer}
use Rattle.factor.proofs.Admits.{admits_first, admits_second, admits_fine}
use Rattle.group_powers.specs.Powers.{powi_alone}
use Rattle.theory.specs.Group.{integer_power}
use Rattle.factor_laws.specs.Accepted.{Accepted, AnswersOf, reach}
use Rattle.factor_laws.proofs.Answers.{accepted_answers}
use Rattle.promises_group.proofs.Repeats.{powers_are}
use Rattle.lists_factor.specs.Each.{compose_each, inverse_each, powi_each}
use Rattle.promises_lists.specs.Walls.{FactorLists}
use Rattle.promises_lists.proofs.Each.{Singles, lists_of}

module _ {t : List ℕ} {f : Factor} {op : ℕ → ℕ → ℕ} {inv : ℕ → ℕ} (fits : fits_in (length t) f ≡ true) (A : AnswersOf t f op inv) where
  -- On the stretch, once the handle and the elements have been looked at.
  composes_in : (a b : ℕ) → a < f.elements → b < f.elements → compose_in (stretch t f) f.generators f.elements a b ≡ reach (op a b)
  unfolding compose_answer
  composes_in a b ha hb =
      ap (λ (v : Verdict). if_reach v (compose_in (stretch t f) f.generators f.elements a b)) (admits_fine (length t) f a b fits ha hb) ∙ A.composes ha hb

  inverts_in : (a : ℕ) → a < f.elements → inverse_in (stretch t f) f.generators f.elements a ≡ reach (inv a)
  unfolding inverse_answer
  inverts_in a ha =
      ap (λ (v : Verdict). if_reach v (inverse_in (stretch t f) f.generators f.elements a)) (admits_fine (length t) f a 0 fits ha (omega arith)) ∙ A.inverts ha

  -- The single power in one factor is the group's.
  pub powi_are : {a : ℕ} → a < f.elements → (z : ℤ) → powi_alone t f (record { 0 = a }) z ≡ reach (integer_power op inv a z)
  unfolding powi_alone
  powi_are {a} ha z =
      rw (← admits_fine (length t) f a 0 fits ha (omega arith))
      (powers_are A.group (record { is = composes_in }) 1073741824 (inverse_in (stretch t f) f.generators f.elements) (inverts_in a ha) ha z)

  compose_first : {a : ℕ} (b : ℕ) → f.elements ≤ a → compose_answer t f (record { 0 = a }) (record { 0 = b }) ≡ Err (numbered 14 0 0 0)
  unfolding compose_answer
  compose_first {a} b h = rw (← admits_first (length t) f a b fits h)

  compose_second : {a b : ℕ} → a < f.elements → f.elements ≤ b → compose_answer t f (record { 0 = a }) (record { 0 = b }) ≡ Err (numbered 14 1 0 0)
  unfolding compose_answer
  compose_second {a} {b} h k = rw (← admits_second (length t) f a b fits h k)

  inverse_stops : {a : ℕ} → f.elements ≤ a → inverse_answer t f (record { 0 = a }) ≡ Err (numbered 14 0 0 0)
  unfolding inverse_answer
  inverse_stops {a} h = rw (← admits_first (length t) f a 0 fits h)

  powi_stops : {a : ℕ} (z : ℤ) → f.elements ≤ a → powi_alone t f (record { 0 = a }) z ≡ Err (numbered 14 0 0 0)
  unfolding powi_alone
  powi_stops {a} z h = rw (← admits_first (length t) f a 0 fits h)

  singles : Singles f.elements op inv (compose_answer t f) (inverse_answer t f) (powi_alone t f)
  singles = record {
    group = A.group;
    composes = A.composes;
    inverts = A.inverts;
    powers = powi_are;
    compose_first = compose_first;
    compose_second = compose_second;
    inverse_stops = inverse_stops;
    power_stops = powi_stops;
  }

-- Whichever call accepted the factor; the group is the one of all its other answers.
pub factor_lists : {t : List ℕ} {f : Factor} → Accepted t f → (op : ℕ → ℕ → ℕ) × (inv : ℕ → ℕ) × AnswersOf t f op inv × FactorLists t f op inv
unfolding compose_each inverse_each powi_each
factor_lists A = let (op, inv, R) = accepted_answers A in (op, inv, R, lists_of (singles A.fits R))
