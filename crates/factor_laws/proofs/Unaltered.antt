-- What an accepted factor answers depends on its stretch only.
use Prim.Native.Nat.{ℕ}
use mathlib.Core.Path.{◌≡◌}
use mathlib.Core.Bool.{true}
use mathlib.Core.List.{List}
use lib.ListN.{length}
use Rattle.egg.specs.declared.Factor.{Factor}
use Rattle.egg.specs.declared.GroupElementId.{GroupElementId}
use Rattle.egg.specs.declared.GeneratorId.{GeneratorId}
use Rattle.egg.specs.Factor.{fits_in, stretch, step_answer}
use Rattle.factor.specs.Questions.{admits, compose_answer, inverse_answer, conjugate_answer, count_answer, generator_answer, length_answer}
use Rattle.factor.specs.Questions.{write_answer, written, word_part}
use Rattle.factor.specs.Relations.{check_answer}
use Rattle.factor_laws.specs.Accepted.{Accepted}
use Rattle.factor_laws.specs.Unaltered.{Unaltered}

admits_same : (len len' : ℕ) (f : Factor) (a b : ℕ) → fits_in len f ≡ true → fits_in len' f ≡ true → admits len' f a b ≡ admits len f a b
unfolding admits
admits_same len len' f a b p q = rw (p, q)

module _ {t : List ℕ} (t' : List ℕ) {f : Factor} (A : Accepted t f) (same : stretch t' f ≡ stretch t f) (fits : fits_in (length t') f ≡ true) where
  may : (a b : ℕ) → admits (length t') f a b ≡ admits (length t) f a b
  may a b = admits_same (length t) (length t') f a b A.fits fits

  steps_same : (e : GroupElementId) (g : GeneratorId) → step_answer t' f e g ≡ step_answer t f e g
  unfolding step_answer
  steps_same e g = rw (fits, A.fits, same)

  composes_same : (a b : GroupElementId) → compose_answer t' f a b ≡ compose_answer t f a b
  unfolding compose_answer
  composes_same a b = rw (may a.0 b.0, same)

  inverts_same : (a : GroupElementId) → inverse_answer t' f a ≡ inverse_answer t f a
  unfolding inverse_answer
  inverts_same a = rw (may a.0 0, same)

  conjugates_same : (a b : GroupElementId) → conjugate_answer t' f a b ≡ conjugate_answer t f a b
  unfolding conjugate_answer
  conjugates_same a b = rw (may a.0 b.0, same)

  counts_same : count_answer t' f ≡ count_answer t f
  unfolding count_answer
  counts_same = rw (may 0 0)

  generators_same : (g : GeneratorId) → generator_answer t' f g ≡ generator_answer t f g
  unfolding generator_answer
  generators_same g = rw (may 0 0, same)

  lengths_same : (e : GroupElementId) → length_answer t' f e ≡ length_answer t f e
  unfolding length_answer
  lengths_same e = rw (may e.0 0, same)

  writes_same : (e : GroupElementId) (size : ℕ) → write_answer t' f e size ≡ write_answer t f e size
  unfolding write_answer
  writes_same e size = rw (may e.0 0, same)

  leaves_same : (e : GroupElementId) (out : List ℕ) → written t' f e out ≡ written t f e out
  unfolding written
  leaves_same e out = rw (writes_same e (length out), same)

  parts_same : (e : GroupElementId) (out : List ℕ) → word_part t' f e out ≡ word_part t f e out
  unfolding word_part
  parts_same e out = rw (writes_same e (length out), leaves_same e out)

  checks_same : (o : List ℕ) → check_answer t' f o ≡ check_answer t f o
  unfolding check_answer
  checks_same o = rw (may 0 0, same)

  -- The premise of demands 2 and 3: where the stretch is the same and the handle fits, everything is the same.
  pub unaltered : Unaltered t t' f
  unaltered = record {
    accepted = record { fits = fits; sound = rw same A.sound; ruled = rw same A.ruled; hops = rw same A.hops };
    stretches = same;
    steps = steps_same;
    composes = composes_same;
    inverts = inverts_same;
    conjugates = conjugates_same;
    counts = counts_same;
    generators = generators_same;
    lengths = lengths_same;
    writes = writes_same;
    leaves = leaves_same;
    parts = parts_same;
    checks = checks_same;
  }
