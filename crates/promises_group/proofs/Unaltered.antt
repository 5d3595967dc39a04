-- What a product answers depends on its factors' stretches only; so a build elsewhere in the same buffer leaves it as it is, accepted or refused.
use Prim.Native.Nat.{ℕ, ◌-◌, ◌/◌, ◌%◌}
use mathlib.Core.Path.{◌≡◌, refl, fun_ext}
use mathlib.Core.List.{List}
use lib.ListN.{length}
use lib.IntN.{ℤ}
use Rattle.egg.specs.declared.Factor.{Factor}
use Rattle.egg.specs.declared.GroupElementId.{GroupElementId}
use Rattle.egg.specs.declared.GeneratorId.{GeneratorId}
use Rattle.egg.specs.Answers.{Counted}
use Rattle.std.specs.Prelude.{Ok, Err}
use Rattle.factor_laws.specs.Unaltered.{Unaltered}
use Rattle.promises.specs.Leaves.{Lent}
use Rattle.promises.specs.Unaltered.{Wrote}
use Rattle.promises.proofs.Unaltered.{kept}
use Rattle.group_handles.specs.declared.Group.{Group}
use Rattle.group_handles.specs.Handles.{handles, admits}
use Rattle.group_digits.specs.Digits.{PartQuestion, Compose, Inverse, Conjugate, digit_of, digitwise, step_in, composes, inverts}
use Rattle.group_periods.specs.Periods.{periods}
use Rattle.group_words.specs.Words.{lengths, readables, spells, writes, leaves}
use Rattle.group_flatten.specs.Flat.{flat_in, flat_into, flat}
use Rattle.group.specs.Questions.{count_answer, generators_answer, generator_answer, step_answer, project_answer, inject_answer, split_answer, split_leaves, join_answer}
use Rattle.group.specs.Questions.{compose_answer, inverse_answer, conjugate_answer, powi_answer, period_answer, length_answer, write_answer, written, word_part}
use Rattle.promises_group.specs.Products as products
use Rattle.promises_group.specs.Products.{AllAccepted, AcceptedProduct}
use Rattle.promises_group.specs.Unaltered.{AllUnaltered, none, more, AllApart, alone, beside, UnalteredProduct}
use Rattle.promises_group.proofs.Parts.{all_fit_lem}

module _ {t t' : List ℕ} where
  pub all_accepted : {hs : List Factor} → AllUnaltered t t' hs → AllAccepted t' hs
  all_accepted none = products.none
  all_accepted (more U Us) = products.more U.accepted (all_accepted Us)

  digit_same : (k : PartQuestion) {h : Factor} → Unaltered t t' h → (a b : ℕ) → digit_of k t' h a b ≡ digit_of k t h a b
  digit_same Compose U a b = rw U.stretches
  digit_same Inverse U a b = rw U.stretches
  digit_same Conjugate U a b = rw U.stretches

  digits_same : (k : PartQuestion) {hs : List Factor} → AllUnaltered t t' hs → (a b : ℕ) → digitwise (digit_of k t') hs a b ≡ digitwise (digit_of k t) hs a b
  unfolding digitwise
  digits_same k none a b = refl
  digits_same k (more {h} U Us) a b =
      simp (digit_same k U (a % h.elements) (b % h.elements), digits_same k Us (a / h.elements) (b / h.elements))

  steps_same : {hs : List Factor} → AllUnaltered t t' hs → (e x : ℕ) → step_in t' hs e x ≡ step_in t hs e x
  unfolding step_in
  steps_same none e x = refl
  steps_same (more {h} U Us) e x = rw (U.stretches, steps_same Us (e / h.elements) (x - h.generators))

  periods_same : {hs : List Factor} → AllUnaltered t t' hs → (a : ℕ) → periods t' hs a ≡ periods t hs a
  unfolding periods
  periods_same none a = refl
  periods_same (more {h} U Us) a = simp (U.stretches, periods_same Us (a / h.elements))

  lengths_same : {hs : List Factor} → AllUnaltered t t' hs → (e : ℕ) → lengths t' hs e ≡ lengths t hs e
  unfolding lengths
  lengths_same none e = refl
  lengths_same (more {h} U Us) e = simp (U.stretches, lengths_same Us (e / h.elements))

  readables_same : {hs : List Factor} → AllUnaltered t t' hs → (e : ℕ) → readables t' hs e ≡ readables t hs e
  unfolding readables
  readables_same none e = refl
  readables_same (more {h} U Us) e = rw (U.stretches, readables_same Us (e / h.elements))

  spells_same : {hs : List Factor} → AllUnaltered t t' hs → (e start offset : ℕ) (out : List ℕ) → spells t' hs e start offset out ≡ spells t hs e start offset out
  unfolding spells
  spells_same none e start offset out = refl
  spells_same (more {h} U Us) e start offset out = rw U.stretches (spells_same Us (e / h.elements) _ _ _)

  writes_same : {hs : List Factor} → AllUnaltered t t' hs → (e size : ℕ) → writes t' hs e size ≡ writes t hs e size
  unfolding writes
  writes_same Us e size = rw (lengths_same Us e, readables_same Us e)

  leaves_same : {hs : List Factor} → AllUnaltered t t' hs → (c : Counted) (e : ℕ) (out : List ℕ) → leaves c t' hs e out ≡ leaves c t hs e out
  leaves_same Us (Ok k) e out = spells_same Us e 0 0 out
  leaves_same Us (Err r) e out = refl

module _ {t t' : List ℕ} {g : Group} (A : AcceptedProduct t g) (Us : AllUnaltered t t' (handles g)) where
  may : (a la b lb : ℕ) → admits (length t') g a la b lb ≡ admits (length t) g a la b lb
  unfolding admits
  may a la b lb = rw (all_fit_lem t' (all_accepted Us), all_fit_lem t A.factors)

  counts : count_answer t' g ≡ count_answer t g
  unfolding count_answer
  counts = rw (may 0 1 0 1)

  generator_counts : generators_answer t' g ≡ generators_answer t g
  unfolding generators_answer
  generator_counts = rw (may 0 1 0 1)

  generators : (x : GeneratorId) → generator_answer t' g x ≡ generator_answer t g x
  unfolding generator_answer
  generators x = rw (may _ _ _ _, steps_same Us 0 x.0)

  steps : (e : GroupElementId) (x : GeneratorId) → step_answer t' g e x ≡ step_answer t g e x
  unfolding step_answer
  steps e x = rw (may _ _ _ _, steps_same Us e.0 x.0)

  projects : (f : ℕ) (e : GroupElementId) → project_answer t' g f e ≡ project_answer t g f e
  unfolding project_answer
  projects f e = rw (may _ _ _ _)

  injects : (f : ℕ) (x : GroupElementId) → inject_answer t' g f x ≡ inject_answer t g f x
  unfolding inject_answer
  injects f x = rw (may _ _ _ _)

  splits : (e : GroupElementId) (size : ℕ) → split_answer t' g e size ≡ split_answer t g e size
  unfolding split_answer
  splits e size = rw (may _ _ _ _)

  split_leaves_lem : (e : GroupElementId) (out : List ℕ) → split_leaves t' g e out ≡ split_leaves t g e out
  unfolding split_leaves
  split_leaves_lem e out = rw (splits e (length out))

  joined : (digits : List ℕ) → join_answer t' g digits ≡ join_answer t g digits
  unfolding join_answer
  joined digits = rw (all_fit_lem t' (all_accepted Us), all_fit_lem t A.factors)

  composed : (a b : GroupElementId) → compose_answer t' g a b ≡ compose_answer t g a b
  unfolding compose_answer
  composed a b = rw (may _ _ _ _, digits_same Compose Us a.0 b.0)

  inverted : (a : GroupElementId) → inverse_answer t' g a ≡ inverse_answer t g a
  unfolding inverse_answer
  inverted a = rw (may _ _ _ _, digits_same Inverse Us a.0 0)

  conjugated : (a b : GroupElementId) → conjugate_answer t' g a b ≡ conjugate_answer t g a b
  unfolding conjugate_answer
  conjugated a b = rw (may _ _ _ _, digits_same Conjugate Us a.0 b.0)

  powered : (a : GroupElementId) (i : ℤ) → powi_answer t' g a i ≡ powi_answer t g a i
  unfolding powi_answer
  powered a i =
      let p : composes t' (handles g) ≡ composes t (handles g) = fun_ext λ x. fun_ext λ y. digits_same Compose Us x y in
      let q : inverts t' (handles g) ≡ inverts t (handles g) = fun_ext λ x. digits_same Inverse Us x 0 in
      rw (may _ _ _ _, p, q)

  period_same : (a : GroupElementId) → period_answer t' g a ≡ period_answer t g a
  unfolding period_answer
  period_same a = rw (may _ _ _ _, periods_same Us a.0)

  length_same : (e : GroupElementId) → length_answer t' g e ≡ length_answer t g e
  unfolding length_answer
  length_same e = rw (may _ _ _ _, lengths_same Us e.0)

  write_same : (e : GroupElementId) (size : ℕ) → write_answer t' g e size ≡ write_answer t g e size
  unfolding write_answer
  write_same e size = rw (may _ _ _ _, writes_same Us e.0 size)

  written_same : (e : GroupElementId) (out : List ℕ) → written t' g e out ≡ written t g e out
  unfolding written
  written_same e out = rw (write_same e (length out)) (leaves_same Us (write_answer t g e (length out)) e.0 out)

  filled : (e : GroupElementId) (out : List ℕ) → word_part t' g e out ≡ word_part t g e out
  unfolding word_part
  filled e out = rw (write_same e (length out), written_same e out)

  flattened : (table : List ℕ) (start : ℕ) (work : List ℕ) (room : ℕ) → flat t' g table start work room ≡ flat t g table start work room
  unfolding flat flat_into flat_in
  flattened table start work room =
      let p : step_in t' (handles g) ≡ step_in t (handles g) = fun_ext λ e. fun_ext λ x. steps_same Us e x in
      rw (may 0 1 0 1, p)

  pub product_unaltered : UnalteredProduct t t' g
  product_unaltered = record {
    accepted = record { factors = all_accepted Us; within = A.within };
    counts = counts;
    generator_counts = generator_counts;
    generators = generators;
    steps = steps;
    projects = projects;
    injects = injects;
    splits = splits;
    split_leaves_lem = split_leaves_lem;
    joined = joined;
    composes = composed;
    inverts = inverted;
    conjugates = conjugated;
    powers = powered;
    periods = period_same;
    lengths = length_same;
    writes = write_same;
    leaves = written_same;
    filled = filled;
    flattens = flattened;
  }

-- A product none of whose factors overlaps what a call was lent.
all_kept : (b : Lent) {hs : List Factor} → AllAccepted b.entry hs → AllApart b hs → Wrote b → AllUnaltered b.entry b.exit hs
all_kept b products.none alone w = none
all_kept b (products.more A As) (beside a as') w = more (kept b A a w) (all_kept b As as' w)

pub product_kept : (b : Lent) {g : Group} → AcceptedProduct b.entry g → AllApart b (handles g) → Wrote b → UnalteredProduct b.entry b.exit g
product_kept b A apart w = product_unaltered A (all_kept b A.factors apart w)
