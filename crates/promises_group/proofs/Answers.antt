-- Of a product of accepted factors every answer is the direct product's, and no other group's.
use Prim.Native.Nat.{ℕ, zero, suc, ◌≤◌, ◌<◌}
use mathlib.Core.Path.{◌≡◌, refl, sym, ap, ◌∙◌, subst}
use mathlib.Core.Bool.{true}
use mathlib.Core.List.{List, [], ◌∷◌, ◌++◌}
use native.Mathlib.Omega.{arith}
use borrow.Author.Tests.{le-ltb}
use lib.ListN.{length, get_or, drop}
use lib.Seq.{take-append_seam}
use lib.IntN.{ℤ}
use Rattle.egg.specs.declared.Factor.{Factor}
use Rattle.egg.specs.Answers.{fine}
use Rattle.std.specs.Prelude.{Ok}
use Rattle.egg.proofs.Scans.{scan_fine}
use Rattle.theory.specs.Table.{generator}
use Rattle.theory.specs.Group.{integer_power, Period}
use Rattle.factor_laws.specs.Accepted.{reach}
use Rattle.theory_radix.specs.Radix.{split, inject}
use Rattle.theory_radix.proofs.RadixLaws.{join_split, split_digits, split_length, digits_below, project_is}
use Rattle.theory_products.proofs.ProductLaws.{product_group}
use Rattle.theory_products.proofs.WordLaws.{product_worded, product_only}
use Rattle.group_handles.specs.declared.Group.{Group}
use Rattle.group_handles.specs.Handles.{handles, sizes, elements_of, generators_of, all_fit, admits}
use Rattle.group_digits.specs.Digits.{inverts}
use Rattle.group.specs.Questions.{count_answer, generators_answer, generator_answer, step_answer, project_answer, inject_answer, split_answer, split_leaves, join_answer}
use Rattle.group_digits.specs.Splits.{split_tail, digit_right, digits_right, fewer, join_tail}
use Rattle.group.specs.Questions.{compose_answer, inverse_answer, conjugate_answer, powi_answer, period_answer, length_answer, write_answer, written, word_part}
use Rattle.group_handles.proofs.Lists.{sizes_length}
use Rattle.group_handles.proofs.Admitted.{admits_fine, few_factors_lem}
use Rattle.group_digits.proofs.Splits.{digit_good}
use Rattle.promises_group.specs.Products.{AcceptedProduct, direct, ProductAnswers}
use Rattle.promises_group.proofs.Parts.{all_worded, all_groups, all_fit_lem, parts_elements, parts_generators, composes_are, conjugates_are, inverts_are, steps_are}
use Rattle.promises_group.proofs.Repeats.{powers_are, periods_are}
use Rattle.promises_group.proofs.Letters.{lengths_are, writes_are, leaves_are}

take_shorter : (n : ℕ) (l : List Factor) → length (lib.ListN.take n l) ≤ n
take_shorter zero l = omega arith
take_shorter (suc n) [] = omega arith
take_shorter (suc n) (x ∷ l) = omega (arith, take_shorter n l)

-- The digits of an element are in range.
digits_fine : (hs : List Factor) (e : ℕ) → e < elements_of hs → digits_right (sizes hs) (split (sizes hs) e) ≡ fine
unfolding digits_right
digits_fine hs e he =
    (scan_fine (fewer (length (sizes hs)) (length (split (sizes hs) e))) (digit_right (sizes hs) (split (sizes hs) e))).1
    (λ j h. digit_good (sizes hs) (split (sizes hs) e) j refl refl (digits_below (split_digits (sizes hs) e he) j))

module _ {t : List ℕ} {g : Group} (A : AcceptedProduct t g) where
  short : length (handles g) ≤ 8
  short = omega (arith, take_shorter g.count g.factors, few_factors_lem g A.within)

  fits : all_fit (length t) (handles g) ≡ true
  fits = all_fit_lem t A.factors

  admitted : (a la b lb : ℕ) → a < la → b < lb → admits (length t) g a la b lb ≡ fine
  admitted a la b lb ha hb = sym (admits_fine (length t) g a la b lb fits ha hb A.within)

  inside : {e : ℕ} → e < (direct t g).elements → e < elements_of (handles g)
  inside {e} h = subst (λ (n : ℕ). e < n) (parts_elements t (handles g)) h

  single : {e : ℕ} → e < (direct t g).elements → admits (length t) g e (elements_of (handles g)) 0 1 ≡ fine
  single {e} h = admitted e (elements_of (handles g)) 0 1 (inside h) (omega arith)

  double : {a b : ℕ} → a < (direct t g).elements → b < (direct t g).elements → admits (length t) g a (elements_of (handles g)) b (elements_of (handles g)) ≡ fine
  double {a} {b} ha hb = admitted a (elements_of (handles g)) b (elements_of (handles g)) (inside ha) (inside hb)

  bare : admits (length t) g 0 1 0 1 ≡ fine
  bare = admitted 0 1 0 1 (omega arith) (omega arith)

  named : {x : ℕ} → x < (direct t g).generators → x < generators_of (handles g)
  named {x} h = subst (λ (n : ℕ). x < n) (parts_generators t (handles g)) h

  counts_are : count_answer t g ≡ Ok (direct t g).elements
  unfolding count_answer
  counts_are = rw bare (ap Ok (sym (parts_elements t (handles g))))

  generators_count : generators_answer t g ≡ Ok (direct t g).generators
  unfolding generators_answer
  generators_count = rw bare (ap Ok (sym (parts_generators t (handles g))))

  origin : 0 < (direct t g).elements
  origin = (product_group (all_groups t A.factors)).laws.identity

  generators_are : {x : ℕ} → x < (direct t g).generators → generator_answer t g (record { 0 = x }) ≡ reach (generator (direct t g).step x)
  unfolding generator_answer
  generators_are {x} hx = rw (admitted x (generators_of (handles g)) 0 1 (named hx) (omega arith)) (steps_are t A.factors 0 x origin hx)

  step_are : {e x : ℕ} → e < (direct t g).elements → x < (direct t g).generators
      → step_answer t g (record { 0 = e }) (record { 0 = x }) ≡ reach ((direct t g).op e (generator (direct t g).step x))
  unfolding step_answer
  step_are {e} {x} he hx =
      rw (admitted e (elements_of (handles g)) x (generators_of (handles g)) (inside he) (named hx))
      (steps_are t A.factors e x he hx ∙ ap reach ((product_worded (all_worded t A.factors)).stepped.steps.step_is he hx))

  compose_are : {a b : ℕ} → a < (direct t g).elements → b < (direct t g).elements → compose_answer t g (record { 0 = a }) (record { 0 = b }) ≡ reach ((direct t g).op a b)
  unfolding compose_answer
  compose_are {a} {b} ha hb = rw (double ha hb) (composes_are t A.factors a b ha hb)

  inverse_are : {a : ℕ} → a < (direct t g).elements → inverse_answer t g (record { 0 = a }) ≡ reach ((direct t g).inv a)
  unfolding inverse_answer
  inverse_are {a} ha = rw (single ha) (inverts_are t A.factors a ha)

  conjugate_are : {a b : ℕ} → a < (direct t g).elements → b < (direct t g).elements
      → conjugate_answer t g (record { 0 = a }) (record { 0 = b }) ≡ reach (Rattle.theory.specs.Group.conjugate (direct t g).op (direct t g).inv a b)
  unfolding conjugate_answer
  conjugate_are {a} {b} ha hb = rw (double ha hb) (conjugates_are t A.factors a b ha hb)

  powi_are : {a : ℕ} → a < (direct t g).elements → (z : ℤ) → powi_answer t g (record { 0 = a }) z ≡ reach (integer_power (direct t g).op (direct t g).inv a z)
  unfolding powi_answer
  powi_are {a} ha z =
      rw (single ha)
      (powers_are (product_group (all_groups t A.factors)).laws (record { is = λ a b ha hb. composes_are t A.factors a b ha hb }) 1073741824 (inverts t (handles g)) (inverts_are t A.factors a ha) ha z)

  period_are : {a : ℕ} → a < (direct t g).elements → (k : ℕ) × (period_answer t g (record { 0 = a }) ≡ Ok k) × Period (direct t g).op a k
  unfolding period_answer
  period_are {a} ha = let (k, q, K) = periods_are t A.factors a ha in (k, rw (single ha) q, K)

  split_counts : {e : ℕ} (size : ℕ) → e < (direct t g).elements → length (handles g) ≤ size → split_answer t g (record { 0 = e }) size ≡ Ok (length (handles g))
  unfolding split_answer split_tail
  split_counts {e} size he room = rw (single he, le-ltb size (length (handles g)) room)

  splits_are : {e : ℕ} (out : List ℕ) → e < (direct t g).elements → length (handles g) ≤ length out
      → split_leaves t g (record { 0 = e }) out ≡ split (sizes (handles g)) e ++ drop (length (handles g)) out
  unfolding split_leaves split_answer split_tail
  splits_are {e} out he room = rw (single he, le-ltb (length out) (length (handles g)) room)

  joins_are : {e : ℕ} → e < (direct t g).elements → join_answer t g (split (sizes (handles g)) e) ≡ reach e
  unfolding join_answer join_tail
  joins_are {e} he =
      let l : length (split (sizes (handles g)) e) ≡ length (handles g) = split_length (sizes (handles g)) e ∙ sizes_length (handles g) in
      let k : length (handles g) ≤ length (split (sizes (handles g)) e) = omega (arith, l) in
      rw (fits, digits_fine (handles g) e (inside he), A.within, le-ltb (length (split (sizes (handles g)) e)) (length (handles g)) k)
      (ap reach (join_split (sizes (handles g)) e (inside he)))

  projects_are : {f e : ℕ} → f < length (handles g) → e < (direct t g).elements
      → project_answer t g f (record { 0 = e }) ≡ reach (get_or (split (sizes (handles g)) e) f 0)
  unfolding project_answer
  projects_are {f} {e} hf he =
      rw (admitted f (length (handles g)) e (elements_of (handles g)) hf (inside he)) (ap reach (project_is (sizes (handles g)) f e))

  injects_are : {f x : ℕ} → f < length (handles g) → x < get_or (sizes (handles g)) f 1
      → inject_answer t g f (record { 0 = x }) ≡ reach (inject (sizes (handles g)) f x)
  unfolding inject_answer
  injects_are {f} {x} hf hx = rw (admitted f (length (handles g)) x (get_or (sizes (handles g)) f 1) hf hx)

  length_are : {e : ℕ} → e < (direct t g).elements → length_answer t g (record { 0 = e }) ≡ Ok (length ((direct t g).word e))
  unfolding length_answer
  length_are {e} he = rw (single he) (lengths_are t A.factors e he)

  write_are : {e : ℕ} (size : ℕ) → e < (direct t g).elements → length ((direct t g).word e) ≤ size → write_answer t g (record { 0 = e }) size ≡ Ok (length ((direct t g).word e))
  unfolding write_answer
  write_are {e} size he room = rw (single he) (writes_are t A.factors short he size room)

  written_are : {e : ℕ} (out : List ℕ) → e < (direct t g).elements → length ((direct t g).word e) ≤ length out
      → written t g (record { 0 = e }) out ≡ (direct t g).word e ++ drop (length ((direct t g).word e)) out
  unfolding written
  written_are {e} out he room = rw (write_are (length out) he room) (leaves_are t A.factors short he out room)

  filled_are : {e : ℕ} (out : List ℕ) → e < (direct t g).elements → length ((direct t g).word e) ≤ length out → word_part t g (record { 0 = e }) out ≡ (direct t g).word e
  unfolding word_part
  filled_are {e} out he room =
      rw (write_are (length out) he room, written_are out he room) (take-append_seam ((direct t g).word e) (drop (length ((direct t g).word e)) out))

  pub product_answers : ProductAnswers t g (direct t g)
  product_answers = record {
    group = (product_group (all_groups t A.factors)).laws;
    right_steps = (product_worded (all_worded t A.factors)).stepped.steps;
    counts = counts_are;
    generator_counts = generators_count;
    generators = generators_are;
    steps = step_are;
    composes = compose_are;
    inverts = inverse_are;
    conjugates = conjugate_are;
    powers = powi_are;
    periods = period_are;
    split_counts = λ size he. split_counts size he;
    splits = splits_are;
    joins = joins_are;
    projects = projects_are;
    injects = injects_are;
    lengths = length_are;
    writes = λ size he. write_are size he;
    leaves = λ out he. written_are out he;
    filled = λ out he. filled_are out he;
    spells = (product_worded (all_worded t A.factors)).spelled.spells;
    only_product = λ G R ha hb. product_only (all_worded t A.factors) G R ha hb;
  }
