-- Every question about a product is answered or refused by one of its numbers, on every input, and a refused one writes nothing. Each definition is gone through
-- branch by branch, those over the factors by induction on the list of handles.
use Prim.Native.Nat.{ℕ, zero, suc, ◌+◌, ◌-◌, ◌/◌, ◌%◌}
use mathlib.Core.Path.{◌≡◌, refl}
use mathlib.Core.Bool.{Bool, true, false, ◌&&◌}
use mathlib.Core.List.{List, [], ◌∷◌, ◌++◌}
use lib.Dec.{eqb, ltb, leb}
use lib.ListN.{length, get_or}
use lib.IntN.{ℤ, pos, negsuc}
use Rattle.egg.specs.declared.Refusal.{Refusal}
use Rattle.egg.specs.declared.Factor.{Factor}
use Rattle.egg.specs.declared.GroupElementId.{GroupElementId}
use Rattle.egg.specs.declared.GeneratorId.{GeneratorId}
use Rattle.egg.specs.Answers.{Counted, Reached, answer_of}
use Rattle.std.specs.Prelude.{Ok, Err}
use Rattle.egg.specs.Table.{length_of}
use Rattle.egg.specs.Factor.{stretch}
use Rattle.factor_questions.specs.Walks.{compose_in}
use Rattle.factor_words.specs.Words.{length_in}
use Rattle.factor_laws.specs.Refuses.{VerdictIn, ReachedIn, CountedIn}
use Rattle.factor_laws.proofs.Refuses.{reached_element, reached_refused, reached_pick, reached_on, reached_if, counted_count, counted_refused, counted_pick, counted_if}
use Rattle.factor_laws.proofs.Refuses.{verdict_fine, verdict_refused, verdict_pick, verdict_then, verdict_scan, reached_widen, step_in_lem, compose_in_lem, inverse_in_lem, conjugate_in_lem}
use Rattle.group_handles.specs.declared.Group.{Group}
use Rattle.group_handles.specs.Handles.{handles, sizes, elements_of, generators_of, all_fit, limited, admits, joins}
use Rattle.group_digits.specs.Digits.{PartQuestion, Compose, Inverse, Conjugate, digit_of, digitwise, step_in, composes, inverts}
use Rattle.group_powers.specs.Powers.{odd_too, by_halving, negated, powers}
use Rattle.group_periods.specs.Periods.{period_from, periods}
use Rattle.group_handles.specs.Counts.{on_counted, on_element}
use Rattle.group_words.specs.Words.{lengths, readables, writes_by, writes, leaves}
use Rattle.group.specs.Questions.{count_answer, generators_answer, generator_answer, step_answer, walk_answer, project_answer, inject_answer, split_answer, split_leaves, join_answer}
use Rattle.factor_walk.specs.Walked.{letter_right, letters_right}
use Rattle.group_walk.specs.Walked.{follows, admits_walk}
use Rattle.group_digits.specs.Splits.{split_tail, digits_left, digit_right, digits_right, join_tail}
use Rattle.group.specs.Questions.{compose_answer, inverse_answer, conjugate_answer, powi_answer, period_answer, length_answer, write_answer, written, word_part}
use Rattle.promises_group.specs.Refuses.{ProductRefuses}

abbrev asked : List ℕ
asked = 14 ∷ 15 ∷ 17 ∷ []

admits_in : (len : ℕ) (g : Group) (a la b lb : ℕ) → VerdictIn (14 ∷ 15 ∷ 17 ∷ []) (admits len g a la b lb)
unfolding admits
admits_in len g a la b lb =
    verdict_pick (all_fit len (handles g)) _ _
    (verdict_pick (leb la a) _ _ (verdict_refused _ refl)
    (verdict_pick (leb lb b) _ _ (verdict_refused _ refl) (verdict_pick (limited g) _ _ verdict_fine (verdict_refused _ refl))))
    (verdict_refused _ refl)

admits_lent : (len : ℕ) (g : Group) (a la b lb : ℕ) → VerdictIn (4 ∷ 14 ∷ 15 ∷ 17 ∷ []) (admits len g a la b lb)
unfolding admits
admits_lent len g a la b lb =
    verdict_pick (all_fit len (handles g)) _ _
    (verdict_pick (leb la a) _ _ (verdict_refused _ refl)
    (verdict_pick (leb lb b) _ _ (verdict_refused _ refl) (verdict_pick (limited g) _ _ verdict_fine (verdict_refused _ refl))))
    (verdict_refused _ refl)

-- Without arguments there is no 14.
admits_unasked : (len : ℕ) (g : Group) → VerdictIn (15 ∷ 17 ∷ []) (admits len g 0 1 0 1)
unfolding admits
admits_unasked len g =
    verdict_pick (all_fit len (handles g)) _ _ (verdict_pick (limited g) _ _ verdict_fine (verdict_refused _ refl)) (verdict_refused _ refl)

-- Factor by factor.
digit_in : (k : PartQuestion) (t : List ℕ) (h : Factor) (a b : ℕ) → ReachedIn (14 ∷ 15 ∷ 17 ∷ []) (digit_of k t h a b)
digit_in Compose t h a b = reached_widen asked refl (compose_in_lem (stretch t h) h.generators h.elements a b)
digit_in Inverse t h a b = reached_widen asked refl (inverse_in_lem (stretch t h) h.generators h.elements a)
digit_in Conjugate t h a b = reached_widen asked refl (conjugate_in_lem (stretch t h) h.generators h.elements a b)

digits_in : (k : PartQuestion) (t : List ℕ) (hs : List Factor) (a b : ℕ) → ReachedIn (14 ∷ 15 ∷ 17 ∷ []) (digitwise (digit_of k t) hs a b)
unfolding digitwise
digits_in k t [] a b = reached_element _
digits_in k t (h ∷ hs) a b =
    reached_on (digit_of k t h (a % h.elements) (b % h.elements)) _ (digit_in k t h _ _)
    (λ x. reached_on (digitwise (digit_of k t) hs (a / h.elements) (b / h.elements)) _ (digits_in k t hs _ _) (λ y. reached_element _))

pub stepped_in : (t : List ℕ) (hs : List Factor) (e x : ℕ) → ReachedIn (14 ∷ 15 ∷ 17 ∷ []) (step_in t hs e x)
unfolding step_in
stepped_in t [] e x = reached_refused _ refl
stepped_in t (h ∷ hs) e x =
    reached_pick (ltb x h.generators) _ _
    (reached_on _ _ (reached_widen asked refl (step_in_lem (stretch t h) h.generators h.elements (e % h.elements) x)) (λ y. reached_element _))
    (reached_on (step_in t hs (e / h.elements) (x - h.generators)) _ (stepped_in t hs _ _) (λ y. reached_element _))

-- A word, step by step, after the tests of its letters.
follows_in : (t : List ℕ) (hs : List Factor) (e : ℕ) (w : List ℕ) → ReachedIn (14 ∷ 15 ∷ 17 ∷ []) (follows t hs e w)
unfolding follows
follows_in t hs e [] = reached_element _
follows_in t hs e (x ∷ w) = reached_on (step_in t hs e x) (λ y. follows t hs y w) (stepped_in t hs e x) (λ y. follows_in t hs y w)

walk_admits_in : (len : ℕ) (g : Group) (e : ℕ) (w : List ℕ) → VerdictIn (14 ∷ 15 ∷ 17 ∷ []) (admits_walk len g e w)
unfolding admits_walk letters_right
walk_admits_in len g e w =
    verdict_pick (all_fit len (handles g)) _ _
    (verdict_pick (leb (elements_of (handles g)) e) _ _ (verdict_refused _ refl)
    (verdict_then _ _
    (verdict_scan (length w) (letter_right (generators_of (handles g)) w) 0
    (λ i. verdict_pick (leb (generators_of (handles g)) (get_or w i 0)) _ _ (verdict_refused _ refl) verdict_fine))
    (verdict_pick (limited g) _ _ verdict_fine (verdict_refused _ refl))))
    (verdict_refused _ refl)

-- Powers, by whichever numbers composing and inverting may be refused.
module _ {l : List ℕ} (op : ℕ → ℕ → Reached) (is : (x y : ℕ) → ReachedIn l (op x y)) where
  odd_in : (a x r : ℕ) → ReachedIn l (odd_too op a x r)
  odd_in a x zero = reached_element _
  odd_in a x (suc r) = is x a

  halves_in : (fuel a k : ℕ) → ReachedIn l (by_halving fuel op a k)
  unfolding by_halving
  halves_in zero a k = reached_element _
  halves_in (suc fuel) a zero = reached_element _
  halves_in (suc fuel) a (suc k) =
      reached_on (by_halving fuel op a (suc k / 2)) _ (halves_in fuel a (suc k / 2)) (λ x. reached_on (op x x) _ (is x x) (λ y. odd_in a y (suc k % 2)))

  negated_in : (b : Bool) (half i k : ℕ) → ReachedIn l (negated b half op i k)
  negated_in true half i k = reached_on (by_halving half op i half) _ (halves_in half i half) (λ x. is x x)
  negated_in false half i k = halves_in k i k

  pub powers_in : (half : ℕ) (inv : ℕ → Reached) → ((x : ℕ) → ReachedIn l (inv x)) → (a : ℕ) (z : ℤ) → ReachedIn l (powers half op inv a z)
  unfolding powers
  powers_in half inv q a (pos k) = halves_in k a k
  powers_in half inv q a (negsuc k) = reached_on (inv a) _ (q a) (λ i. negated_in (eqb (suc k) (half + half)) half i (suc k))

-- Periods and lengths.
module _ {l : List ℕ} where
  counted_on : (x : Counted) {f : ℕ → Counted} → CountedIn l x → ((k : ℕ) → CountedIn l (f k)) → CountedIn l (on_counted x f)
  counted_on (Ok k) p q = q k
  counted_on (Err r) p q = p

  element_on : (x : Reached) {f : ℕ → Counted} → ReachedIn l x → ((k : ℕ) → CountedIn l (f k)) → CountedIn l (on_element x f)
  element_on (Ok e) p q = q e.0
  element_on (Err r) p q = counted_refused r (p.of r refl)

period_in : (left : ℕ) (op : ℕ → ℕ → Reached) → ((x y : ℕ) → ReachedIn (14 ∷ 15 ∷ 17 ∷ []) (op x y)) → (a x k : ℕ) → CountedIn (14 ∷ 15 ∷ 17 ∷ []) (period_from left op a x k)
unfolding period_from
period_in zero op is a x k = counted_refused _ refl
period_in (suc left) op is a x k =
    counted_pick (eqb x 0) _ _ (counted_count k) (element_on (op x a) (is x a) (λ y. period_in left op is a y (k + 1)))

periods_in : (t : List ℕ) (hs : List Factor) (a : ℕ) → CountedIn (14 ∷ 15 ∷ 17 ∷ []) (periods t hs a)
unfolding periods
periods_in t [] a = counted_count 1
periods_in t (h ∷ hs) a =
    counted_on _ (period_in h.elements (compose_in (stretch t h) h.generators h.elements) (λ x y. digit_in Compose t h x y) (a % h.elements) (a % h.elements) 1)
    (λ p. counted_on (periods t hs (a / h.elements)) (periods_in t hs (a / h.elements)) (λ q. counted_count _))

length_in_lem : {l : List ℕ} → ((s : List ℕ) (n e : ℕ) → CountedIn l (length_in s n e)) → (t : List ℕ) (hs : List Factor) (e : ℕ) → CountedIn l (lengths t hs e)
unfolding lengths
length_in_lem one t [] e = counted_count 0
length_in_lem one t (h ∷ hs) e =
    counted_on (length_in (stretch t h) h.generators (e % h.elements)) (one (stretch t h) h.generators (e % h.elements))
    (λ k. counted_on (lengths t hs (e / h.elements)) (length_in_lem one t hs (e / h.elements)) (λ m. counted_count _))

one_asked : (s : List ℕ) (n e : ℕ) → CountedIn (14 ∷ 15 ∷ 17 ∷ []) (length_in s n e)
unfolding length_in
one_asked s n e = counted_pick (ltb 4096 (length_of s n e)) _ _ (counted_refused _ refl) (counted_count _)

one_lent : (s : List ℕ) (n e : ℕ) → CountedIn (4 ∷ 14 ∷ 15 ∷ 17 ∷ []) (length_in s n e)
unfolding length_in
one_lent s n e = counted_pick (ltb 4096 (length_of s n e)) _ _ (counted_refused _ refl) (counted_count _)

writes_by_lem : (c : Counted) → CountedIn (4 ∷ 14 ∷ 15 ∷ 17 ∷ []) c → (b : Bool) (size : ℕ) → CountedIn (4 ∷ 14 ∷ 15 ∷ 17 ∷ []) (writes_by c b size)
writes_by_lem (Ok k) p b size = counted_pick (ltb size k) _ _ (counted_refused _ refl) (counted_pick b _ _ (counted_count k) (counted_refused _ refl))
writes_by_lem (Err r) p b size = p

-- A refusal leaves what was there.
digits_kept : (c : Counted) (Ns : List ℕ) (e : ℕ) (out : List ℕ) (r : Refusal) → c ≡ Err r → digits_left c Ns e out ≡ out
digits_kept c Ns e out r q = rw q

letters_kept : (c : Counted) (t : List ℕ) (hs : List Factor) (e : ℕ) (out : List ℕ) (r : Refusal) → c ≡ Err r → leaves c t hs e out ≡ out
letters_kept c t hs e out r q = rw q

module _ (t : List ℕ) (g : Group) where
  makes : (b : Group) → VerdictIn (15 ∷ 17 ∷ []) (answer_of (joins (length t) g b))
  unfolding joins
  makes b = by (all_fit (length t) (handles g ++ handles b)) (leb g.count 8 && (leb b.count 8 && (leb (length (handles g ++ handles b)) 8 && leb (elements_of (handles g ++ handles b)) 4294967295))) refl refl where
    by : (x y : Bool) → all_fit (length t) (handles g ++ handles b) ≡ x
        → leb g.count 8 && (leb b.count 8 && (leb (length (handles g ++ handles b)) 8 && leb (elements_of (handles g ++ handles b)) 4294967295)) ≡ y
        → VerdictIn (15 ∷ 17 ∷ []) (answer_of (joins (length t) g b))
    by false y p q = rw p (verdict_refused _ refl)
    by true false p q = rw (p, q) (verdict_refused _ refl)
    by true true p q = rw (p, q) verdict_fine

  counts_in : CountedIn (15 ∷ 17 ∷ []) (count_answer t g)
  unfolding count_answer
  counts_in = counted_if _ _ (admits_unasked (length t) g) (counted_count _)

  generator_counts_in : CountedIn (15 ∷ 17 ∷ []) (generators_answer t g)
  unfolding generators_answer
  generator_counts_in = counted_if _ _ (admits_unasked (length t) g) (counted_count _)

  generators_in : (x : GeneratorId) → ReachedIn (14 ∷ 15 ∷ 17 ∷ []) (generator_answer t g x)
  unfolding generator_answer
  generators_in x = reached_if _ _ (admits_in (length t) g _ _ _ _) (stepped_in t (handles g) 0 x.0)

  steps_in : (e : GroupElementId) (x : GeneratorId) → ReachedIn (14 ∷ 15 ∷ 17 ∷ []) (step_answer t g e x)
  unfolding step_answer
  steps_in e x = reached_if _ _ (admits_in (length t) g _ _ _ _) (stepped_in t (handles g) e.0 x.0)

  walks_in : (e : GroupElementId) (w : List ℕ) → ReachedIn (14 ∷ 15 ∷ 17 ∷ []) (walk_answer t g e w)
  unfolding walk_answer
  walks_in e w = reached_if _ _ (walk_admits_in (length t) g e.0 w) (follows_in t (handles g) e.0 w)

  projects_in : (f : ℕ) (e : GroupElementId) → ReachedIn (14 ∷ 15 ∷ 17 ∷ []) (project_answer t g f e)
  unfolding project_answer
  projects_in f e = reached_if _ _ (admits_in (length t) g _ _ _ _) (reached_element _)

  injects_in : (f : ℕ) (x : GroupElementId) → ReachedIn (14 ∷ 15 ∷ 17 ∷ []) (inject_answer t g f x)
  unfolding inject_answer
  injects_in f x = reached_if _ _ (admits_in (length t) g _ _ _ _) (reached_element _)

  splits_in : (e : GroupElementId) (size : ℕ) → CountedIn (4 ∷ 14 ∷ 15 ∷ 17 ∷ []) (split_answer t g e size)
  unfolding split_answer split_tail
  splits_in e size =
      counted_if _ _ (admits_lent (length t) g _ _ _ _) (counted_pick (ltb size (length (handles g))) _ _ (counted_refused _ refl) (counted_count _))

  joined_in : (digits : List ℕ) → ReachedIn (4 ∷ 14 ∷ 15 ∷ 17 ∷ []) (join_answer t g digits)
  unfolding join_answer join_tail digits_right
  joined_in digits =
      reached_pick (all_fit (length t) (handles g)) _ _
      (reached_if _ _
      (verdict_scan _ (digit_right (sizes (handles g)) digits) 0
      (λ f. verdict_pick (ltb (get_or digits f 0) (get_or (sizes (handles g)) f 1)) _ _ verdict_fine (verdict_refused _ refl)))
      (reached_pick (limited g) _ _
      (reached_pick (ltb (length digits) (length (handles g))) _ _ (reached_refused _ refl) (reached_element _))
      (reached_refused _ refl)))
      (reached_refused _ refl)

  composes_in : (a b : GroupElementId) → ReachedIn (14 ∷ 15 ∷ 17 ∷ []) (compose_answer t g a b)
  unfolding compose_answer
  composes_in a b = reached_if _ _ (admits_in (length t) g _ _ _ _) (digits_in Compose t (handles g) a.0 b.0)

  inverts_in : (a : GroupElementId) → ReachedIn (14 ∷ 15 ∷ 17 ∷ []) (inverse_answer t g a)
  unfolding inverse_answer
  inverts_in a = reached_if _ _ (admits_in (length t) g _ _ _ _) (digits_in Inverse t (handles g) a.0 0)

  conjugates_in : (a b : GroupElementId) → ReachedIn (14 ∷ 15 ∷ 17 ∷ []) (conjugate_answer t g a b)
  unfolding conjugate_answer
  conjugates_in a b = reached_if _ _ (admits_in (length t) g _ _ _ _) (digits_in Conjugate t (handles g) a.0 b.0)

  powered_in : (a : GroupElementId) (i : ℤ) → ReachedIn (14 ∷ 15 ∷ 17 ∷ []) (powi_answer t g a i)
  unfolding powi_answer
  powered_in a i =
      reached_if _ _ (admits_in (length t) g _ _ _ _)
      (powers_in (composes t (handles g)) (λ x y. digits_in Compose t (handles g) x y) 1073741824 (inverts t (handles g)) (λ x. digits_in Inverse t (handles g) x 0) a.0 i)

  period_asked : (a : GroupElementId) → CountedIn (14 ∷ 15 ∷ 17 ∷ []) (period_answer t g a)
  unfolding period_answer
  period_asked a = counted_if _ _ (admits_in (length t) g _ _ _ _) (periods_in t (handles g) a.0)

  length_asked : (e : GroupElementId) → CountedIn (14 ∷ 15 ∷ 17 ∷ []) (length_answer t g e)
  unfolding length_answer
  length_asked e = counted_if _ _ (admits_in (length t) g _ _ _ _) (length_in_lem one_asked t (handles g) e.0)

  writes_asked : (e : GroupElementId) (size : ℕ) → CountedIn (4 ∷ 14 ∷ 15 ∷ 17 ∷ []) (write_answer t g e size)
  unfolding write_answer writes
  writes_asked e size =
      counted_if _ _ (admits_lent (length t) g _ _ _ _) (writes_by_lem (lengths t (handles g) e.0) (length_in_lem one_lent t (handles g) e.0) (readables t (handles g) e.0) size)

  split_untouched : (e : GroupElementId) (out : List ℕ) (r : Refusal) → split_answer t g e (length out) ≡ Err r → split_leaves t g e out ≡ out
  unfolding split_leaves
  split_untouched e out r q = digits_kept (split_answer t g e (length out)) (sizes (handles g)) e.0 out r q

  write_untouched : (e : GroupElementId) (out : List ℕ) (r : Refusal) → write_answer t g e (length out) ≡ Err r → written t g e out ≡ out
  unfolding written
  write_untouched e out r q = letters_kept (write_answer t g e (length out)) t (handles g) e.0 out r q

  nothing_handed : (e : GroupElementId) (out : List ℕ) (r : Refusal) → write_answer t g e (length out) ≡ Err r → word_part t g e out ≡ []
  unfolding word_part
  nothing_handed e out r q = rw q

  pub product_refuses : ProductRefuses t g
  product_refuses = record {
    makes = makes;
    counts = counts_in;
    generator_counts = generator_counts_in;
    generators = generators_in;
    steps = steps_in;
    walks = walks_in;
    projects = projects_in;
    injects = injects_in;
    splits = splits_in;
    joined = joined_in;
    composes = composes_in;
    inverts = inverts_in;
    conjugates = conjugates_in;
    powers = powered_in;
    periods = period_asked;
    lengths = length_asked;
    writes = writes_asked;
    split_untouched = split_untouched;
    write_untouched = write_untouched;
    nothing_handed = nothing_handed;
  }
