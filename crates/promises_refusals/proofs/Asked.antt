-- Each question about a factor is answered from its stretch exactly when the handle fits and the arguments are in range; and 17 and 14 come before. The tests
-- are one definition over a list of arguments, and what is answered from the stretch is never 14.
use Prim.Native.Nat.{ℕ, ◌<◌}
use mathlib.Core.Path.{◌≡◌, refl, sym, ap, ◌∙◌, subst}
use mathlib.Core.Logic.{◌⊎◌, inl, inr, ⊎_elim}
use mathlib.Core.Bool.{Bool, true, false}
use mathlib.Core.List.{List, [], ◌∷◌}
use native.Mathlib.Omega.{arith}
use borrow.Author.Tests.{lt-leb, leb-true, leb-false}
use lib.Dec.{ltb, leb}
use lib.ListN.{length, get_or}
use Rattle.egg.specs.declared.Refusal.{Refusal}
use Rattle.egg.specs.declared.Factor.{Factor}
use Rattle.egg.specs.declared.GroupElementId.{GroupElementId}
use Rattle.egg.specs.declared.GeneratorId.{GeneratorId}
use Rattle.egg.specs.Answers.{Counted, Reached, Verdict, fine, numbered, if_reach, if_count}
use Rattle.std.specs.Prelude.{Ok, Err}
use Rattle.egg.specs.Table.{pick, length_of}
use Rattle.egg.specs.Scan.{refused_of, and_then, scan}
use Rattle.egg.specs.Pairs.{orders_right}
use Rattle.egg.specs.Factor.{Paper, refusal_paper, verdict_paper, reached_paper, counted_paper, fits_in, stretch, refused_reach, read_step, step_answer}
use Rattle.egg.proofs.Rooms.{some, false_true}
use Rattle.egg.proofs.Scans.{scan_fine}
use Rattle.build_checks_laws.specs.Numbers.{member, RefusalIn}
use Rattle.factor_questions.specs.Walks.{inverse_in, compose_in, conjugate_in, generator_in}
use Rattle.factor_words.specs.Words.{length_in, readable, write_in}
use Rattle.factor_relations.specs.Relations.{relations}
use Rattle.factor.specs.Questions.{admits, compose_answer, inverse_answer, conjugate_answer, count_answer, generator_answer, length_answer, write_answer}
use Rattle.factor.specs.Relations.{check_answer}
use Rattle.factor_laws.specs.Papers.{value_paper}
use Rattle.factor_laws.specs.Refuses.{VerdictIn, ReachedIn, CountedIn}
use Rattle.factor_laws.proofs.Refuses.{counted_count, counted_refused, counted_pick, step_in_lem, compose_in_lem, inverse_in_lem, conjugate_in_lem, questions_refuse}
use Rattle.promises_refusals.specs.Firsts.{FirstOf}
use Rattle.promises_refusals.specs.Asked.{Argument, below, Outside, AllInside, Asked, no_handle, out_of_range, in_range, Admitted, QuestionsAsked}
use Rattle.promises_refusals.proofs.Firsts.{Decides, decides_fine, first_found, first_refused_lem, first_fine}

-- The tests: 17, then 14 for the first argument out of range.
abbrev argument_at : List Argument → ℕ → Verdict
argument_at l i = pick (leb (get_or l i (below 0 1)).limit (get_or l i (below 0 1)).value) (refused_of 14 i 0 0) fine

abbrev tests : Bool → List Argument → Verdict
tests fits l = pick fits (scan (length l) (argument_at l) 0) (refused_of 17 0 0 0)

-- What they refuse is the answer, and else what comes after them.
abbrev afterwards : Verdict → Paper → Paper
afterwards (Ok _) p = p
afterwards (Err r) p = refusal_paper r

argument_decided : (l : List Argument) (i : ℕ) → i < length l → Decides (Outside l i) (numbered 14 i 0 0) (argument_at l i)
argument_decided l i h = by (leb (get_or l i (below 0 1)).limit (get_or l i (below 0 1)).value) refl where
  by : (b : Bool) → leb (get_or l i (below 0 1)).limit (get_or l i (below 0 1)).value ≡ b
      → Decides (Outside l i) (numbered 14 i 0 0) (pick b (refused_of 14 i 0 0) fine)
  by true q = inl (leb-true _ _ q, refl)
  by false q = let m = leb-false (get_or l i (below 0 1)).limit (get_or l i (below 0 1)).value q in inr (λ o. omega arith, refl)

module _ (l : List Argument) (inside : Paper) where
  -- Some answer there is, and it is what the tests say.
  some_asked : (fits : Bool) → Asked fits l inside (afterwards (tests fits l) inside)
  some_asked false = no_handle refl
  some_asked true = by (scan (length l) (argument_at l) 0) refl where
    by : (v : Verdict) → scan (length l) (argument_at l) 0 ≡ v → Asked true l inside (afterwards v inside)
    by (Ok _) q = in_range refl (λ i h. decides_fine (argument_decided l i h) ((scan_fine (length l) (argument_at l)).0 q i h))
    by (Err r) q = let p = first_found (argument_decided l) q in rw p.2 (out_of_range refl p.1)

  given_asked : (fits : Bool) {p : Paper} → Asked fits l inside p → afterwards (tests fits l) inside ≡ p
  given_asked fits (no_handle q) = rw q
  given_asked fits (out_of_range q F) = rw (q, first_refused_lem (argument_decided l) F)
  given_asked fits (in_range q all) = rw (q, first_fine (argument_decided l) all)

  -- 14 is the tests' only.
  by_argument : (fits : Bool) → (fits ≡ true → AllInside l → inside.number ≡ 14 → ⊥) → {p : Paper} → Asked fits l inside p → p.number ≡ 14
      → (fits ≡ true) × (FirstOf (length l) (Outside l) p.a × ((p.b ≡ 0) × (p.c ≡ 0)))
  by_argument fits never (no_handle q) k = absurd (omega arith)
  by_argument fits never (out_of_range q F) k = (q, (F, (refl, refl)))
  by_argument fits never (in_range q all) k = absurd (never q all k)

  -- 17 is the handle's, or comes from the stretch.
  by_handle : (fits : Bool) {p : Paper} → Asked fits l inside p → p.number ≡ 17
      → ((fits ≡ false) × ((p.a ≡ 0) × ((p.b ≡ 0) × (p.c ≡ 0)))) ⊎ ((fits ≡ true) × (AllInside l × (inside ≡ p)))
  by_handle fits (no_handle q) k = inl (q, (refl, (refl, refl)))
  by_handle fits (out_of_range q F) k = absurd (omega arith)
  by_handle fits (in_range q all) k = inr (q, (all, refl))

  admitted : (fits : Bool) → (fits ≡ true → AllInside l → inside.number ≡ 14 → ⊥) → Admitted fits l (afterwards (tests fits l) inside) inside
  admitted fits never = record {
    answers = λ p. (λ q. subst (Asked fits l inside) q (some_asked fits), given_asked fits);
    handle = λ a b c. (
      λ q. by_handle fits (subst (Asked fits l inside) q (some_asked fits)) refl,
      ⊎_elim (λ h. rw (h.1.0, h.1.1.0, h.1.1.1) (given_asked fits (no_handle h.0))) (λ h. given_asked fits (in_range h.0 h.1.0) ∙ h.1.1),
    );
    argument = λ a b c. (
      λ q. by_argument fits never (subst (Asked fits l inside) q (some_asked fits)) refl,
      λ h. rw (h.1.1.0, h.1.1.1) (given_asked fits (out_of_range h.0 h.1.0)),
    );
  }

  admitted_as : {fits : Bool} {answer : Paper} → (fits ≡ true → AllInside l → inside.number ≡ 14 → ⊥) → answer ≡ afterwards (tests fits l) inside
      → Admitted fits l answer inside
  admitted_as {fits} never q = subst (λ (p : Paper). Admitted fits l p inside) (sym q) (admitted fits never)

-- Answers on paper, after the tests.
reached_after : (v : Verdict) (x : Reached) → reached_paper (if_reach v x) ≡ afterwards v (reached_paper x)
reached_after (Ok _) x = refl
reached_after (Err r) x = refl

counted_after : (v : Verdict) (x : Counted) → counted_paper (if_count v x) ≡ afterwards v (counted_paper x)
counted_after (Ok _) x = refl
counted_after (Err r) x = refl

then_after : (u v : Verdict) → verdict_paper (and_then u v) ≡ afterwards u (verdict_paper v)
then_after (Ok _) v = refl
then_after (Err r) v = refl

-- A refusal that may only have these numbers is not 14.
not_14 : (l : List ℕ) (r : Refusal) → member 14 l ≡ false → RefusalIn l r → (refusal_paper r).number ≡ 14 → ⊥
not_14 l r none i k = false_true (sym none ∙ subst (λ (x : ℕ). member x l ≡ true) k i)

reached_not_14 : {l : List ℕ} → member 14 l ≡ false → (x : Reached) → ReachedIn l x → (reached_paper x).number ≡ 14 → ⊥
reached_not_14 none (Ok e) p k = omega arith
reached_not_14 {l} none (Err r) p k = not_14 l r none (p.of r refl) k

counted_not_14 : {l : List ℕ} → member 14 l ≡ false → (x : Counted) → CountedIn l x → (counted_paper x).number ≡ 14 → ⊥
counted_not_14 none (Ok e) p k = omega arith
counted_not_14 {l} none (Err r) p k = not_14 l r none (p.of r refl) k

verdict_not_14 : {l : List ℕ} → member 14 l ≡ false → (x : Verdict) → VerdictIn l x → (verdict_paper x).number ≡ 14 → ⊥
verdict_not_14 none (Ok _) p k = omega arith
verdict_not_14 {l} none (Err r) p k = not_14 l r none (p.of r refl) k

-- The tests of the calls are these.
module _ (len : ℕ) (f : Factor) where
  abbrev N : ℕ
  N = f.elements

  two_tests : (a b : ℕ) → admits len f a b ≡ tests (fits_in len f) (below a f.elements ∷ below b f.elements ∷ [])
  unfolding admits scan
  two_tests a b = by (fits_in len f) (leb N a) (leb N b) where
    by : (x y z : Bool)
        → pick x (pick y (refused_of 14 0 0 0) (pick z (refused_of 14 1 0 0) fine)) (refused_of 17 0 0 0)
        ≡ pick x (and_then (pick y (refused_of 14 0 0 0) fine) (and_then (pick z (refused_of 14 1 0 0) fine) fine)) (refused_of 17 0 0 0)
    by false y z = refl
    by true true z = refl
    by true false true = refl
    by true false false = refl

  one_test : (a : ℕ) → admits len f a 0 ≡ tests (fits_in len f) (below a f.elements ∷ [])
  unfolding admits scan
  one_test a = by (fits_in len f) refl (leb N a) where
    by : (x : Bool) → fits_in len f ≡ x → (y : Bool)
        → pick x (pick y (refused_of 14 0 0 0) (pick (leb N 0) (refused_of 14 1 0 0) fine)) (refused_of 17 0 0 0)
        ≡ pick x (and_then (pick y (refused_of 14 0 0 0) fine) fine) (refused_of 17 0 0 0)
    by false q y = refl
    by true q true = refl
    by true q false = rw (lt-leb N 0 (some len f q))

  no_test : admits len f 0 0 ≡ tests (fits_in len f) []
  unfolding admits scan
  no_test = by (fits_in len f) refl where
    by : (x : Bool) → fits_in len f ≡ x
        → pick x (pick (leb N 0) (refused_of 14 0 0 0) (pick (leb N 0) (refused_of 14 1 0 0) fine)) (refused_of 17 0 0 0) ≡ pick x fine (refused_of 17 0 0 0)
    by false q = refl
    by true q = rw (lt-leb N 0 (some len f q))

-- A step has an element and a generator.
step_after : (x y z : Bool) (r : Reached)
    → reached_paper (pick x (pick y (refused_reach 14 0) (pick z (refused_reach 14 1) r)) (refused_reach 17 0))
    ≡ afterwards (pick x (and_then (pick y (refused_of 14 0 0 0) fine) (and_then (pick z (refused_of 14 1 0 0) fine) fine)) (refused_of 17 0 0 0)) (reached_paper r)
step_after false y z r = refl
step_after true true z r = refl
step_after true false true r = refl
step_after true false false r = refl

-- And a generator is asked for by itself.
generator_after : (x y : Bool) (r : Reached)
    → reached_paper (if_reach (pick x fine (refused_of 17 0 0 0)) (pick y (refused_reach 14 0) r))
    ≡ afterwards (pick x (and_then (pick y (refused_of 14 0 0 0) fine) fine) (refused_of 17 0 0 0)) (reached_paper r)
generator_after false y r = refl
generator_after true true r = refl
generator_after true false r = refl

module _ (t : List ℕ) (f : Factor) where
  abbrev s : List ℕ
  s = stretch t f

  abbrev n : ℕ
  n = f.generators

  abbrev len : ℕ
  len = length t

  steps : (e : GroupElementId) (g : GeneratorId)
      → reached_paper (step_answer t f e g)
      ≡ afterwards (tests (fits_in (length t) f) (below e.0 f.elements ∷ below g.0 f.generators ∷ [])) (reached_paper (read_step (stretch t f) f.generators f.elements e.0 g.0))
  unfolding step_answer scan
  steps e g = step_after (fits_in len f) (leb f.elements e.0) (leb n g.0) (read_step s n f.elements e.0 g.0)

  generators : (g : GeneratorId)
      → reached_paper (generator_answer t f g)
      ≡ afterwards (tests (fits_in (length t) f) (below g.0 f.generators ∷ [])) (reached_paper (read_step (stretch t f) f.generators f.elements 0 g.0))
  unfolding generator_answer generator_in scan
  generators g = rw (no_test len f) (generator_after (fits_in len f) (leb n g.0) (read_step s n f.elements 0 g.0))

  counts : counted_paper (count_answer t f) ≡ afterwards (tests (fits_in (length t) f) []) (value_paper f.elements)
  unfolding count_answer
  counts = counted_after (admits len f 0 0) _ ∙ rw (no_test len f)

  composes : (a b : GroupElementId)
      → reached_paper (compose_answer t f a b)
      ≡ afterwards (tests (fits_in (length t) f) (below a.0 f.elements ∷ below b.0 f.elements ∷ []))
      (reached_paper (compose_in (stretch t f) f.generators f.elements a.0 b.0))
  unfolding compose_answer
  composes a b = reached_after (admits len f a.0 b.0) _ ∙ rw (two_tests len f a.0 b.0)

  conjugates : (a b : GroupElementId)
      → reached_paper (conjugate_answer t f a b)
      ≡ afterwards (tests (fits_in (length t) f) (below a.0 f.elements ∷ below b.0 f.elements ∷ []))
      (reached_paper (conjugate_in (stretch t f) f.generators f.elements a.0 b.0))
  unfolding conjugate_answer
  conjugates a b = reached_after (admits len f a.0 b.0) _ ∙ rw (two_tests len f a.0 b.0)

  inverts : (a : GroupElementId)
      → reached_paper (inverse_answer t f a)
      ≡ afterwards (tests (fits_in (length t) f) (below a.0 f.elements ∷ [])) (reached_paper (inverse_in (stretch t f) f.generators f.elements a.0))
  unfolding inverse_answer
  inverts a = reached_after (admits len f a.0 0) _ ∙ rw (one_test len f a.0)

  lengths : (e : GroupElementId)
      → counted_paper (length_answer t f e)
      ≡ afterwards (tests (fits_in (length t) f) (below e.0 f.elements ∷ [])) (counted_paper (length_in (stretch t f) f.generators e.0))
  unfolding length_answer
  lengths e = counted_after (admits len f e.0 0) _ ∙ rw (one_test len f e.0)

  writes : (e : GroupElementId) (size : ℕ)
      → counted_paper (write_answer t f e size)
      ≡ afterwards (tests (fits_in (length t) f) (below e.0 f.elements ∷ [])) (counted_paper (write_in (stretch t f) f.generators f.elements e.0 size))
  unfolding write_answer
  writes e size = counted_after (admits len f e.0 0) _ ∙ rw (one_test len f e.0)

  checks : (o : List ℕ)
      → verdict_paper (check_answer t f o)
      ≡ afterwards (tests (fits_in (length t) f) []) (verdict_paper (and_then (orders_right o f.generators) (relations (stretch t f) f.generators f.elements o)))
  unfolding check_answer
  checks o = then_after (admits len f 0 0) _ ∙ rw (no_test len f)

  -- What is answered from the stretch.
  length_in_lem : (e : ℕ) → CountedIn (17 ∷ []) (length_in (stretch t f) f.generators e)
  unfolding length_in
  length_in_lem e = counted_pick (ltb 4096 (length_of s n e)) _ _ (counted_refused _ refl) (counted_count _)

  write_in_lem : (e size : ℕ) → CountedIn (4 ∷ 17 ∷ []) (write_in (stretch t f) f.generators f.elements e size)
  unfolding write_in
  write_in_lem e size =
      counted_pick (ltb 4096 (length_of s n e)) _ _ (counted_refused _ refl)
      (counted_pick (ltb size (length_of s n e)) _ _ (counted_refused _ refl)
      (counted_pick (readable (length_of s n e) s n f.elements e) _ _ (counted_count _) (counted_refused _ refl)))

  check_not_14 : (o : List ℕ) → fits_in (length t) f ≡ true
      → (verdict_paper (and_then (orders_right o f.generators) (relations (stretch t f) f.generators f.elements o))).number ≡ 14 → ⊥
  unfolding scan
  check_not_14 o q k =
      let e : verdict_paper (check_answer t f o) ≡ verdict_paper (and_then (orders_right o f.generators) (relations (stretch t f) f.generators f.elements o)) =
      checks o ∙ rw q in
      verdict_not_14 refl (check_answer t f o) ((questions_refuse t f).checks o) (ap (λ (p : Paper). p.number) e ∙ k)

  pub questions_asked : QuestionsAsked t f
  questions_asked = record {
    steps = λ e g. admitted_as _ _ (λ q all. reached_not_14 refl _ (step_in_lem s n f.elements e.0 g.0)) (steps e g);
    generators = λ g. admitted_as _ _ (λ q all. reached_not_14 refl _ (step_in_lem s n f.elements 0 g.0)) (generators g);
    counts = admitted_as _ _ (λ q all k. omega arith) counts;
    composes = λ a b. admitted_as _ _ (λ q all. reached_not_14 refl _ (compose_in_lem s n f.elements a.0 b.0)) (composes a b);
    inverts = λ a. admitted_as _ _ (λ q all. reached_not_14 refl _ (inverse_in_lem s n f.elements a.0)) (inverts a);
    conjugates = λ a b. admitted_as _ _ (λ q all. reached_not_14 refl _ (conjugate_in_lem s n f.elements a.0 b.0)) (conjugates a b);
    lengths = λ e. admitted_as _ _ (λ q all. counted_not_14 refl _ (length_in_lem e.0)) (lengths e);
    writes = λ e size. admitted_as _ _ (λ q all. counted_not_14 refl _ (write_in_lem e.0 size)) (writes e size);
    checks = λ o. admitted_as _ _ (λ q all. check_not_14 o q) (checks o);
  }
