-- Every question is answered or refused by one of its numbers, on every input. Each definition is gone through branch by branch; the walks by induction on the
-- letters that are left.
use Prim.Native.Nat.{ℕ, zero, suc}
use mathlib.Core.Path.{◌≡◌, refl, sym}
use mathlib.Core.Bool.{Bool, true, false}
use mathlib.Core.List.{List, [], ◌∷◌}
use native.Mathlib.Omega.{arith}
use borrow.Author.Tests.{lt-leb}
use lib.Dec.{eqb, ltb, leb}
use lib.ListN.{length, get_or}
use Rattle.egg.specs.declared.Refusal.{Refusal}
use Rattle.egg.specs.declared.Factor.{Factor}
use Rattle.egg.specs.declared.GroupElementId.{GroupElementId}
use Rattle.egg.specs.declared.GeneratorId.{GeneratorId}
use Rattle.egg.specs.Answers.{Counted, Reached, Verdict, fine}
use Rattle.egg.specs.Refusals.{refusal_paper}
use Rattle.std.specs.Prelude.{Ok, Err}
use Rattle.egg.specs.Table.{pick, length_of}
use Rattle.egg.specs.Scan.{refused_of, and_then, scan}
use Rattle.egg.specs.Pairs.{orders_right}
use Rattle.egg.specs.Factor.{fits_in, stretch, refused_reach, read_step, step_answer}
use Rattle.egg.proofs.Rooms.{some}
use Rattle.egg.proofs.Scans.{refused_fine, says_scan}
use Rattle.factor.specs.Questions.{admits, compose_answer, inverse_answer, conjugate_answer, count_answer, generator_answer, walk_answer, length_answer, write_answer, written, word_part}
use Rattle.factor_walk.specs.Walked.{letter_right, letters_right, walk_in}
use Rattle.egg.specs.Answers.{if_reach, if_count, on_reached}
use Rattle.factor_questions.specs.Walks.{follow, along, read_step_back, back_by, compose_in, inverse_in, conjugate_in, generator_in}
use Rattle.factor_word_letters.specs.Spell.{letters}
use Rattle.factor_words.specs.Words.{length_in, readable, write_in}
use Rattle.factor_relations.specs.Relations.{turned, returns_to, relation_at, doubled_row, pairs_row, relations}
use Rattle.factor.specs.Relations.{check_answer}
use Rattle.build_checks_laws.specs.Numbers.{member, every, RefusalIn}
use Rattle.build_checks_laws.proofs.Numbers.{each_in, orders_number}
use Rattle.factor_laws.specs.Refuses.{VerdictIn, ReachedIn, CountedIn, Refuses}

-- What answers are made of, branch by branch.
module _ {l : List ℕ} where
  pub reached_element : (e : GroupElementId) → ReachedIn l (Ok e)
  reached_element e = record { of = λ r h. absurd (never r h) } where
    never : (r : Refusal) → Ok e ≡ Err r → ⊥
    never r h = let z : ◌≡◌ {A = ℕ} 0 1 = cc in omega arith

  pub reached_refused : (s : Refusal) → RefusalIn l s → ReachedIn l (Err s)
  reached_refused s m = record { of = λ r h. let e : s ≡ r = cc in rw e at m }

  pub reached_pick : (b : Bool) (x y : Reached) → ReachedIn l x → ReachedIn l y → ReachedIn l (pick b x y)
  reached_pick true x y p q = p
  reached_pick false x y p q = q

  pub reached_on : (x : Reached) (next : ℕ → Reached) → ReachedIn l x → ((e : ℕ) → ReachedIn l (next e)) → ReachedIn l (on_reached x next)
  reached_on (Ok e) next p q = q e.0
  reached_on (Err s) next p q = p

  pub reached_if : (v : Verdict) (x : Reached) → VerdictIn l v → ReachedIn l x → ReachedIn l (if_reach v x)
  reached_if (Ok _) x p q = q
  reached_if (Err s) x p q = reached_refused s (p.of s refl)

  pub counted_count : (k : ℕ) → CountedIn l (Ok k)
  counted_count k = record { of = λ r h. absurd (never r h) } where
    never : (r : Refusal) → Ok k ≡ Err r → ⊥
    never r h = let z : ◌≡◌ {A = ℕ} 0 1 = cc in omega arith

  pub counted_refused : (s : Refusal) → RefusalIn l s → CountedIn l (Err s)
  counted_refused s m = record { of = λ r h. let e : s ≡ r = cc in rw e at m }

  pub counted_pick : (b : Bool) (x y : Counted) → CountedIn l x → CountedIn l y → CountedIn l (pick b x y)
  counted_pick true x y p q = p
  counted_pick false x y p q = q

  pub counted_if : (v : Verdict) (x : Counted) → VerdictIn l v → CountedIn l x → CountedIn l (if_count v x)
  counted_if (Ok _) x p q = q
  counted_if (Err s) x p q = counted_refused s (p.of s refl)

  pub verdict_fine : VerdictIn l fine
  verdict_fine = record { of = λ r h. absurd (refused_fine (sym h)) }

  pub verdict_refused : (s : Refusal) → RefusalIn l s → VerdictIn l (Err s)
  verdict_refused s m = record { of = λ r h. let e : s ≡ r = cc in rw e at m }

  pub verdict_pick : (b : Bool) (u v : Verdict) → VerdictIn l u → VerdictIn l v → VerdictIn l (pick b u v)
  verdict_pick true u v p q = p
  verdict_pick false u v p q = q

  pub verdict_then : (u v : Verdict) → VerdictIn l u → VerdictIn l v → VerdictIn l (and_then u v)
  verdict_then (Ok _) v p q = q
  verdict_then (Err s) v p q = p

  pub verdict_scan : (k : ℕ) (f : ℕ → Verdict) (i : ℕ) → ((j : ℕ) → VerdictIn l (f j)) → VerdictIn l (scan k f i)
  verdict_scan k f i p = record { of = (says_scan k f i (λ j. record { of = (p j).of })).of }

pub reached_widen : {l : List ℕ} (m : List ℕ) → every (λ x. member x m) l ≡ true → {x : Reached} → ReachedIn l x → ReachedIn m x
reached_widen {l} m a p = record { of = λ r h. each_in (λ x. member x m) (refusal_paper r).number l a (p.of r h) }

verdict_widen : {l : List ℕ} (m : List ℕ) → every (λ x. member x m) l ≡ true → {v : Verdict} → VerdictIn l v → VerdictIn m v
verdict_widen {l} m a p = record { of = λ r h. each_in (λ x. member x m) (refusal_paper r).number l a (p.of r h) }

-- What is read is refused by 17 only.
refused_17 : ReachedIn (17 ∷ []) (refused_reach 17 0)
refused_17 = reached_refused _ refl

ruleset reads = (reached_pick, reached_on, reached_element, refused_17)

module _ (s : List ℕ) (n count : ℕ) where
  pub step_in_lem : (e g : ℕ) → ReachedIn (17 ∷ []) (read_step s n count e g)
  unfolding read_step
  step_in_lem e g = search reads

  back_in : (e g : ℕ) → ReachedIn (17 ∷ []) (read_step_back s n count e g)
  unfolding read_step_back
  back_in e g = search reads

  pub follow_in : (from : ℕ) (w : List ℕ) → ReachedIn (17 ∷ []) (follow s n count from w)
  unfolding follow
  follow_in from [] = reached_element _
  follow_in from (g ∷ w) = reached_on (read_step s n count from g) (λ x. follow s n count x w) (step_in_lem from g) (λ x. follow_in x w)

  along_in : (k from e : ℕ) → ReachedIn (17 ∷ []) (along k s n count from e)
  unfolding along
  along_in k from e = reached_pick (readable k s n count e) _ _ (follow_in from (letters k s n e)) refused_17

  back_by_in : (k j from c : ℕ) → ReachedIn (17 ∷ []) (back_by k j s n count from c)
  unfolding back_by
  back_by_in zero j from c = reached_element _
  back_by_in (suc k) zero from c = search (reads, back_by_in k 4, back_in)
  back_by_in (suc k) (suc j) from c = search (reads, back_by_in k j, back_in)

  pub inverse_in_lem : (a : ℕ) → ReachedIn (17 ∷ []) (inverse_in s n count a)
  unfolding inverse_in
  inverse_in_lem a = search reads

  pub compose_in_lem : (a b : ℕ) → ReachedIn (17 ∷ []) (compose_in s n count a b)
  unfolding compose_in
  compose_in_lem a b = search (reads, along_in, back_by_in, inverse_in_lem) depth 8

  pub conjugate_in_lem : (a b : ℕ) → ReachedIn (17 ∷ []) (conjugate_in s n count a b)
  unfolding conjugate_in
  conjugate_in_lem a b = search (reads, compose_in_lem, inverse_in_lem)

  turned_in : (k e a b : ℕ) → ReachedIn (17 ∷ []) (turned k s n count e a b)
  unfolding turned
  turned_in zero e a b = reached_element _
  turned_in (suc k) e a b = search (reads, turned_in k, step_in_lem)

  -- The relations: 13, or 17 as met.
  returns_in : (e a b : ℕ) (x : Reached) → ReachedIn (17 ∷ []) x → VerdictIn (13 ∷ 17 ∷ []) (returns_to e a b x)
  returns_in e a b (Ok x) p = verdict_pick (eqb x.0 e) fine (refused_of 13 e a b) verdict_fine (verdict_refused _ refl)
  returns_in e a b (Err r) p = verdict_refused r ((reached_widen (13 ∷ 17 ∷ []) refl p).of r refl)

  relation_in : (e a b k : ℕ) → VerdictIn (13 ∷ 17 ∷ []) (relation_at s n count e a b k)
  relation_in e a b k = returns_in e a b (turned k s n count e a b) (turned_in k e a b)

  relations_in : (o : List ℕ) → VerdictIn (13 ∷ 17 ∷ []) (relations s n count o)
  unfolding relations doubled_row pairs_row
  relations_in o = search (verdict_then, verdict_scan, relation_in)

-- 17 in the handle, and 14.
admits_in : (len : ℕ) (f : Factor) (a b : ℕ) → VerdictIn (14 ∷ 17 ∷ []) (admits len f a b)
unfolding admits
admits_in len f a b =
    verdict_pick (fits_in len f) _ _
    (verdict_pick (leb f.elements a) _ _ (verdict_refused _ refl) (verdict_pick (leb f.elements b) _ _ (verdict_refused _ refl) verdict_fine)) (verdict_refused _ refl)

-- With no element argument there is no 14: the identity is always there.
admits_origin : (len : ℕ) (f : Factor) → VerdictIn (17 ∷ []) (admits len f 0 0)
unfolding admits
admits_origin len f = by (fits_in len f) refl where
  by : (b : Bool) → fits_in len f ≡ b → VerdictIn (17 ∷ []) (pick b (pick (leb f.elements 0) (refused_of 14 0 0 0) (pick (leb f.elements 0) (refused_of 14 1 0 0) fine)) (refused_of 17 0 0 0))
  by true h = let z : leb f.elements 0 ≡ false = lt-leb _ _ (some len f h) in rw z verdict_fine
  by false h = verdict_refused _ refl

module _ (t : List ℕ) (f : Factor) where
  -- What is read in the factor's stretch, for a question that may be refused by 14 as well.
  as_both : {x : Reached} → ReachedIn (17 ∷ []) x → ReachedIn (14 ∷ 17 ∷ []) x
  as_both p = reached_widen (14 ∷ 17 ∷ []) refl p

  step_numbers : (e : GroupElementId) (g : GeneratorId) → ReachedIn (14 ∷ 17 ∷ []) (step_answer t f e g)
  unfolding step_answer
  step_numbers e g =
      reached_pick (fits_in (length t) f) _ _
      (reached_pick (leb f.elements e.0) _ _ (reached_refused _ refl)
      (reached_pick (leb f.generators g.0) _ _ (reached_refused _ refl) (as_both (step_in_lem (stretch t f) f.generators f.elements e.0 g.0))))
      (reached_refused _ refl)

  generator_numbers : (g : GeneratorId) → ReachedIn (14 ∷ 17 ∷ []) (generator_answer t f g)
  unfolding generator_answer generator_in
  generator_numbers g =
      reached_if (admits (length t) f 0 0) _ (admits_in (length t) f 0 0)
      (reached_pick (leb f.generators g.0) _ _ (reached_refused _ refl) (as_both (step_in_lem (stretch t f) f.generators f.elements 0 g.0)))

  count_numbers : CountedIn (17 ∷ []) (count_answer t f)
  unfolding count_answer
  count_numbers = counted_if (admits (length t) f 0 0) _ (admits_origin (length t) f) (counted_count f.elements)

  compose_numbers : (a b : GroupElementId) → ReachedIn (14 ∷ 17 ∷ []) (compose_answer t f a b)
  unfolding compose_answer
  compose_numbers a b =
      reached_if (admits (length t) f a.0 b.0) _ (admits_in (length t) f a.0 b.0) (as_both (compose_in_lem (stretch t f) f.generators f.elements a.0 b.0))

  walk_numbers : (e : GroupElementId) (w : List ℕ) → ReachedIn (14 ∷ 17 ∷ []) (walk_answer t f e w)
  unfolding walk_answer walk_in letters_right
  walk_numbers e w =
      reached_if (admits (length t) f e.0 0) _ (admits_in (length t) f e.0 0)
      (reached_if _ _
      (verdict_scan (length w) (letter_right f.generators w) 0 (λ i. verdict_pick (leb f.generators (get_or w i 0)) _ _ (verdict_refused _ refl) verdict_fine))
      (as_both (follow_in (stretch t f) f.generators f.elements e.0 w)))

  inverse_numbers : (a : GroupElementId) → ReachedIn (14 ∷ 17 ∷ []) (inverse_answer t f a)
  unfolding inverse_answer
  inverse_numbers a =
      reached_if (admits (length t) f a.0 0) _ (admits_in (length t) f a.0 0) (as_both (inverse_in_lem (stretch t f) f.generators f.elements a.0))

  conjugate_numbers : (a b : GroupElementId) → ReachedIn (14 ∷ 17 ∷ []) (conjugate_answer t f a b)
  unfolding conjugate_answer
  conjugate_numbers a b =
      reached_if (admits (length t) f a.0 b.0) _ (admits_in (length t) f a.0 b.0) (as_both (conjugate_in_lem (stretch t f) f.generators f.elements a.0 b.0))

  length_numbers : (e : GroupElementId) → CountedIn (14 ∷ 17 ∷ []) (length_answer t f e)
  unfolding length_answer length_in
  length_numbers e =
      counted_if (admits (length t) f e.0 0) _ (admits_in (length t) f e.0 0)
      (counted_pick (ltb 4096 (length_of (stretch t f) f.generators e.0)) _ _ (counted_refused _ refl) (counted_count _))

  write_numbers : (e : GroupElementId) (size : ℕ) → CountedIn (4 ∷ 14 ∷ 17 ∷ []) (write_answer t f e size)
  unfolding write_answer write_in
  write_numbers e size =
      let s = stretch t f in
      let n = f.generators in
      counted_if (admits (length t) f e.0 0) _ (verdict_widen (4 ∷ 14 ∷ 17 ∷ []) refl (admits_in (length t) f e.0 0))
      (counted_pick (ltb 4096 (length_of s n e.0)) _ _ (counted_refused _ refl)
      (counted_pick (ltb size (length_of s n e.0)) _ _ (counted_refused _ refl)
      (counted_pick (readable (length_of s n e.0) s n f.elements e.0) _ _ (counted_count _) (counted_refused _ refl))))

  nothing_written : (e : GroupElementId) (out : List ℕ) {r : Refusal} → write_answer t f e (length out) ≡ Err r → written t f e out ≡ out
  unfolding written
  nothing_written e out q = rw q

  nothing_handed : (e : GroupElementId) (out : List ℕ) {r : Refusal} → write_answer t f e (length out) ≡ Err r → word_part t f e out ≡ []
  unfolding word_part
  nothing_handed e out q = rw q

  check_numbers : (o : List ℕ) → VerdictIn (2 ∷ 3 ∷ 13 ∷ 17 ∷ []) (check_answer t f o)
  unfolding check_answer
  check_numbers o =
      verdict_then (admits (length t) f 0 0) _ (verdict_widen (2 ∷ 3 ∷ 13 ∷ 17 ∷ []) refl (admits_origin (length t) f))
      (verdict_then (orders_right o f.generators) _
      (record { of = λ r h. each_in (λ x. member x (2 ∷ 3 ∷ 13 ∷ 17 ∷ [])) (refusal_paper r).number (2 ∷ 3 ∷ []) refl (orders_number o f.generators h) })
      (verdict_widen (2 ∷ 3 ∷ 13 ∷ 17 ∷ []) refl (relations_in (stretch t f) f.generators f.elements o)))

  pub questions_refuse : Refuses t f
  questions_refuse = record {
    steps = step_numbers;
    walks = walk_numbers;
    generators = generator_numbers;
    counts = count_numbers;
    composes = compose_numbers;
    inverts = inverse_numbers;
    conjugates = conjugate_numbers;
    lengths = length_numbers;
    writes = write_numbers;
    nothing_written = nothing_written;
    nothing_handed = nothing_handed;
    checks = check_numbers;
  }
