-- What the call on composed rows answers, on every input: the number and the places are determined by the arguments, in theory's words, and each refusal is
-- given exactly where document 01 says so.
use Prim.Native.Nat.{ℕ, ◌*◌, ◌≤◌, ◌<◌}
use mathlib.Core.Path.{◌≡◌, refl, sym, ap, ◌∙◌, subst}
use mathlib.Core.Logic.{◌↔◌, ◌⊎◌, inl, inr}
use mathlib.Core.Bool.{Bool, true, false, ◌&&◌}
use mathlib.Core.List.{List}
use native.Mathlib.Decide.{dec_lt}
use native.Mathlib.Nat.{le_refl}
use native.Mathlib.Omega.{arith}
use borrow.Author.Tests.{le-leb, lt-ltb, le-ltb, leb-true}
use lib.Dec.{leb}
use lib.ListN.{length, take, replicate}
use Rattle.egg.specs.declared.Refusal.{Refusal}
use Rattle.egg.specs.Answers.{Verdict, fine}
use Rattle.std.specs.Prelude.{Ok, Err}
use Rattle.egg.specs.Factor.{Paper, refusal_paper, verdict_paper}
use Rattle.egg.proofs.Rooms.{false_true, and_first, and_second}
use Rattle.build_reading.specs.Reading.{read_all, composed_at}
use Rattle.build_lending.specs.Finish.{finished_placed}
use Rattle.build_lending.specs.Lending.{table_need, work_need, lent_right, refused_made, Making, making, lent_back}
use Rattle.factor.specs.Composed.{composed_in, composed}
use Rattle.build_laws.specs.Taken.{Taken}
use Rattle.promises.proofs.Composed.{composed_is_build, work_lent}
use Rattle.promises_refusals.specs.Faults.{Fault}
use Rattle.promises_refusals.specs.Papers.{answer_of, paper_of, paper, Enough, ComposedPaper, many, short, taken, fault, OneAnswer}
use Rattle.promises_refusals.proofs.Lent.{enough_right, right_enough, lent_refused, lent_accepted}
use Rattle.promises_refusals.proofs.Numbers.{fault_numbers}

module _ (table : List ℕ) (start : ℕ) (work rows : List ℕ) (n room : ℕ) where
  -- What 1 and 4 test.
  abbrev lent : Bool
  lent = lent_right (length table) start (length work) room n && leb (room * n) (length rows)

  pub lent_right_lem : n ≤ 8 → Enough table start work rows n room → lent_right (length table) start (length work) room n ≡ true
  lent_right_lem hn E = enough_right table start work n room hn E.lent

  enough_lent : n ≤ 8 → Enough table start work rows n room → lent ≡ true
  enough_lent hn E = rw (lent_right_lem hn E) (le-leb _ _ E.rows_long)

  lent_is_enough : lent ≡ true → Enough table start work rows n room
  lent_is_enough h = record {
    lent = right_enough table start work n room (and_first (lent_right (length table) start (length work) room n) _ h);
    rows_long = leb-true _ _ (and_second (lent_right (length table) start (length work) room n) _ h);
  }

  is_many : 8 < n → composed table start work rows n room ≡ making (refused_made 1 n) table work
  unfolding composed
  is_many h = simp (lt-ltb _ _ h)

  is_short : n ≤ 8 → lent ≡ false → composed table start work rows n room ≡ making (refused_made 4 0) table work
  unfolding composed
  is_short hn h = simp (le-ltb _ _ hn, h)

  -- Where 1 and 4 have passed, the call is the build in its stretches.
  module _ (hn : n ≤ 8) (E : Enough table start work rows n room) where
    abbrev w : List ℕ
    w = take (work_need n room) work

    -- What is put back: a build from the rows' numbers.
    abbrev outcome : Making
    outcome = lent_back table start work n room (finished_placed (read_all (composed_at rows n) n room (replicate (table_need n room) 0)) n w)

    is_build : composed table start work rows n room ≡ outcome
    unfolding composed_in
    is_build = composed_is_build table start work rows n room hn (lent_right_lem hn E) E.rows_long

    long : work_need n room ≤ length w
    long = work_lent table start work rows n room hn (lent_right_lem hn E) E.rows_long

    accepts : answer_of outcome ≡ fine ↔ ((N : ℕ) × Taken (composed_at rows n) n room N)
    accepts = lent_accepted table start work (composed_at rows n) n room (table_need n room) w hn E.lent.some_room E.lent.most_room (le_refl (table_need n room)) long

    refuses : (r : Refusal) → answer_of outcome ≡ Err r ↔ Fault (composed_at rows n) n room r
    refuses = lent_refused table start work (composed_at rows n) n room (table_need n room) w hn E.lent.some_room E.lent.most_room (le_refl (table_need n room)) long

    some_built : (v : Verdict) → answer_of outcome ≡ v → ComposedPaper table start work rows n room (verdict_paper v)
    some_built (Ok _) q = taken hn E (accepts.0 q).1
    some_built (Err r) q = fault hn E ((refuses r).0 q)

    taken_paper : {N : ℕ} → Taken (composed_at rows n) n room N → paper_of (composed table start work rows n room) ≡ paper 0 0 0 0
    taken_paper {N} G = ap paper_of is_build ∙ ap verdict_paper (accepts.1 (N, G))

    fault_paper : {r : Refusal} → Fault (composed_at rows n) n room r → paper_of (composed table start work rows n room) ≡ refusal_paper r
    fault_paper {r} F = ap paper_of is_build ∙ ap verdict_paper ((refuses r).1 F)

  -- Some answer there is ..
  pub composed_some : ComposedPaper table start work rows n room (paper_of (composed table start work rows n room))
  composed_some = by (dec_lt 8 n) where
    few : n ≤ 8 → (l : Bool) → lent ≡ l → ComposedPaper table start work rows n room (paper_of (composed table start work rows n room))
    few hn true q =
        let E = lent_is_enough q in
        rw (is_build hn E) (some_built hn E (answer_of (outcome hn E)) refl)
    few hn false q = rw (is_short hn q) (short hn (λ E. false_true (sym q ∙ enough_lent hn E)))

    by : Dec (8 < n) → ComposedPaper table start work rows n room (paper_of (composed table start work rows n room))
    by (yes h) = rw (is_many h) (many h)
    by (no h) = few (omega arith) lent refl

  -- .. and what is said here of the arguments is the answer.
  pub paper_given : {p : Paper} → ComposedPaper table start work rows n room p → paper_of (composed table start work rows n room) ≡ p
  paper_given (many h) = ap paper_of (is_many h)
  paper_given (short hn h) = by lent refl where
    by : (l : Bool) → lent ≡ l → paper_of (composed table start work rows n room) ≡ paper 4 0 0 0
    by true q = absurd (h (lent_is_enough q))
    by false q = ap paper_of (is_short hn q)
  paper_given (taken hn E G) = taken_paper hn E G
  paper_given (fault hn E F) = fault_paper hn E F

  -- The answer is this one exactly when: number and places are determined by the arguments.
  pub composed_paper : (p : Paper) → paper_of (composed table start work rows n room) ≡ p ↔ ComposedPaper table start work rows n room p
  composed_paper p = (λ q. subst (ComposedPaper table start work rows n room) q composed_some, paper_given)

  -- Exactly one of them.
  pub paper_once : {p q : Paper} → ComposedPaper table start work rows n room p → ComposedPaper table start work rows n room q → p ≡ q
  paper_once a b = sym (paper_given a) ∙ paper_given b

  -- 2, 3 and 13 to 17 never come.
  pub composed_numbers_lem : {p : Paper} → ComposedPaper table start work rows n room p → (p.number ≤ 1) ⊎ ((4 ≤ p.number) × (p.number ≤ 12))
  composed_numbers_lem (many h) = inl (omega arith)
  composed_numbers_lem (short hn h) = inr (omega arith, omega arith)
  composed_numbers_lem (taken hn E G) = inl (omega arith)
  composed_numbers_lem (fault hn E F) = let k = fault_numbers F in inr (omega (arith, k.0), k.1)

  -- Which answer comes is determined by the arguments, and there is one.
  pub composed_one : OneAnswer table start work rows n room
  composed_one = record {
    answer = paper_of (composed table start work rows n room);
    given = refl;
    is = composed_some;
    only = λ c. sym (paper_given c);
    numbers = composed_numbers_lem composed_some;
  }
