-- Every answer of `flatten`, on every input, with the case in which it comes: each refusal before its build with its places, and each afterwards, over factors
-- that are altered or not.
use Prim.Native.Nat.{ℕ, ◌+◌, ◌*◌, ◌≤◌, ◌<◌}
use mathlib.Core.Path.{◌≡◌, refl, sym, ap, ◌∙◌, subst}
use mathlib.Core.Logic.{◌↔◌, ◌⊎◌, inl, inr, ⊎_elim}
use mathlib.Core.Bool.{Bool, true, false}
use mathlib.Core.List.{List}
use native.Mathlib.Nat.{le_refl}
use native.Mathlib.Omega.{arith}
use borrow.Author.Tests.{le-leb, lt-ltb, le-ltb, ltb-true, ltb-false}
use lib.Dec.{ltb}
use lib.ListN.{length, take, replicate}
use Rattle.egg.specs.declared.Refusal.{Refusal}
use Rattle.egg.specs.declared.Factor.{Factor}
use Rattle.egg.specs.Answers.{Reached, Verdict, fine}
use Rattle.std.specs.Prelude.{Ok, Err}
use Rattle.egg.specs.Factor.{Paper, refusal_paper, verdict_paper, refused_reach}
use Rattle.egg.proofs.Rooms.{false_true}
use Rattle.egg.specs.Answers.{numbered}
use Rattle.build_reading.specs.Reading.{placed, read_all}
use Rattle.build_lending.specs.Finish.{Built, finished_placed}
use Rattle.build_lending.specs.Lending.{table_need, work_need, lent_right, Making, lent_back}
use Rattle.build_reading_laws.proofs.Readings.{refused_read, refuses_refused}
use Rattle.build_laws.specs.Taken.{Taken}
use Rattle.build_laws.proofs.Lent.{taken_enough}
use Rattle.factor_laws.specs.Accepted.{reach}
use Rattle.promises_refusals.specs.Faults as faults
use Rattle.promises_refusals.specs.Faults.{Fault}
use Rattle.promises_refusals.specs.Papers.{answer_of, paper_of, paper, EnoughLent}
use Rattle.promises_refusals.proofs.Built.{fault_once, taken_no_fault}
use Rattle.promises_refusals.proofs.Lent.{enough_right, right_enough, lent_refused, lent_accepted}
use Rattle.promises_refusals.proofs.Numbers.{fault_numbers, fault_reading, fault_7, skips}
use Rattle.group_handles.specs.declared.Group.{Group}
use Rattle.group_handles.specs.Handles.{handles, generators_of, all_fit, limited, admits}
use Rattle.group_handles.proofs.Admitted.{few_factors_lem, few_elements, admits_fine}
use Rattle.group_digits.specs.Digits.{step_in}
use Rattle.group_flatten.specs.Flat.{flat_in, flat_into, flat}
use Rattle.promises_group.specs.Flattening.{FlatRight, GroupWithin, number_read, step_number, StepUnread, StepsAnswered, FlatPaper, no_handle, too_large, many, short, unread, fault, taken}
use Rattle.promises_group.proofs.FlatReads.{Reads, by_numbers, not_read, reads}

reach_refused : {k : ℕ} {x : Reached} → x ≡ reach k → x ≡ refused_reach 17 0 → ⊥
reach_refused p q = let z : ◌≡◌ {A = ℕ} 0 1 = cc in omega arith

-- 15's test, and what it says.
limits : (g : Group) → limited g ≡ true → GroupWithin g
limits g q = record { few = few_factors_lem g q; most = few_elements g q }

within_limits : (g : Group) → GroupWithin g → limited g ≡ true
unfolding limited
within_limits g L = simp (le-leb _ _ L.few, le-leb _ _ L.most)

-- With right arguments it is the build, of the steps that are read.
module _ (from : List ℕ) (g : Group) (table : List ℕ) (start : ℕ) (work : List ℕ) (room : ℕ) (R : FlatRight from g table start work room) where
  abbrev n : ℕ
  n = generators_of (handles g)

  abbrev w : List ℕ
  w = take (work_need (generators_of (handles g)) room) work

  abbrev size : ℕ
  size = table_need (generators_of (handles g)) room

  abbrev src : ℕ → ℕ → ℕ
  src = step_number from (handles g)

  enough : EnoughLent table start work (generators_of (handles g)) room
  enough = right_enough table start work n room R.lent

  pub flat_is : flat from g table start work room
      ≡ lent_back table start work (generators_of (handles g)) room (flat_in (table_need (generators_of (handles g)) room) (take (work_need (generators_of (handles g)) room) work) from (handles g) (generators_of (handles g)) room)
  unfolding flat flat_into
  flat_is = rw (R.admitted, le-ltb 8 n R.generators, R.lent)

  pub work_long : room * (6 * generators_of (handles g) * generators_of (handles g) + 4 * generators_of (handles g)) ≤ length (take (work_need (generators_of (handles g)) room) work)
  work_long = taken_enough table start work n room R.lent

  pub flat_reads : Reads from (handles g) room (table_need (generators_of (handles g)) room) (take (work_need (generators_of (handles g)) room) work)
  flat_reads = reads from (handles g) room size w enough.some_room enough.most_room

  abbrev numbers : Making
  numbers = lent_back table start work n room (finished_placed (read_all src n room (replicate size 0)) n w)

  accepts : answer_of numbers ≡ fine ↔ ((N : ℕ) × Taken src n room N)
  accepts = lent_accepted table start work src n room size w R.generators enough.some_room enough.most_room (le_refl size) work_long

  refuses : (r : Refusal) → answer_of numbers ≡ Err r ↔ Fault src n room r
  refuses = lent_refused table start work src n room size w R.generators enough.some_room enough.most_room (le_refl size) work_long

  -- A number that skips ahead is the reading's.
  ahead : {r : Refusal} → Fault src n room r → (refusal_paper r).number ≡ 7 → (t : List ℕ) × (read_all src n room (replicate size 0) ≡ placed (Err r) t)
  ahead F k = refuses_refused src n room size R.generators enough.some_room enough.most_room (le_refl size) (fault_reading F (omega arith))

  -- A step that cannot be read, where the numbers skip ahead.
  met : {e x : ℕ} {t : List ℕ} → read_all src n room (replicate size 0) ≡ placed (Err (numbered 7 e x 65536)) t → Fault src n room (numbered 7 e x 65536)
  met q = faults.unread (refused_read src n room size R.generators enough.some_room enough.most_room (le_refl size) q)

  stopped : {e x : ℕ} → Fault src n room (numbered 7 e x 65536) → step_in from (handles g) e x ≡ refused_reach 17 0 → StepUnread from (handles g) room
  stopped {e} {x} F s =
      let S = fault_7 F refl in
      record { element = e; generator = x; count = S.count; before = S.before; column = S.column; refused = s }

  unread_fault : (U : StepUnread from (handles g) room) → Fault src n room (numbered 7 U.element U.generator 65536)
  unread_fault U =
      skips (record {
        count = U.count;
        before = U.before;
        column = U.column;
        number = ap number_read U.refused;
        ahead = omega (arith, U.before.within, enough.most_room);
      })

  is_numbers : {b : Built} → flat_in size w from (handles g) n room ≡ b → flat from g table start work room ≡ lent_back table start work n room b
  is_numbers e = flat_is ∙ ap (lent_back table start work n room) e

  started_some : Reads from (handles g) room (table_need (generators_of (handles g)) room) (take (work_need (generators_of (handles g)) room) work)
      → FlatPaper from g table start work room (paper_of (flat from g table start work room))
  started_some (by_numbers e own) = rw (is_numbers e) (by (answer_of numbers) refl) where
    by : (v : Verdict) → answer_of numbers ≡ v → FlatPaper from g table start work room (verdict_paper v)
    by (Ok _) q = taken R (accepts.0 q).1
    by (Err r) q = let F = (refuses r).0 q in fault R F (λ k. let a = ahead F k in own r a.0 a.1 k)
  started_some (not_read e x t s q z) = rw (is_numbers z) (unread R (stopped (met q) s))

  unread_given : StepUnread from (handles g) room
      → Reads from (handles g) room (table_need (generators_of (handles g)) room) (take (work_need (generators_of (handles g)) room) work)
      → paper_of (flat from g table start work room) ≡ paper 17 0 0 0
  unread_given U (by_numbers e own) =
      let F = unread_fault U in
      let a = ahead F refl in
      absurd (reach_refused (own (numbered 7 U.element U.generator 65536) a.0 a.1 refl) U.refused)
  unread_given U (not_read e x t s q z) = ap paper_of (is_numbers z)

  fault_given : {r : Refusal} → Fault src n room r → StepsAnswered from (handles g) r
      → Reads from (handles g) room (table_need (generators_of (handles g)) room) (take (work_need (generators_of (handles g)) room) work)
      → paper_of (flat from g table start work room) ≡ refusal_paper r
  fault_given {r} F A (by_numbers e own) = ap paper_of (is_numbers e) ∙ ap verdict_paper ((refuses r).1 F)
  fault_given {r} F A (not_read e x t s q z) =
      let k : r ≡ numbered 7 e x 65536 = fault_once src n room R.generators enough.some_room enough.most_room F (met q) in
      let B : StepsAnswered from (handles g) (numbered 7 e x 65536) = subst (StepsAnswered from (handles g)) k A in
      absurd (reach_refused (B refl) s)

  taken_given : {N : ℕ} → Taken src n room N
      → Reads from (handles g) room (table_need (generators_of (handles g)) room) (take (work_need (generators_of (handles g)) room) work)
      → paper_of (flat from g table start work room) ≡ paper 0 0 0 0
  taken_given {N} T (by_numbers e own) = ap paper_of (is_numbers e) ∙ ap verdict_paper (accepts.1 (N, T))
  taken_given T (not_read e x t s q z) = absurd (taken_no_fault src n room R.generators enough.some_room enough.most_room T (met q))

module _ (from : List ℕ) (g : Group) (table : List ℕ) (start : ℕ) (work : List ℕ) (room : ℕ) where
  abbrev hs : List Factor
  hs = handles g

  -- The tests of the arguments.
  is_unfit : all_fit (length from) (handles g) ≡ false → paper_of (flat from g table start work room) ≡ paper 17 0 0 0
  unfolding flat admits
  is_unfit q = rw q

  is_large : all_fit (length from) (handles g) ≡ true → limited g ≡ false → paper_of (flat from g table start work room) ≡ paper 15 0 0 0
  unfolding flat admits
  is_large q l = rw (q, l)

  admitted : all_fit (length from) (handles g) ≡ true → GroupWithin g → admits (length from) g 0 1 0 1 ≡ fine
  admitted q L = sym (admits_fine (length from) g 0 1 0 1 q (omega arith) (omega arith) (within_limits g L))

  is_many : all_fit (length from) (handles g) ≡ true → GroupWithin g → 8 < generators_of (handles g)
      → paper_of (flat from g table start work room) ≡ paper 1 (generators_of (handles g)) 0 0
  unfolding flat flat_into
  is_many q L h = rw (admitted q L, lt-ltb 8 (generators_of hs) h)

  is_short : all_fit (length from) (handles g) ≡ true → GroupWithin g → generators_of (handles g) ≤ 8
      → lent_right (length table) start (length work) room (generators_of (handles g)) ≡ false → paper_of (flat from g table start work room) ≡ paper 4 0 0 0
  unfolding flat flat_into
  is_short q L few l = rw (admitted q L, le-ltb 8 (generators_of hs) few, l)

  -- Some answer there is ..
  flat_some : FlatPaper from g table start work room (paper_of (flat from g table start work room))
  flat_some = first (all_fit (length from) hs) refl (limited g) refl where
    third : all_fit (length from) hs ≡ true → GroupWithin g → generators_of hs ≤ 8 → (b : Bool) → lent_right (length table) start (length work) room (generators_of hs) ≡ b
        → FlatPaper from g table start work room (paper_of (flat from g table start work room))
    third q L few true l =
        let R : FlatRight from g table start work room = record { admitted = admitted q L; generators = few; lent = l } in
        started_some from g table start work room R (flat_reads from g table start work room R)
    third q L few false l =
        rw (is_short q L few l) (short q L few (λ E. false_true (sym l ∙ enough_right table start work (generators_of hs) room few E)))

    second : all_fit (length from) hs ≡ true → GroupWithin g → (b : Bool) → ltb 8 (generators_of hs) ≡ b
        → FlatPaper from g table start work room (paper_of (flat from g table start work room))
    second q L true l = let h = ltb-true 8 (generators_of hs) l in rw (is_many q L h) (many q L h)
    second q L false l = third q L (ltb-false 8 (generators_of hs) l) (lent_right (length table) start (length work) room (generators_of hs)) refl

    first : (a : Bool) → all_fit (length from) hs ≡ a → (b : Bool) → limited g ≡ b
        → FlatPaper from g table start work room (paper_of (flat from g table start work room))
    first false q b l = rw (is_unfit q) (no_handle q)
    first true q false l = rw (is_large q l) (too_large q (λ L. false_true (sym l ∙ within_limits g L)))
    first true q true l = second q (limits g l) (ltb 8 (generators_of hs)) refl

  -- .. and it is the one that the arguments and the stretches say.
  flat_given_paper : {p : Paper} → FlatPaper from g table start work room p → paper_of (flat from g table start work room) ≡ p
  flat_given_paper (no_handle q) = is_unfit q
  flat_given_paper (too_large q wrong) = by (limited g) refl where
    by : (b : Bool) → limited g ≡ b → paper_of (flat from g table start work room) ≡ paper 15 0 0 0
    by true l = absurd (wrong (limits g l))
    by false l = is_large q l
  flat_given_paper (many q L h) = is_many q L h
  flat_given_paper (short q L few lacks) = by (lent_right (length table) start (length work) room (generators_of hs)) refl where
    by : (b : Bool) → lent_right (length table) start (length work) room (generators_of hs) ≡ b → paper_of (flat from g table start work room) ≡ paper 4 0 0 0
    by true l = absurd (lacks (right_enough table start work (generators_of hs) room l))
    by false l = is_short q L few l
  flat_given_paper (unread R U) = unread_given from g table start work room R U (flat_reads from g table start work room R)
  flat_given_paper (fault R F A) = fault_given from g table start work room R F A (flat_reads from g table start work room R)
  flat_given_paper (taken R T) = taken_given from g table start work room R T (flat_reads from g table start work room R)

  -- On every input: each answer exactly when.
  pub flat_answers : (p : Paper) → paper_of (flat from g table start work room) ≡ p ↔ FlatPaper from g table start work room p
  flat_answers p = (λ q. subst (FlatPaper from g table start work room) q flat_some, flat_given_paper)

  -- 17, in a handle or as met.
  pub flat_17 : (a b c : ℕ) → paper_of (flat from g table start work room) ≡ paper 17 a b c
      ↔ (((all_fit (length from) (handles g) ≡ false) ⊎ (FlatRight from g table start work room × StepUnread from (handles g) room)) × ((a ≡ 0) × ((b ≡ 0) × (c ≡ 0))))
  flat_17 a b c = (
    λ q. by ((flat_answers (paper 17 a b c)).0 q) refl,
    λ h. rw (h.1.0, h.1.1.0, h.1.1.1) (⊎_elim (λ q. flat_given_paper (no_handle q)) (λ u. flat_given_paper (unread u.0 u.1)) h.0),
  ) where
    by : {p : Paper} → FlatPaper from g table start work room p → p.number ≡ 17
        → ((all_fit (length from) hs ≡ false) ⊎ (FlatRight from g table start work room × StepUnread from hs room)) × ((p.a ≡ 0) × ((p.b ≡ 0) × (p.c ≡ 0)))
    by (no_handle q) k = (inl q, (refl, (refl, refl)))
    by (too_large q wrong) k = absurd (omega arith)
    by (many q L h) k = absurd (omega arith)
    by (short q L few lacks) k = absurd (omega arith)
    by (unread R U) k = (inr (R, U), (refl, (refl, refl)))
    by (fault R F A) k = absurd (omega (arith, (fault_numbers F).1))
    by (taken R T) k = absurd (omega arith)

  -- 15, "more than 8 factors, product too large".
  pub flat_15 : (a b c : ℕ) → paper_of (flat from g table start work room) ≡ paper 15 a b c
      ↔ ((all_fit (length from) (handles g) ≡ true) × (¬ (GroupWithin g) × ((a ≡ 0) × ((b ≡ 0) × (c ≡ 0)))))
  flat_15 a b c = (
    λ q. by ((flat_answers (paper 15 a b c)).0 q) refl,
    λ h. rw (h.1.1.0, h.1.1.1.0, h.1.1.1.1) (flat_given_paper (too_large h.0 h.1.0)),
  ) where
    by : {p : Paper} → FlatPaper from g table start work room p → p.number ≡ 15
        → (all_fit (length from) hs ≡ true) × (¬ (GroupWithin g) × ((p.a ≡ 0) × ((p.b ≡ 0) × (p.c ≡ 0))))
    by (no_handle q) k = absurd (omega arith)
    by (too_large q wrong) k = (q, (wrong, (refl, (refl, refl))))
    by (many q L h) k = absurd (omega arith)
    by (short q L few lacks) k = absurd (omega arith)
    by (unread R U) k = absurd (omega arith)
    by (fault R F A) k = absurd (omega (arith, (fault_numbers F).1))
    by (taken R T) k = absurd (omega arith)

  -- 1, "more than 8 generators", with the count.
  pub flat_1 : (a b c : ℕ) → paper_of (flat from g table start work room) ≡ paper 1 a b c
      ↔ ((all_fit (length from) (handles g) ≡ true) × (GroupWithin g × ((8 < generators_of (handles g)) × ((a ≡ generators_of (handles g)) × ((b ≡ 0) × (c ≡ 0))))))
  flat_1 a b c = (
    λ q. by ((flat_answers (paper 1 a b c)).0 q) refl,
    λ h. rw (h.1.1.1.0, h.1.1.1.1.0, h.1.1.1.1.1) (flat_given_paper (many h.0 h.1.0 h.1.1.0)),
  ) where
    by : {p : Paper} → FlatPaper from g table start work room p → p.number ≡ 1
        → (all_fit (length from) hs ≡ true) × (GroupWithin g × ((8 < generators_of hs) × ((p.a ≡ generators_of hs) × ((p.b ≡ 0) × (p.c ≡ 0)))))
    by (no_handle q) k = absurd (omega arith)
    by (too_large q wrong) k = absurd (omega arith)
    by (many q L h) k = (q, (L, (h, (refl, (refl, refl)))))
    by (short q L few lacks) k = absurd (omega arith)
    by (unread R U) k = absurd (omega arith)
    by (fault R F A) k = absurd (omega (arith, (fault_numbers F).0))
    by (taken R T) k = absurd (omega arith)

  -- 4, "room 0 or above 65,535, or a lent buffer short".
  pub flat_4 : (a b c : ℕ) → paper_of (flat from g table start work room) ≡ paper 4 a b c
      ↔ ((all_fit (length from) (handles g) ≡ true) × (GroupWithin g × ((generators_of (handles g) ≤ 8)
      × (¬ (EnoughLent table start work (generators_of (handles g)) room) × ((a ≡ 0) × ((b ≡ 0) × (c ≡ 0)))))))
  flat_4 a b c = (
    λ q. by ((flat_answers (paper 4 a b c)).0 q) refl,
    λ h. rw (h.1.1.1.1.0, h.1.1.1.1.1.0, h.1.1.1.1.1.1) (flat_given_paper (short h.0 h.1.0 h.1.1.0 h.1.1.1.0)),
  ) where
    by : {p : Paper} → FlatPaper from g table start work room p → p.number ≡ 4
        → (all_fit (length from) hs ≡ true) × (GroupWithin g × ((generators_of hs ≤ 8)
        × (¬ (EnoughLent table start work (generators_of hs) room) × ((p.a ≡ 0) × ((p.b ≡ 0) × (p.c ≡ 0))))))
    by (no_handle q) k = absurd (omega arith)
    by (too_large q wrong) k = absurd (omega arith)
    by (many q L h) k = absurd (omega arith)
    by (short q L few lacks) k = (q, (L, (few, (lacks, (refl, (refl, refl))))))
    by (unread R U) k = absurd (omega arith)
    by (fault R F A) k = absurd (omega (arith, (fault_numbers F).0))
    by (taken R T) k = absurd (omega arith)

  -- Accepted exactly when the arguments are right and some group has the steps that are read, by the numbering rule, within the room.
  pub flat_accepted : (a b c : ℕ) → paper_of (flat from g table start work room) ≡ paper 0 a b c
      ↔ (FlatRight from g table start work room × (((N : ℕ) × Taken (step_number from (handles g)) (generators_of (handles g)) room N) × ((a ≡ 0) × ((b ≡ 0) × (c ≡ 0)))))
  flat_accepted a b c = (
    λ q. by ((flat_answers (paper 0 a b c)).0 q) refl,
    λ h. rw (h.1.1.0, h.1.1.1.0, h.1.1.1.1) (flat_given_paper (taken h.0 h.1.0.1)),
  ) where
    by : {p : Paper} → FlatPaper from g table start work room p → p.number ≡ 0
        → FlatRight from g table start work room × (((N : ℕ) × Taken (step_number from hs) (generators_of hs) room N) × ((p.a ≡ 0) × ((p.b ≡ 0) × (p.c ≡ 0))))
    by (no_handle q) k = absurd (omega arith)
    by (too_large q wrong) k = absurd (omega arith)
    by (many q L h) k = absurd (omega arith)
    by (short q L few lacks) k = absurd (omega arith)
    by (unread R U) k = absurd (omega arith)
    by (fault R F A) k = absurd (omega (arith, (fault_numbers F).0))
    by (taken {N} R T) k = (R, ((N, T), (refl, (refl, refl))))
