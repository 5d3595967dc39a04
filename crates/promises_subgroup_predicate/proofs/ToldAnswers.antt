-- `from_predicate` over factors that are not altered answers a number with its places exactly in the case that is set out for it. The choosing ends in one of
-- the ways, and in one only: what is chosen below x are the first of those that are chosen below a later one.
use Prim.Native.Nat.{ℕ, ◌+◌, ◌*◌, ◌≤◌, ◌<◌}
use mathlib.Core.Path.{◌≡◌, refl, sym, ap, ◌∙◌, subst}
use mathlib.Core.Logic.{◌↔◌, ◌⊎◌, inl, inr}
use mathlib.Core.Bool.{Bool, true, false, ◌&&◌}
use mathlib.Core.List.{List, [], ◌∷◌}
use native.Mathlib.Nat.{le_refl}
use native.Mathlib.Decide.{dec_lt}
use native.Mathlib.Omega.{arith}
use borrow.Author.Tests.{le-leb, leb-true}
use lib.Dec.{leb}
use lib.ListN.{length, get_or, take, replicate, length-replicate}
use lib.Seq.{take_all}
use Rattle.egg.specs.declared.Refusal.{Refusal}
use Rattle.egg.specs.Answers.{Counted, Reached, Verdict, fine}
use Rattle.std.specs.Prelude.{Ok, Err}
use Rattle.egg.specs.Factor.{Paper, verdict_paper}
use Rattle.egg.proofs.Rooms.{false_true, and_first, and_second}
use Rattle.egg.specs.Answers.{numbered}
use Rattle.build_lending.specs.Finish.{built, zeroed}
use Rattle.build_lending.specs.Lending.{table_need, work_need}
use Rattle.theory.specs.Group.{GroupOn}
use Rattle.build_checks_laws.specs.Numbers.{RefusalIn}
use Rattle.build_reading_laws.specs.Read.{ReadingRefused}
use Rattle.build_reading_laws.proofs.Readings.{refuses_refused}
use Rattle.group_handles.specs.declared.Group.{Group}
use Rattle.group_handles.specs.Handles.{handles, elements_of, all_fit}
use Rattle.group_digits.specs.Digits.{composes}
use Rattle.promises_group.specs.Products.{AllAccepted, direct}
use Rattle.build_numbering.specs.Build.{Renumbering, renumbering}
use Rattle.theory.specs.Orbit.{numbered_step}
use Rattle.theory.specs.Subgroup.{right_by, FirstIdentity, FirstRepeat, Proper}
use Rattle.build_laws.proofs.Twelve.{refused_reading}
use Rattle.build_numbering_laws.proofs.Order.{appearing}
use Rattle.theory.proofs.Subgroups.{right_inside}
use Rattle.build_numbering_laws.proofs.Numberings.{refused_5_or_6}
use Rattle.build_numbering_laws.proofs.Chosen.{chosen_proper, orbit_more}
use Rattle.build_numbering_laws.proofs.Builds.{same_refusal, not_refused, renumber_built}
use Rattle.build_numbering_laws.proofs.SubgroupBuilds.{with_maps, subgroup_refused}
use Rattle.subgroup_build.specs.Lent.{maps_right}
use Rattle.subgroup_build.specs.Generated.{small_enough}
use Rattle.subgroup_predicate_choices.specs.Choices.{Picked, picked, again_in}
use Rattle.subgroup_predicate.specs.Predicate.{predicate_in, admits_over, told_back, from_predicate}
use Rattle.promises_subgroup_predicate.specs.Predicate.{Reach, Chosen, Ends, accepted, refused, too_many}
use Rattle.promises_subgroup_predicate.specs.Tellable.{Buildable, Tellable}
use Rattle.promises_subgroup_predicate.specs.Tells.{Predicated}
use Rattle.promises_subgroup.specs.Answers.{subgroup_paper, Numberable}
use Rattle.promises_subgroup_predicate.specs.ToldAnswers.{Stopping, Way, told, stops, ninth, EnoughWithBytes, PredicatePaper, no_handle, too_large, short, chosen}
use Rattle.promises_subgroup_predicate.proofs.Telling.{eight_rows, eight_work, answering, again_faithful, predicate_ends}
use Rattle.promises_subgroup_predicate.proofs.Firsts.{first_chosen, each_of, each_before}
use Rattle.promises_subgroup_predicate.proofs.ToldExactly.{asks, suffices}
use Rattle.promises_subgroup_predicate.proofs.ToldCalls as told-calls
use Rattle.promises_subgroup.proofs.Answers.{small_true, true_small, not_small, enough_true, true_enough}

-- The verdict of what was picked.
abbrev counted_verdict : Counted → Verdict
counted_verdict (Ok c) = fine
counted_verdict (Err r) = Err r

abbrev picked_verdict : Picked → Verdict
picked_verdict (picked gens (renumbering (built c t w) i o)) = counted_verdict c

five_or_six : {n : ℕ} {r : Refusal} → (e : ℕ) × (g : ℕ) × (g < n) × ((r ≡ numbered 5 e g 0) ⊎ (r ≡ numbered 6 e g 0)) → RefusalIn (5 ∷ 6 ∷ []) r
five_or_six (e, g, h, inl q) = rw q
five_or_six (e, g, h, inr q) = rw q

module _ {M : ℕ} {op : ℕ → ℕ → ℕ} {inv : ℕ → ℕ} (G : GroupOn M op inv) (small : M ≤ 4294967295) (source : ℕ → ℕ → Reached)
    (answers : (y x : ℕ) → y < M → x < M → source y x ≡ Ok (record { 0 = op y x }))
    (room K : ℕ) (lo : 1 ≤ room) (hi : room ≤ 65535) (lent : room ≤ K) (size L : ℕ) (fits : room * (2 * 8 + 4) ≤ size)
    (work : room * (6 * 8 * 8 + 4 * 8) ≤ L) (byte : ℕ → ℕ) where
  module _ (x : ℕ) (gens : List ℕ) (h : x ≤ M) (C : Chosen op byte x gens) where
    below : (g : ℕ) → g < length gens → get_or gens g 0 < M
    below g k = omega (arith, C.before k)

    proper : Proper (length gens) (λ g. get_or gens g 0)
    proper = chosen_proper G below (λ g k. C.outside k)

    module _ (w : List ℕ) (l : length w ≡ L) where
      enough : room * (6 * length gens * length gens + 4 * length gens) ≤ length w
      enough = eight_work (length gens) room (length w) C.few (rw l work)

      -- A build that is refused stops in its numbering, and what stops is refused.
      stops_asked : {f : Refusal} {t w₁ i o : List ℕ} → again_in size source room M K gens w ≡ renumbering (built (Err f) t w₁) i o → Stopping op M room gens f
      stops_asked {f} z =
          by (subgroup_refused G below (appearing (right_inside G below)).2 small (λ y g. source y (get_or gens g 0))
          (answering G small source answers room K lo hi lent size L fits work gens C.few below) room K lo hi lent size w C.few
          (eight_rows (length gens) room size C.few fits) enough z)
        where
          by : ReadingRefused (numbered_step (appearing (right_inside G below)).0 (appearing (right_inside G below)).1 (right_by op (λ g. get_or gens g 0))) (length gens) room f
              ⊎ (((g : ℕ) × FirstIdentity (length gens) (λ g. get_or gens g 0) g × (f ≡ numbered 9 0 g 0))
              ⊎ ((g : ℕ) × FirstRepeat (length gens) (λ g. get_or gens g 0) g × (f ≡ numbered 11 g 0 0)))
              → Stopping op M room gens f
          by (inl R) = record {
            count = (appearing (right_inside G below)).0;
            elt = (appearing (right_inside G below)).1;
            appearing = (appearing (right_inside G below)).2;
            refuses = R;
            number = five_or_six (refused_5_or_6 (appearing (right_inside G below)).2 (right_inside G below) small (λ y g. source y (get_or gens g 0))
                (answering G small source answers room K lo hi lent size L fits work gens C.few below) room K lo hi lent R);
          }
          by (inr (inl (g, F, e))) = absurd (proper.moves F.place F.identity)
          by (inr (inr (g, F, e))) =
              let k : F.earlier ≡ g = proper.apart (omega (arith, F.sooner, F.place)) F.place F.same in
              absurd (omega (arith, F.sooner))

      stops_so : {f : Refusal} → Stopping op M room gens f
          → (t : List ℕ) × (w₁ : List ℕ) × (i : List ℕ) × (o : List ℕ) × (again_in size source room M K gens w ≡ renumbering (built (Err f) t w₁) i o)
      stops_so S =
          let P = refuses_refused (numbered_step S.count S.elt (right_by op (λ g. get_or gens g 0))) (length gens) room size C.few lo hi
          (eight_rows (length gens) room size C.few fits) S.refuses in
          let m = with_maps (again_in size source room M K gens w)
          (renumber_built S.appearing (right_inside G below) small (λ y g. source y (get_or gens g 0))
          (answering G small source answers room K lo hi lent size L fits work gens C.few below) room K lo hi lent size w C.few
          (eight_rows (length gens) room size C.few fits) enough ∙ refused_reading (length gens) w P.1) in
          (zeroed P.0, zeroed w, m.0, m.1, m.2)

    -- So no list that can be built stops, and none stops in two ways.
    abbrev some_work : List ℕ
    some_work = replicate L 0

    some_long : length (replicate {A = ℕ} L 0) ≡ L
    some_long = length-replicate {A = ℕ} L 0

    not_both : {f : Refusal} → Buildable op M room gens → Stopping op M room gens f → ⊥
    not_both B S =
        let c = suffices G small source answers room K lo hi lent size L fits work x gens some_work h C some_long B in
        not_refused (sym (stops_so some_work some_long S).4 ∙ c.is)

    stops_once : {f f' : Refusal} → Stopping op M room gens f → Stopping op M room gens f' → f ≡ f'
    stops_once S S' = same_refusal (sym (stops_so some_work some_long S).4 ∙ (stops_so some_work some_long S').4)

  -- Two ways are one.
  nine_out : {x y : ℕ} {gens : List ℕ} → Chosen op byte x gens → Chosen op byte y gens → x < y → length gens ≡ 8 → ¬ (byte x ≡ 0) → ¬ Reach op gens 8 x → ⊥
  nine_out {x} {y} {gens} C D h e b n = by (D.complete h b) where
    by : ((g : ℕ) × (g < length gens) × (get_or gens g 0 ≡ x))
        ⊎ ((k : ℕ) × (k ≤ length gens) × (((g : ℕ) → g < k → get_or gens g 0 < x) × Reach op gens k x)) → ⊥
    by (inl (g, l, q)) = omega (arith, C.before l)
    by (inr (k, l, r)) = n (orbit_more {n = k} {m = 8} (omega arith) r.1)

  whole_list : {x y : ℕ} {gens gs : List ℕ} → Chosen op byte x gens → Chosen op byte y gs → x ≤ y → length gs ≤ length gens → gens ≡ gs
  whole_list {gens = gens} {gs} C D h l = (first_chosen C D h).1 ∙ take_all (length gens) gs l

  told_stops : {f : Refusal} → Tellable op byte M room → (x : ℕ) (gens : List ℕ) → x ≤ M → Chosen op byte x gens → Stopping op M room gens f → ⊥
  told_stops T x gens h C S =
      let A = first_chosen C T.chosen h in
      not_both x gens h C (subst (Buildable op M room) (sym A.1) (T.each (length gens) A.0)) S

  told_ninth : Tellable op byte M room → {x : ℕ} {gens : List ℕ} → x < M → Chosen op byte x gens → length gens ≡ 8 → ¬ (byte x ≡ 0) → ¬ Reach op gens 8 x → ⊥
  told_ninth T {x} {gens} h C e b n =
      let q = whole_list C T.chosen (omega arith) (omega (arith, T.chosen.few, e)) in
      nine_out C (subst (Chosen op byte M) (sym q) T.chosen) h e b n

  sooner : {f f' : Refusal} {x y : ℕ} {gens gs : List ℕ} → x ≤ y → x ≤ M → y ≤ M → Chosen op byte x gens → Chosen op byte y gs
      → ((k : ℕ) → k < length gs → Buildable op M room (take k gs)) → Stopping op M room gens f → Stopping op M room gs f' → f ≡ f'
  sooner {f} {f'} {x} {y} {gens} {gs} l hx hy C D each S S' = by (dec_lt (length gens) (length gs)) where
    by : Dec (length gens < length gs) → f ≡ f'
    by (yes d) = absurd (not_both x gens hx C (subst (Buildable op M room) (sym (first_chosen C D l).1) (each (length gens) d)) S)
    by (no d) = stops_once y gs hy D (subst (λ (g : List ℕ). Stopping op M room g f) (whole_list C D l (omega arith)) S) S'

  stops_ninth : {f : Refusal} {x y : ℕ} {gens gs : List ℕ} → x ≤ M → y < M → Chosen op byte x gens → Chosen op byte y gs → Stopping op M room gens f
      → ((k : ℕ) → k ≤ length gs → Buildable op M room (take k gs)) → length gs ≡ 8 → ¬ (byte y ≡ 0) → ¬ Reach op gs 8 y → ⊥
  stops_ninth {x = x} {y} {gens} {gs} hx hy C D S each e b n = by (dec_lt y x) where
    by : Dec (y < x) → ⊥
    by (yes d) =
        let q = whole_list D C (omega arith) (omega (arith, C.few, e)) in
        nine_out D (subst (Chosen op byte x) (sym q) C) d e b n
    by (no d) =
        let A = first_chosen C D (omega arith) in
        not_both x gens hx C (subst (Buildable op M room) (sym A.1) (each (length gens) A.0)) S

  pub one_way : {v v' : Verdict} → Way op byte M room v → Way op byte M room v' → v ≡ v'
  one_way (told T) (told T') = refl
  one_way (told T) (stops x gens h C each S) = absurd (told_stops T x gens h C S)
  one_way (told T) (ninth x gens h C each e b n) = absurd (told_ninth T h C e b n)
  one_way (stops x gens h C each S) (told T) = absurd (told_stops T x gens h C S)
  one_way (stops {r} x gens h C each S) (stops {r = r'} y gs k D each' S') = by (dec_lt x y) where
    by : Dec (x < y) → ◌≡◌ {A = Verdict} (Err r) (Err r')
    by (yes d) = ap Err (sooner (omega arith) h k C D each' S S')
    by (no d) = ap Err (sym (sooner (omega arith) k h D C each S' S))
  one_way (stops x gens h C each S) (ninth y gs k D each' e b n) = absurd (stops_ninth h k C D S each' e b n)
  one_way (ninth x gens h C each e b n) (told T) = absurd (told_ninth T h C e b n)
  one_way (ninth x gens h C each e b n) (stops y gs k D each' S) = absurd (stops_ninth k h D C S each e b n)
  one_way (ninth x gens h C each e b n) (ninth y gs k D each' e' b' n') = refl

  -- And it ends in one.
  pub some_way : (w : List ℕ) → length w ≡ L → Way op byte M room (picked_verdict (predicate_in size w source room M K byte))
  some_way w l = go (predicate_in size w source room M K byte) refl (predicate_ends G small source answers room K lo hi lent size L fits work byte w l) where
    before : (gs : List ℕ) {r : Renumbering} → predicate_in size w source room M K byte ≡ picked gs r → (j : ℕ) → j < length gs → Buildable op M room (take j gs)
    before gs q =
        each_before {byte = byte} (again_faithful G small source answers room K lo hi lent size L fits work) (Buildable op M room)
        (λ x g v. asks G small source answers room K lo hi lent size L fits work x g v) (λ x g v. suffices G small source answers room K lo hi lent size L fits work x g v) w gs l q

    each_all : (gs : List ℕ) {r : Renumbering} → predicate_in size w source room M K byte ≡ picked gs r → Buildable op M room gs
        → (j : ℕ) → j ≤ length gs → Buildable op M room (take j gs)
    each_all gs q b =
        each_of {byte = byte} (again_faithful G small source answers room K lo hi lent size L fits work) (Buildable op M room)
        (λ x g v. asks G small source answers room K lo hi lent size L fits work x g v) (λ x g v. suffices G small source answers room K lo hi lent size L fits work x g v)
        gs b (before gs q)

    go : (p : Picked) → predicate_in size w source room M K byte ≡ p → Ends op byte M L (again_in size source room M K) p → Way op byte M room (picked_verdict p)
    go p q (refused {gens} x w₀ h m C z) = stops x gens h C (before gens q) (stops_asked x gens h C w₀ m z)
    go p q (accepted {gens} {c} {t} {w = w₁} {inn = i} {outw = o} w₀ m C z) = told (record {
      gens = gens;
      chosen = C;
      each = each_all gens q (asks G small source answers room K lo hi lent size L fits work M gens w₀ (le_refl M) C m
          (record { count = c; table = t; work = w₁; inn = i; outw = o; is = z }));
    })
    go p q (too_many {gens} {c} {t} {w = w₁} {inn = i} {outw = o} x w₀ h m C e b n z) =
        ninth x gens h C (each_all gens q (asks G small source answers room K lo hi lent size L fits work x gens w₀ (omega arith) C m
        (record { count = c; table = t; work = w₁; inn = i; outw = o; is = z }))) e b n

-- The call.
told_paper : (over : Group) (table : List ℕ) (start : ℕ) (work inn outw : List ℕ) (M room : ℕ) (p : Picked)
    → subgroup_paper (told_back over table start work inn outw M room p) ≡ verdict_paper (picked_verdict p)
told_paper over table start work inn outw M room (picked gens (renumbering (built (Ok c) t w) i o)) = refl
told_paper over table start work inn outw M room (picked gens (renumbering (built (Err r) t w) i o)) = refl

module _ (from : List ℕ) (over : Group) (members table : List ℕ) (start : ℕ) (work inn outw : List ℕ) (room : ℕ)
    (unaltered : all_fit (length from) (handles over) ≡ true → AllAccepted from (handles over)) where
  abbrev among : ℕ
  among = elements_of (handles over)

  admits : all_fit (length from) (handles over) ≡ true → Numberable over → admits_over (length from) over ≡ fine
  unfolding admits_over
  admits f s = rw (f, small_true over s)

  admits_17 : all_fit (length from) (handles over) ≡ false → admits_over (length from) over ≡ Err (numbered 17 0 0 0)
  unfolding admits_over
  admits_17 f = rw f

  admits_15 : all_fit (length from) (handles over) ≡ true → small_enough over ≡ false → admits_over (length from) over ≡ Err (numbered 15 0 0 0)
  unfolding admits_over
  admits_15 f s = rw (f, s)

  abbrev right : Bool
  right = maps_right (length table) start (length work) (length inn) (length outw) room 8 among && leb among (length members)

  right_bytes : maps_right (length table) start (length work) (length inn) (length outw) room 8 (elements_of (handles over)) && leb (elements_of (handles over)) (length members) ≡ true
      → EnoughWithBytes over members table start work inn outw room
  right_bytes h = record {
    enough = true_enough over 8 table start work inn outw room (and_first _ _ h);
    bytes = leb-true _ _ (and_second (maps_right (length table) start (length work) (length inn) (length outw) room 8 among) _ h);
  }

  bytes_right : EnoughWithBytes over members table start work inn outw room
      → maps_right (length table) start (length work) (length inn) (length outw) room 8 (elements_of (handles over)) && leb (elements_of (handles over)) (length members) ≡ true
  bytes_right B = rw (enough_true over 8 table start work inn outw room (le_refl 8) B.enough, le-leb among (length members) B.bytes)

  not_right : ¬ (EnoughWithBytes over members table start work inn outw room)
      → maps_right (length table) start (length work) (length inn) (length outw) room 8 (elements_of (handles over)) && leb (elements_of (handles over)) (length members) ≡ false
  not_right h = by right refl where
    by : (b : Bool) → right ≡ b → b ≡ false
    by false q = refl
    by true q = absurd (h (right_bytes q))

  module _ (f : all_fit (length from) (handles over) ≡ true) (s : Numberable over) (B : EnoughWithBytes over members table start work inn outw room) where
    S : Predicated from over members table start work inn outw room
    S = record {
      fits = f;
      small = small_true over s;
      lent = enough_true over 8 table start work inn outw room (le_refl 8) B.enough;
      bytes = B.bytes;
    }

    As : AllAccepted from (handles over)
    As = unaltered f

    abbrev whole : Picked
    whole = predicate_in (table_need 8 room) (take (work_need 8 room) work) (composes from (handles over)) room among room (λ x. get_or members x 0)

    the_way : Way (direct from over).op (λ x. get_or members x 0) (elements_of (handles over)) room (picked_verdict whole)
    the_way =
        some_way (told-calls.G from over members table start work inn outw room S As) (told-calls.small from over members table start work inn outw room S)
        (composes from (handles over)) (told-calls.answers from over members table start work inn outw room S As) room room
        (told-calls.lo from over members table start work inn outw room S) (told-calls.hi from over members table start work inn outw room S) (le_refl room)
        (table_need 8 room) (length (take (work_need 8 room) work)) (le_refl (table_need 8 room)) (told-calls.work_fits from over members table start work inn outw room S)
        (λ x. get_or members x 0) (take (work_need 8 room) work) refl

    the_paper : subgroup_paper (from_predicate from over members table start work inn outw room) ≡ verdict_paper (picked_verdict whole)
    the_paper = ap subgroup_paper (told-calls.is_told from over members table start work inn outw room S) ∙ told_paper over table start work inn outw among room whole

    by_way : {v : Verdict} → Way (direct from over).op (λ x. get_or members x 0) (elements_of (handles over)) room v
        → subgroup_paper (from_predicate from over members table start work inn outw room) ≡ verdict_paper v
    by_way W =
        the_paper ∙ ap verdict_paper (one_way (told-calls.G from over members table start work inn outw room S As)
        (told-calls.small from over members table start work inn outw room S) (composes from (handles over))
        (told-calls.answers from over members table start work inn outw room S As) room room
        (told-calls.lo from over members table start work inn outw room S) (told-calls.hi from over members table start work inn outw room S) (le_refl room)
        (table_need 8 room) (length (take (work_need 8 room) work)) (le_refl (table_need 8 room)) (told-calls.work_fits from over members table start work inn outw room S)
        (λ x. get_or members x 0) the_way W)

  given : {p : Paper} → PredicatePaper from over members table start work inn outw room p → subgroup_paper (from_predicate from over members table start work inn outw room) ≡ p
  given (no_handle f) = ap subgroup_paper (told-calls.early_arguments from over members table start work inn outw room (admits_17 f))
  given (too_large f s) = ap subgroup_paper (told-calls.early_arguments from over members table start work inn outw room (admits_15 f (not_small over s)))
  given (short f s h) = ap subgroup_paper (told-calls.early_short from over members table start work inn outw room (admits f s) (not_right h))
  given (chosen f s B W) = by_way f s B W

  some_case : (p : Paper) × PredicatePaper from over members table start work inn outw room p
  some_case = by (all_fit (length from) (handles over)) (small_enough over) right refl refl refl where
    by : (a b c : Bool) → all_fit (length from) (handles over) ≡ a → small_enough over ≡ b → right ≡ c
        → (p : Paper) × PredicatePaper from over members table start work inn outw room p
    by false b c f s l = (_, no_handle f)
    by true false c f s l = (_, too_large f (λ x. false_true (sym s ∙ small_true over x)))
    by true true false f s l = (_, short f (true_small over s) (λ B. false_true (sym l ∙ bytes_right B)))
    by true true true f s l = (_, chosen f (true_small over s) (right_bytes l) (the_way f (true_small over s) (right_bytes l)))

  pub predicate_answers : (p : Paper)
      → subgroup_paper (from_predicate from over members table start work inn outw room) ≡ p ↔ PredicatePaper from over members table start work inn outw room p
  predicate_answers p = (
    λ q. subst (PredicatePaper from over members table start work inn outw room) (sym (given some_case.1) ∙ q) some_case.1,
    given,
  )
