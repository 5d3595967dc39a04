-- A finished run is accepted exactly when no two of its words and no two generators are equal under the relations. What is here is of the machine alone; that it is so
-- for every finished run comes from the theory of the groups of pair orders (`enumeration_done` of `promises_enumeration`).
use Prim.Native.Nat.{ℕ, zero, suc, ◌+◌, ◌*◌, ◌<◌, ◌≤◌}
use mathlib.Core.Path.{◌≡◌, refl, sym, ap, ◌∙◌, subst}
use mathlib.Core.Logic.{◌↔◌, ⊎_elim}
use mathlib.Core.Bool.{true}
use mathlib.Core.List.{List, [], ◌∷◌, ◌++◌, append-nil}
use native.Mathlib.Nat.{le_refl, mul-le-mul}
use native.Mathlib.Decide.{ℕ_discrete}
use native.Mathlib.Omega.{arith}
use lib.ListN.{length, get_or}
use Rattle.theory.specs.Table.{Table, Columns}
use Rattle.theory.specs.Words.{empty, letter, Spelled, Parents, Recorded}
use Rattle.theory.specs.Group.{RightRegular}
use Rattle.theory.specs.Presentation.{order_of, Relator, Equiv, insert, same, turn, join, Holds, Derived}
use Rattle.theory.proofs.BoundedTests.{below_suc}
use Rattle.theory.proofs.Walking.{walk_closed, walk_agree}
use Rattle.theory.proofs.AnyCarrier.{any_carrier}
use Rattle.theory.proofs.ColumnLaws.{columns_by_back}
use Rattle.theory.proofs.Recording.{recorded_spelled}
use Rattle.theory.proofs.Relations.{relator_word}
use Rattle.theory.proofs.Presented.{derived_walk, presented, presented_some_group}
use Rattle.egg.specs.declared.Factor.{Factor}
use Rattle.egg.specs.Answers.{fine}
use Rattle.std.specs.Prelude.{Ok}
use Rattle.egg.specs.Table.{start_of, parent_of, last_of, step_of, back_of}
use Rattle.egg.specs.Pairs.{orders_right}
use Rattle.build_word_cells.specs.Hops.{with_hops}
use Rattle.build_lending.specs.Finish.{built, zeroed}
use Rattle.build_lending.specs.Lending.{table_need, work_need, lent_right, within, making, lent_back}
use Rattle.enumeration_run.specs.Run.{enumerated}
use Rattle.enumeration_run.specs.declared.inner.Ran.TheVariants as ran
use Rattle.enumeration.specs.Calls.{enumerated_in, enumerates}
use Rattle.build_checks_laws.specs.Stored.{StoredTable}
use Rattle.build_checks_laws.proofs.Inverses.{kept_same}
use Rattle.build_checks_laws.proofs.Complete.{checks_complete}
use Rattle.factor_relations_laws.proofs.Relators.{orders_long, relations_exact, relations_identity}
use Rattle.enumeration_run.specs.Limits.{Limits}
use Rattle.enumeration_run_laws.specs.Recorded as run
use Rattle.build_laws.proofs.Settled.{settle, settled_kept, settled_sound}
use Rattle.build_laws.proofs.Lent.{handle, by_build}
use Rattle.enumeration.proofs.Handle.{enumerates_is_build}
use Rattle.enumeration.proofs.Calls.{limits}
use Rattle.promises.proofs.Derived.{enumerated_related, enumerated_steps, steps_enumerated, word_same}
use Rattle.theory.specs.Past.{Past, start, old, new, next_row}
use Rattle.theory.proofs.Parity.{equiv_parity}
use Rattle.enumeration_run_laws.specs.Going.{Finished}
use Rattle.enumeration_run_laws.proofs.Going.{done_finished}
use Rattle.promises.specs.NoneTwice.{NoneTwice}

-- The first row: each generator made an element, in order.
record FirstRow (word : ℕ → List ℕ) (n x g c : ℕ) : Type 0 where
  words : (h : ℕ) → h < n → (x ≡ 0 → h < g) → word (suc h) ≡ h ∷ []
  small : (h : ℕ) → h < n → (x ≡ 0 → h < g) → suc h < c
  count : x ≡ 0 → c ≡ suc g

module _ {n : ℕ} {m : ℕ → ℕ → ℕ} (word : ℕ → List ℕ) (empty-word : word 0 ≡ []) (apart : (g h : ℕ) → g < n → h < n → Equiv n m (g ∷ []) (h ∷ []) → g ≡ h) where
  -- No generator is the identity, or an earlier one.
  not_old : (g r c : ℕ) → g < n → c ≡ suc g → ((h : ℕ) → h < g → word (suc h) ≡ h ∷ []) → r < c → Equiv n m (word 0 ++ g ∷ []) (word r) → ⊥
  not_old g zero c hg is words hr q =
      let p = equiv_parity q in
      let a : length (word 0 ++ g ∷ []) ≡ 1 = rw empty-word in
      let b : length (word 0) ≡ 0 = rw empty-word in
      let z : ◌≡◌ {A = ℕ} 1 0 = rw (a, b) at p in
      omega arith
  not_old g (suc h) c hg is words hr q =
      let e : Equiv n m (g ∷ []) (h ∷ []) = rw (empty-word, words h (omega arith)) at q in
      omega (arith, apart g h hg (omega arith) e)

  first_row : {x g c : ℕ} → Past n m word x g c → g ≤ n → FirstRow word n x g c
  first_row start h = record { words = λ h hh l. absurd (omega (arith, l refl)); small = λ h hh l. absurd (omega (arith, l refl)); count = λ z. refl }
  first_row (old {x} {g} {c} r p hx hg hr q) h = by (first_row p (omega arith)) (ℕ_discrete x 0) where
    by : FirstRow word n x g c → Dec (x ≡ 0) → FirstRow word n x (g + 1) c
    by F (yes z) = absurd (not_old g r c hg (F.count z) (λ k hk. F.words k (omega arith) (λ y. hk)) hr (rw z at q))
    by F (no d) = record {
      words = λ k hk l. F.words k hk (λ z. absurd (d z));
      small = λ k hk l. F.small k hk (λ z. absurd (d z));
      count = λ z. absurd (d z);
    }
  first_row (new {x} {g} {c} p hx hg q) h = by (first_row p (omega arith)) (ℕ_discrete x 0) where
    by : FirstRow word n x g c → Dec (x ≡ 0) → FirstRow word n x (g + 1) (c + 1)
    by F (yes z) = record {
      words = λ k hk l. ⊎_elim
          (λ e. rw e (ap word (sym (F.count z)) ∙ q ∙ ap (λ (u : ℕ). word u ++ g ∷ []) z ∙ ap (λ (u : List ℕ). u ++ g ∷ []) empty-word))
          (λ b. F.words k hk (λ y. b)) (below_suc (omega (arith, l z)));
      small = λ k hk l. omega (arith, l z, F.count z);
      count = λ y. omega (arith, F.count z);
    }
    by F (no d) = record {
      words = λ k hk l. F.words k hk (λ z. absurd (d z));
      small = λ k hk l. omega (arith, F.small k hk (λ z. absurd (d z)));
      count = λ z. absurd (d z);
    }
  first_row (next_row {x} {c} p hx) h =
      let F = first_row p (omega arith) in
      record { words = λ k hk l. F.words k hk (λ z. hk); small = λ k hk l. F.small k hk (λ z. hk); count = λ z. absurd (omega arith) }

-- A finished run in which nothing was made twice.
module _ {n : ℕ} {o : List ℕ} {room lt lw N : ℕ} {t w : List ℕ} (F : Finished n o room lt lw N t w) (D : NoneTwice n N (order_of o) F.run.word) where
  abbrev word : ℕ → List ℕ
  word = F.run.word

  abbrev m : ℕ → ℕ → ℕ
  m = order_of o

  stored : {e g : ℕ} → e < N → g < n → get_or t (start_of n e + g) 0 ≡ suc (step_of t n e g)
  stored {e} {g} he hg = omega (arith, F.seen e g he hg)

  stored_back : {e g : ℕ} → e < N → g < n → get_or t (start_of n e + n + g) 0 ≡ suc (back_of t n e g)
  stored_back {e} {g} he hg =
      let i : start_of n e + (n + g) ≡ start_of n e + n + g = omega arith in
      omega (arith, rw i at (F.backs e g he hg))

  table : Table n N (step_of t n)
  table = record { origin = F.run.some; closed = λ {e} {g} he hg. ((F.run.table.marks (start_of n e + g)).succ e g (step_of t n e g) hg refl (stored he hg)).to_below }

  derived : Derived n N m (step_of t n) word
  derived = record { derived = λ {e} {g} he hg. ((F.run.table.marks (start_of n e + g)).succ e g (step_of t n e g) hg refl (stored he hg)).leads }

  -- A step leads to the only element that it can.
  only : {e g r : ℕ} → e < N → g < n → r < N → Equiv n m (word e ++ g ∷ []) (word r) → step_of t n e g ≡ r
  only he hg hr q = D.elements (table.closed he hg) hr (join (turn (derived.derived he hg)) q)

  parents : Parents n N (step_of t n) (parent_of t n) (last_of t n)
  parents = record {
    earlier = λ {e} pos he. F.run.table.words.earlier e pos he;
    generator = λ {e} pos he. F.run.table.words.generator e pos he;
    arrives = λ {e} pos he.
        let p = F.run.table.words.earlier e pos he in
        only (omega arith) (F.run.table.words.generator e pos he) he (subst (Equiv n m (word (parent_of t n e) ++ last_of t n e ∷ [])) (sym (F.run.table.words.grow e pos he)) same);
  }

  recorded : Recorded N (parent_of t n) (last_of t n) word
  recorded = record { start = F.run.table.words.start; grow = λ {e} pos he. F.run.table.words.grow e pos he }

  spelled : Spelled n N (step_of t n) word
  spelled = recorded_spelled parents recorded

  columns : Columns n N (step_of t n) (back_of t n)
  columns = columns_by_back table (λ e g he hg.
      let s = (F.run.table.marks (start_of n e + n + g)).back e g (back_of t n e g) hg refl (stored_back he hg) in
      (s.from_below, only s.from_below hg he s.leads))

  holds : Holds n N m (step_of t n)
  holds = record { holds = λ {e} {r} he R. sym (D.elements he (walk_closed table he (relator_word R)) (join (around e r R) (derived_walk table derived he (relator_word R)))) } where
    around : (e : ℕ) (r : List ℕ) → Relator n m r → Equiv n m (word e) (word e ++ r)
    around e r R = simp append-nil at (insert (word e) [] R)

  kept : StoredTable t n N (step_of t n) (back_of t n) (parent_of t n) (last_of t n) word
  kept = record { successor = stored; predecessor = stored_back; parents = λ pos he. refl; letters = λ pos he. refl; lengths = λ {e} he. F.letters e he }

  identity_row_lem : (g : ℕ) → g < n → step_of t n 0 g ≡ suc g
  identity_row_lem g hg =
      let R = first_row word F.run.table.words.start (λ g h a b. D.generators a b) F.past (le_refl n) in
      let ahead : F.end ≡ 0 → g < n = λ z. hg in
      let q : word (suc g) ≡ word 0 ++ g ∷ [] = R.words g hg ahead ∙ ap (λ (u : List ℕ). u ++ g ∷ []) (sym F.run.table.words.start) in
      only F.run.some hg (R.small g hg ahead) (subst (Equiv n m (word 0 ++ g ∷ [])) (sym q) same)

  regular : RightRegular n N (step_of t n)
  regular = any_carrier.0 (presented_some_group table holds spelled derived)

pub none_twice_agree : {n N : ℕ} {m : ℕ → ℕ → ℕ} {word word' : ℕ → List ℕ} → NoneTwice n N m word → ((e : ℕ) → e < N → word' e ≡ word e) → NoneTwice n N m word'
none_twice_agree {n} {N} {m} {word} {word'} D agree = record {
  elements = λ {x} {y} hx hy q. D.elements hx hy (rw (agree x hx, agree y hy) at q);
  generators = λ hg hh q. D.generators hg hh q;
}

-- In a table that presents its group, no two words and no two generators are equal.
presented_none_twice : {n N : ℕ} {m step : ℕ → ℕ → ℕ} {word : ℕ → List ℕ} → Table n N step → Holds n N m step → Spelled n N step word → Derived n N m step word
    → ((g : ℕ) → g < n → step 0 g ≡ suc g) → NoneTwice n N m word
presented_none_twice T H S D first = record {
  elements = λ {x} {y} hx hy q. sym (S.spells hx) ∙ (presented T H S D (S.over hx) (S.over hy)).1 q ∙ S.spells hy;
  generators = λ {g} {h} hg hh q. omega (arith, (presented T H S D (letter hg empty) (letter hh empty)).1 q, first g hg, first h hh);
}

module _ (o : List ℕ) (n room lt lw : ℕ) (L : Limits n o room lt lw) (right : orders_right o n ≡ fine)
    {N : ℕ} (finish : (enumerated n o room lt lw).answer ≡ ran.Done N) where
  abbrev T : List ℕ
  T = (enumerated n o room lt lw).table

  abbrev W : List ℕ
  W = (enumerated n o room lt lw).work

  F : Finished n o room lt lw N T W
  F = done_finished L finish

  accepted_by : NoneTwice n N (order_of o) F.run.word → (t : List ℕ) × (w : List ℕ) × (enumerated_in lt lw o n room ≡ built (Ok N) t w)
  accepted_by D =
      let small : N ≤ 65535 = omega (arith, F.run.fits, L.limit) in
      let fits : N * (2 * n + 4) ≤ length T = omega (arith, F.run.table_length, L.table_room, mul-le-mul F.run.fits (le_refl (2 * n + 4))) in
      let work : 0 < n → N ≤ length W = λ pos.
      let one : 1 ≤ 6 * n * n + 4 * n = omega arith in
      omega (arith, F.run.fits, F.run.work_length, L.work_room, mul-le-mul (le_refl room) one) in
      let short : (e : ℕ) → e < N → length (F.run.word e) ≤ 4096 = λ e he. omega (arith, F.letters e he, F.short e he) in
      let C = checks_complete L.few small fits (kept F D) (table F D) (parents F D) (recorded F D) (columns F D) short W work (identity_row_lem F D) (regular F D) in
      let t = with_hops N C.0 n in
      let E = settle C.2 in
      let K = settled_kept T W E in
      let S = settled_sound T W E fits F.run.some small in
      let H : Holds n N (order_of o) (step_of t n) = record { holds = λ {e} he R. walk_agree (table F D) (λ x g _ hg. K.step_same x hg) he (relator_word R) ∙ (holds F D).holds he R } in
      let long = orders_long o n right in
      let fine = sym (relations_identity S L.few o long) ∙ (relations_exact S L.few o long).1 H in
      (t, zeroed C.1, steps_enumerated o n room lt lw L right finish refl refl E fine)

  none_twice_by : {t w : List ℕ} → enumerated_in lt lw o n room ≡ built (Ok N) t w → NoneTwice n N (order_of o) F.run.word
  none_twice_by {t} {w} q =
      let P = enumerated_steps o n room lt lw L right q in
      let R = enumerated_related o n room lt lw L right q in
      let K = settled_kept T W P.end in
      none_twice_agree (presented_none_twice R.sound.table R.holds R.sound.spelled R.derived (λ g hg. R.sound.identity_row_lem hg))
      (λ e he. sym (word_same F.run.table.words K e he))

  -- A finished run is accepted exactly when no two of the words that it records, and no two generators, are equal under the relations: so 9 to 13 could come
  -- after a finished run only if an element was made twice, or two generators were equal, and neither happens (`enumeration_done`).
  pub finished_exactly : ((t : List ℕ) × (w : List ℕ) × (enumerated_in lt lw o n room ≡ built (Ok N) t w)) ↔ NoneTwice n N (order_of o) (run.words n T)
  finished_exactly =
      let agree : (e : ℕ) → e < N → run.words n T e ≡ F.run.word e = λ e he. word_same F.run.table.words (kept_same {N = N}) e he in (
        λ a. none_twice_agree (none_twice_by a.2) agree,
        λ D. accepted_by (none_twice_agree D (λ e he. sym (agree e he))),
      )

-- The call: with right arguments it is accepted exactly when its run is done and no two of the words that it records, and no two generators, are equal.
module _ (table : List ℕ) (start : ℕ) (work orders : List ℕ) (n room : ℕ) (hn : n ≤ 8) (right : orders_right orders n ≡ fine)
    (lent : lent_right (length table) start (length work) room n ≡ true) where
  pub enumeration_exactly : ((f : Factor) × (t : List ℕ) × (w : List ℕ)
      × (enumerates table start work orders n room ≡ making (Ok f) t w))
      ↔ ((N : ℕ) × ((enumerated n orders room (table_need n room) (work_need n room)).answer ≡ ran.Done N)
      × NoneTwice n N (order_of orders) (run.words n (enumerated n orders room (table_need n room) (work_need n room)).table))
  enumeration_exactly =
      let L = limits table start work orders n room hn right lent in
      let is = enumerates_is_build table start work orders n room hn right lent in (
        λ a.
            let b = by_build table start work n room (enumerated_in (table_need n room) (work_need n room) orders n room) (sym is ∙ a.3) in
            let finish = (enumerated_steps orders n room (table_need n room) (work_need n room) L right b.3.0).finish in
            (b.0, finish, (finished_exactly orders n room (table_need n room) (work_need n room) L right finish).0 (b.1, b.2, b.3.0)),
        λ d.
            let c = (finished_exactly orders n room (table_need n room) (work_need n room) L right d.1).1 d.2 in (
              handle start n room d.0,
              within table start (start + table_need n room) c.0,
              within work 0 (work_need n room) c.1,
              is ∙ ap (lent_back table start work n room) c.2,
            ),
      )
