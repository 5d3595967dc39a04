-- An enumeration's build in its stretches: the run is derivable, the checks make it a group's table, and 13 at the identity is 13 everywhere.
use Prim.Native.Nat.{ℕ, zero, suc, ◌+◌, ◌*◌, ◌/◌, ◌%◌, ◌≤◌, ◌<◌}
use mathlib.Core.Path.{◌≡◌, refl, ap, ◌∙◌}
use mathlib.Core.List.{List}
use native.Mathlib.Nat.{mul-le-mul, le_refl, div-add-mod', mod-lt, le-div_iff_mul-le}
use native.Mathlib.Omega.{arith}
use lib.ListN.{length, get_or, replicate}
use Rattle.egg.specs.Answers.{fine}
use Rattle.std.specs.Prelude.{Ok}
use Rattle.egg.specs.Table.{start_of, step_of}
use Rattle.egg.specs.Pairs.{orders_right}
use Rattle.build_word_cells.specs.Hops.{Hops}
use Rattle.build_checks.specs.Checks.{check_group}
use Rattle.build_lending.specs.Finish.{built, finished}
use Rattle.factor_relations.specs.Relations.{relations_row, relations}
use Rattle.enumeration_run.specs.declared.inner.Ran.TheVariants as ran
use Rattle.enumeration_run.specs.Run.{enumerated}
use Rattle.enumeration.specs.Calls.{ran_count, enumerated_in}
use Rattle.theory.specs.Words.{trace}
use Rattle.theory.specs.Presentation.{order_of, Holds, Derived}
use Rattle.theory.proofs.Pasts.{past_agree, past_numbered, past_appearance}
use Rattle.build_checks_laws.specs.Stored.{Kept, word_of}
use Rattle.build_checks_laws.specs.Sound.{Sound, Ruled}
use Rattle.build_checks_laws.proofs.Inverses.{kept_cell}
use Rattle.build_checks_laws.proofs.Ruling.{ruled}
use Rattle.factor_relations_laws.proofs.Relators.{orders_long, relations_exact, relations_first}
use Rattle.enumeration_run_laws.specs.Invariant.{RecordsWords}
use Rattle.enumeration_run.specs.Limits.{Limits}
use Rattle.enumeration_run_laws.specs.Recorded as run
use Rattle.enumeration_run_laws.proofs.Derivation.{words_traced, work_long, done_sound, sound_derived}
use Rattle.enumeration_run_laws.proofs.Going.{done_finished}
use Rattle.build_laws.proofs.Settled.{Settled, by_count, settled_kept, settled_work, settled_sound, settled_hops}
use Rattle.enumeration.proofs.Calls.{by_relations}
use Rattle.enumeration.proofs.Handle.{done}
use Rattle.build_laws.proofs.Built.{below_cells}

-- Words recorded alike are the same.
trace_same : {p p' l l' : ℕ → ℕ} → ((x : ℕ) → p x ≡ p' x) → ((x : ℕ) → l x ≡ l' x) → (k e : ℕ) → trace p l k e ≡ trace p' l' k e
trace_same a b zero e = refl
trace_same a b (suc k) zero = refl
trace_same {p' = p'} a b (suc k) (suc e) = rw (a (suc e), b (suc e), trace_same a b k (p' (suc e)))

-- The words of a run are those that its table records, before and after the checks.
pub word_same : {n : ℕ} {word : ℕ → List ℕ} {count : ℕ} {t t' : List ℕ} {N : ℕ} → RecordsWords n word count t → Kept t t' n N → (x : ℕ) → x < count → word_of t' n x ≡ word x
word_same W K x h = trace_same K.parent_same K.last_same x x ∙ words_traced W x h

module _ (o : List ℕ) (n room lt lw : ℕ) (L : Limits n o room lt lw) (right : orders_right o n ≡ fine) where
  -- Rows from N on are zero, so every number from there on is.
  blank_beyond : {N : ℕ} {t : List ℕ} → run.FromOrders n o room lt N t → (i : ℕ) → N * (2 * n + 4) ≤ i → get_or t i 0 ≡ 0
  unfolding start_of
  blank_beyond {N} {t} D i h =
      let pos : 0 < 2 * n + 4 = omega arith in
      rw (div-add-mod' i (2 * n + 4)) at (D.blank (i / (2 * n + 4)) (i % (2 * n + 4)) ((le-div_iff_mul-le pos).1 h) (mod-lt i pos))

  -- How an enumeration was accepted: the run was done, 8 to 12 passed, and 13 at the identity.
  pub record Steps (N : ℕ) (t w : List ℕ) : Type 0 where
    pub finish : (enumerated n o room lt lw).answer ≡ ran.Done N
    pub end : Settled n N (check_group (enumerated n o room lt lw).table (enumerated n o room lt lw).work n N) t w
    pub identity : relations_row t n N o 0 ≡ fine

  pub enumerated_steps : {N : ℕ} {t w : List ℕ} → enumerated_in lt lw o n room ≡ built (Ok N) t w → Steps N t w
  unfolding enumerated_in
  enumerated_steps q =
      let a = by_relations n o (finished (ran_count (enumerated n o room lt lw).answer) n (enumerated n o room lt lw).table (enumerated n o room lt lw).work) q in
      let b = by_count (ran_count (enumerated n o room lt lw).answer) n (enumerated n o room lt lw).table (enumerated n o room lt lw).work a.0 in
      record {
        finish = done L (enumerated n o room lt lw).answer refl b.0;
        end = b.1;
        identity = a.1;
      }

  -- And the other way round.
  pub steps_enumerated : {N : ℕ} {t₀ w₀ t w : List ℕ} → (enumerated n o room lt lw).answer ≡ ran.Done N → (enumerated n o room lt lw).table ≡ t₀
      → (enumerated n o room lt lw).work ≡ w₀ → Settled n N (check_group t₀ w₀ n N) t w → relations_row t n N o 0 ≡ fine → enumerated_in lt lw o n room ≡ built (Ok N) t w
  unfolding enumerated_in finished
  steps_enumerated a b c E e = rw (a, b, c, E.checks, ← E.lettered, e, E.wiped)

  -- The stretch of an accepted enumeration.
  pub record Related (N : ℕ) (t w : List ℕ) : Type 0 where
    pub sound : Sound t n N
    pub ruled : Ruled t n N
    pub hops : Hops t n N
    pub within_room : N ≤ room
    pub size_kept : length t ≡ lt
    pub derived : Derived n N (order_of o) (step_of t n) (word_of t n)
    pub all_related : relations t n N o ≡ fine
    pub holds : Holds n N (order_of o) (step_of t n)
    pub beyond : {i : ℕ} → N * (2 * n + 4) ≤ i → get_or t i 0 ≡ 0
    pub work_zero : w ≡ replicate lw 0

  pub enumerated_related : {N : ℕ} {t w : List ℕ} → enumerated_in lt lw o n room ≡ built (Ok N) t w → Related N t w
  enumerated_related {N} {t} {w} q =
      let t₀ = (enumerated n o room lt lw).table in
      let w₀ = (enumerated n o room lt lw).work in
      let P = enumerated_steps q in
      let D = done_sound L P.finish in
      let K = settled_kept t₀ w₀ P.end in
      let small : N ≤ 65535 = omega (arith, D.fits, L.limit) in
      let fits : N * (2 * n + 4) ≤ length t₀ = omega (arith, D.whole, L.table_room, mul-le-mul D.fits (le_refl (2 * n + 4))) in
      let S = settled_sound t₀ w₀ P.end fits D.some small in
      let known : (e g : ℕ) → e < N → g < n → get_or t₀ (start_of n e + g) 0 ≡ 0 → ⊥ = λ e g he hg z.
      omega (arith, S.stored.successor he hg, kept_cell K (start_of n e + g) e g (omega arith) refl) in
      let same : (e : ℕ) → word_of t n e ≡ run.words n t₀ e = λ e. trace_same K.parent_same K.last_same e e in
      let m = relations_first S L.few o (orders_long o n right) P.identity in
      let d = sound_derived D known in
      let H = (relations_exact S L.few o (orders_long o n right)).0 m in
      let F = done_finished L P.finish in
      let none = F.run.table.words.identity D.some in
      let past = past_agree F.past (word_same F.run.table.words K) in
      record {
        sound = S;
        ruled = ruled S (past_numbered S.table S.spelled H F.end F.last_row past) (past_appearance S.table S.spelled H S.parents S.recorded past)
            (K.parent_same 0 ∙ none.0) (K.last_same 0 ∙ none.1);
        hops = settled_hops t₀ w₀ P.end fits;
        within_room = D.fits;
        size_kept = K.size ∙ D.whole;
        derived = record { derived = λ {e} {g} he hg. rw (K.step_same e hg, same e, same (step_of t₀ n e g)) (d.derived he hg) };
        all_related = m;
        holds = H;
        beyond = λ {i} h. K.other i (λ e he. below_cells n N e he i h) ∙ blank_beyond D i h;
        work_zero = settled_work t₀ w₀ P.end ∙ ap (λ (k : ℕ). replicate k 0) (work_long L P.finish);
      }
