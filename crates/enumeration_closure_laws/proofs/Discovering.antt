-- `Closed` holds again after a new element has been made, its rows have begun, and all facts have been taken.
use Prim.Native.Nat.{ℕ, ◌+◌, ◌*◌, ◌<◌, ◌≤◌}
use mathlib.Core.Path.{◌≡◌, refl, sym, ◌∙◌}
use mathlib.Core.Logic.{◌⊎◌, inl, inr, ⊎_elim}
use mathlib.Core.List.{List, [], ◌∷◌}
use native.Mathlib.Decide.{ℕ_discrete}
use native.Mathlib.Omega.{arith}
use lib.ListN.{get_or, length}
use Rattle.theory.proofs.BoundedTests.{below_suc}
use Rattle.egg.specs.declared.GroupElementId.{GroupElementId}
use Rattle.egg.specs.declared.GeneratorId.{GeneratorId}
use Rattle.egg.specs.Pairs.{pair_code}
use Rattle.egg.specs.Table.{put_at}
use Rattle.egg.proofs.Cells.{put_same}
use Rattle.build_reading.specs.Build.{set_step, set_word}
use Rattle.enumeration_rows.specs.declared.inner.SideOfGap.{SideOfGap}
use Rattle.enumeration_rows.specs.declared.inner.SideOfGap.TheVariants.{Left, Right}
use Rattle.enumeration_rows.specs.Rows.{place_at, stored_row, new_row, added_rows}
use Rattle.enumeration_wake.specs.Waking.{state, link, below_at}
use Rattle.enumeration_run.specs.Run.{discovered}
use Rattle.enumeration_run.specs.Limits.{Limits}
use Rattle.enumeration_run_laws.specs.Invariant.{StepKnown}
use Rattle.enumeration_run_laws.specs.Stack.{Stack, bottom, above}
use Rattle.enumeration_run_laws.proofs.Spots.{place_link}
use Rattle.enumeration_run_laws.proofs.Stacking.{place_within}
use Rattle.enumeration_loop_laws.specs.Rings.{first_of_pair, second_of_pair, Looped}
use Rattle.enumeration_closure_laws.specs.Queues.{In, here, place_of, copy_at, Pushed, RowsAdded}
use Rattle.enumeration_closure_laws.specs.Closure.{Rowed, Open, Whole, Machine, none_in_hand, Closed}
use Rattle.enumeration_closure_laws.proofs.BeginningLists.{begins}
use Rattle.enumeration_closure_laws.proofs.Taking.{pushes}
use Rattle.enumeration_loop_laws.proofs.Telling.{told_new}
use Rattle.enumeration_loop_laws.proofs.Stepping.{stepped, stepped_length, stepped_more, stepped_only, stepped_here}
use Rattle.enumeration_closure_laws.proofs.Lists.{in_none}
use Rattle.enumeration_closure_laws.proofs.Ground.{Ground, ground, sized, letter_below}
use Rattle.enumeration_closure_laws.proofs.Carrying.{More, awaits_more, column_more, rowed_more, open_more}
use Rattle.enumeration_closure_laws.proofs.NewRows.{new_rowed, new_open}
use Rattle.enumeration_closure_laws.proofs.Updating.{Idle}
use Rattle.enumeration_closure_laws.proofs.Settling.{settle_idle, idle_closed}

-- The state after the rows of a new element have begun and its steps are set, with the step to it as the one fact.
module _ {n N : ℕ} {o : List ℕ} {room : ℕ} {step : ℕ → ℕ → ℕ} {count lt lw : ℕ} (L : Limits n o room lt lw) (looped : Looped n N o step)
    {Live : ℕ → ℕ → Type 0} {t w : List ℕ} (C : Closed n o step Live count lt lw t w) (hr : count < room) (hN : count < N)
    (e g : ℕ) (he : e < count) (hg : g < n) (leads : step e g ≡ count)
    (fresh : (k : ℕ) → k < length o → Live count k → (g ≡ first_of_pair k → ⊥) × (g ≡ second_of_pair k → ⊥)) (len : ℕ) where
  G : Ground n N o step (count + 1) lt lw
  G = ground L looped (count + 1) (omega arith) (omega arith)

  M : Machine n o step Live count lt lw C.held [] none_in_hand (state t w 0)
  M = C.machine

  abbrev begun : List ℕ
  begun = added_rows w o n (record { 0 = count })

  abbrev linked : List ℕ
  linked = put_at begun (below_at (place_of n e g)) 0

  abbrev old : GroupElementId
  old = record { 0 = e }

  abbrev by : GeneratorId
  by = record { 0 = g }

  abbrev table : List ℕ
  table = stepped t n count old by len

  known_more : More n t table
  known_more = record { more = stepped_more t n count old by len }

  B : RowsAdded n count (length o) o w begun C.held
  B = begins (sized G w M.work_length) G.full G.orders M.queues M.blank

  P : Pushed n (count + 1) (length o) begun linked B.held'
  P = pushes (sized G begun (B.beyond.long ∙ M.work_length)) B.queues e g (omega arith) hg 0

  enough : (count + 1) * (2 * n + 4) ≤ length t
  enough = rw M.table_length G.table_room

  limit : count < 65535
  limit = omega (arith, L.limit)

  begun_stack : Stack n (count + 1) table linked (link n old by) (place_of n e g ∷ [])
  unfolding place_at
  begun_stack =
      let within = place_within G.few G.limit G.table_room G.work_room old by (omega arith) hg in
      above {fs = []} (place_link G.few old by (omega (arith, limit)) hg)
      (record {
        element = e;
        generator = g;
        element_below = omega arith;
        generator_below = hg;
        stands = refl;
        known = stepped_here t n count old by len he hg enough limit;
      }) tt
      (bottom (put_same begun (place_of n e g + 6) 0 (rw (B.beyond.long ∙ M.work_length) within) (omega arith)))

  -- The rows of the new element are as they begin; those of the others are as they were.
  new_row_lem : (k : ℕ) (sd : SideOfGap) → k < length o → stored_row linked (copy_at n count k sd) ≡ new_row (record { 0 = count }) (pair_code k) (get_or o k 0)
  new_row_lem k sd hk = P.rows.same count k sd (omega arith) hk ∙ B.stored k sd hk

  old_row : (u k : ℕ) (sd : SideOfGap) → u < count → k < length o → stored_row linked (copy_at n u k sd) ≡ stored_row w (copy_at n u k sd)
  old_row u k sd hu hk = P.rows.same u k sd (omega arith) hk ∙ B.rows.same u k sd hu hk

  all_rowed : (u k : ℕ) (sd : SideOfGap) → u < count + 1 → k < length o → Rowed (count + 1) step o table linked n u k sd
  all_rowed u k sd hu hk =
      ⊎_elim (λ q. rw q (new_rowed count G k hk sd (new_row_lem k sd hk)))
      (λ h. rowed_more step known_more u k (letter_below G k hk) (omega arith) (M.rows u k sd h hk) (old_row u k sd h hk)) (below_suc (omega arith))

  -- Of an old element only the step to the new one has become known.
  old_new : (x h : ℕ) → x < count → h < n → StepKnown n table x h → StepKnown n t x h ⊎ In (place_of n x h) (place_of n e g ∷ [])
  old_new x h hx hh z = go (ℕ_discrete x e) (ℕ_discrete h g) where
    elsewhere : (x ≡ e → h ≡ g → ⊥) → StepKnown n t x h
    elsewhere d = stepped_only t n count old by len he hg x h hh d (λ a b. omega arith) z

    go : Dec (x ≡ e) → Dec (h ≡ g) → StepKnown n t x h ⊎ In (place_of n x h) (place_of n e g ∷ [])
    go (yes a) (yes b) = let q : place_of n e g ≡ place_of n x h = rw (a, b) in inr (here q)
    go (yes a) (no d) = inl (elsewhere (λ a b. d b))
    go (no d) b = inl (elsewhere (λ a b. d a))

  -- Of the new one only the step back is known.
  new_unknown : (h : ℕ) → h < n → (g ≡ h → ⊥) → StepKnown n table count h → ⊥
  new_unknown h hh d z =
      let known = stepped_only t n count old by len he hg count h hh (λ a b. omega arith) (λ a b. d (sym b)) z in
      let low = M.told.from_below count h hh known in
      omega arith

  old_live : (u k : ℕ) → u < count → k < length o → Live u k → Whole n step o table u k ⊎ Open n step table linked B.held' (place_of n e g ∷ []) none_in_hand u k
  old_live u k hu hk v =
      ⊎_elim (λ whole. inl (λ j hj. column_more step known_more u k (letter_below G k hk) j (whole j hj)))
      (λ O. inr (open_more (letter_below G k hk) (M.rows u k Left hu hk) (M.rows u k Right hu hk) (λ sd. old_row u k sd hu hk)
      (λ sd x h hx hh a. awaits_more a (λ i. rw (B.old sd x h hx) i) (old_new x h hx hh) (λ q i. absurd (in_none i)) (λ i. i)) O))
      (M.live u k hu hk v)

  new_live : (k : ℕ) → k < length o → Live count k → Open n step table linked B.held' (place_of n e g ∷ []) none_in_hand count k
  new_live k hk v =
      new_open count G k hk (λ sd. new_row_lem k sd hk) (B.left k hk) (B.right k hk) (new_unknown (first_of_pair k) (letter_below G k hk 0) (fresh k hk v).0)
      (new_unknown (second_of_pair k) (letter_below G k hk 1) (fresh k hk v).1)

  begun_idle : Idle n o step Live (count + 1) lt lw (state table linked (link n old by))
  begun_idle = record {
    held = B.held';
    facts = place_of n e g ∷ [];
    machine = record {
      told = told_new M.told looped hN old by he hg leads len enough limit;
      stack = begun_stack;
      queues = P.queues;
      rows = all_rowed;
      live = λ u k hu hk v. ⊎_elim (λ q. rw q (inr (new_live k hk (rw q at v)))) (λ h. old_live u k h hk v) (below_suc (omega arith));
      blank = λ i h. P.beyond.beyond i h ∙ B.beyond.beyond i h ∙ M.blank i (omega arith);
      table_length = stepped_length t n count old by len ∙ M.table_length;
      work_length = P.beyond.long ∙ B.beyond.long ∙ M.work_length;
    };
  }

pub discovers : {n N : ℕ} {o : List ℕ} {room : ℕ} {step : ℕ → ℕ → ℕ} {count lt lw : ℕ} {Live : ℕ → ℕ → Type 0} {t w : List ℕ} → Limits n o room lt lw
    → Looped n N o step → Closed n o step Live count lt lw t w → count < room → count < N → (e g : ℕ) → e < count → g < n → step e g ≡ count
    → ((k : ℕ) → k < length o → Live count k → (g ≡ first_of_pair k → ⊥) × (g ≡ second_of_pair k → ⊥)) → (len : ℕ)
    → let x : GroupElementId = record { 0 = count } in
    let s = discovered n o (record { 0 = e }) (record { 0 = g }) x (set_step (set_word t n x (record { 0 = e }) (record { 0 = g }) len) n (record { 0 = e }) (record { 0 = g }) x) w in
    s.top ≡ 0 → Closed n o step Live (count + 1) lt lw s.table s.work
unfolding discovered
discovers {w = w} L looped C hr hN e g he hg leads fresh len top =
    idle_closed (settle_idle (G L looped C hr hN e g he hg leads fresh len) _ _ (begun_idle L looped C hr hN e g he hg leads fresh len)) top
