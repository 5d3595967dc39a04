-- One law for each way in which the call ends.
use Prim.Native.Nat.{ℕ, ◌-◌, ◌≤◌, ◌<◌}
use mathlib.Core.Path.{◌≡◌, refl, sym, ap, ◌∙◌, subst}
use mathlib.Core.Bool.{true, false}
use mathlib.Core.List.{List, ◌++◌}
use native.Mathlib.Nat.{le_refl}
use native.Mathlib.Omega.{arith}
use borrow.Author.Tests.{lt-ltb, le-ltb}
use borrow.Rule.Slice.PartMut.{mid_of, put_mid}
use lib.ListN.{length, take, drop}
use lib.Seq.{length-take-le}
use Rattle.egg.specs.declared.Refusal.{Refusal}
use Rattle.egg.specs.Answers.{Counted, Made, Verdict, fine}
use Rattle.std.specs.Prelude.{Ok, Err, Option, Some, None}
use Rattle.std.specs.Result.{result_ok}
use Rattle.egg.specs.Pairs.{orders_right}
use Rattle.factor_relations.proofs.Orders.{orders_limits, few_pairs}
use Rattle.egg.proofs.Rooms.{positive, limited}
use Rattle.build_lending.specs.Finish.{Built, built, zeroed, finished}
use Rattle.build_lending.specs.Lending.{table_need, work_need, lent_right, StretchEnd, refused_made, made_of, making}
use Rattle.build_lending.proofs.Finishing.{refused_counted}
use Rattle.build_lending.proofs.Lending.{lent_table_lem, part_length, build_back}
use Rattle.factor_relations.specs.Relations.{relations_row}
use Rattle.enumeration_rows.specs.Rows.{Orders}
use Rattle.enumeration_run.specs.declared.inner.Ran.{Ran}
use Rattle.enumeration_run.specs.declared.inner.Ran.TheVariants as ran
use Rattle.enumeration_run.specs.Run.{RunResult, outcome, enumerated}
use Rattle.enumeration_run.specs.Limits.{Limits}
use Rattle.enumeration_quick_run.specs.Sweeps.{sweep, swiftly}
use Rattle.enumeration_quick_laws.proofs.Swift.{swift}
use Rattle.enumeration.specs.Calls.{ran_count, relating, relating_by, relates, with_work, related, enumerated_in, enumerates}
use Rattle.enumeration.specs.Quick.{Quick}

module _ (n : ℕ) (o : List ℕ) {read : Counted} (t : List ℕ) where
  pub relates_refused : {why : Refusal} → read ≡ Err why → relating (Err why) t ≡ relates n o read t
  relates_refused e = rw e

  module _ {count : ℕ} {v : Verdict} (e : read ≡ Ok count) (q : v ≡ relations_row t n count o 0) where
    pub relates_fails : {why : Refusal} {t₁ : List ℕ} → v ≡ Err why → t₁ ≡ zeroed t → relating (Err why) t₁ ≡ relates n o read t
    relates_fails h z = rw (e, ← q, h, z)

    pub relates_holds : v ≡ fine → relating (Ok count) t ≡ relates n o read t
    relates_holds h = rw (e, ← q, h)

-- The run, the checks, and 13.
pub enumerated_in_lem : (lt lw : ℕ) (o : List ℕ) (n room : ℕ) {lt₁ lw₁ : ℕ} {r : Ran} {c d f : Counted} {t w t₁ w₁ t₂ : List ℕ}
    → lt₁ ≡ lt → lw₁ ≡ lw → outcome r t w ≡ enumerated n o room lt₁ lw₁ → c ≡ ran_count r → built d t₁ w₁ ≡ finished c n t w → relating f t₂ ≡ relates n o d t₁
    → built f t₂ w₁ ≡ enumerated_in lt lw o n room
unfolding enumerated_in
enumerated_in_lem lt lw o n room {r = r} {c} {d} {f} {t} {w} {t₁} {w₁} {t₂} x y a b p q =
    let z : enumerated n o room lt lw ≡ outcome r t w = rw (x, y) at (sym a) in
    let u : finished (ran_count r) n t w ≡ built d t₁ w₁ = rw b at (sym p) in
    let v : finished (ran_count (enumerated n o room lt lw).answer) n (enumerated n o room lt lw).table (enumerated n o room lt lw).work ≡ built d t₁ w₁
    = ap (λ (s : RunResult). finished (ran_count s.answer) n s.table s.work) z ∙ u in
    ap (with_work w₁) q ∙ ap (related n o) (sym v)

-- An accepted end: an accepted build before 13, and 13 passed at the identity.
pub by_relations : (n : ℕ) (o : List ℕ) (b : Built) {N : ℕ} {t w : List ℕ} → related n o b ≡ built (Ok N) t w
    → (b ≡ built (Ok N) t w) × (relations_row t n N o 0 ≡ fine)
by_relations n o (built (Ok c) s v) {N} {t} {w} q = by (relations_row s n c o 0) refl q where
  by : (d : Verdict) → relations_row s n c o 0 ≡ d → with_work v (relating_by d c s) ≡ built (Ok N) t w
      → (built (Ok c) s v ≡ built (Ok N) t w) × (relations_row t n N o 0 ≡ fine)
  by (Ok _) h e =
      let a : c ≡ N = cc in
      let b : s ≡ t = cc in
      (e, subst (λ (x : List ℕ). relations_row x n N o 0 ≡ fine) b (subst (λ (x : ℕ). relations_row s n x o 0 ≡ fine) a h))
  by (Err r) h e = absurd (refused_counted e)
by_relations n o (built (Err r) s v) q = absurd (refused_counted q)

-- Nothing is no count.
nothing : {N : ℕ} → ◌≡◌ {A = Option ℕ} None (Some N) → ⊥
nothing x = let z : ◌≡◌ {A = ℕ} 0 1 = cc in omega arith

-- What accepts with M is M's acceptance.
accepts : (d : Counted) {M : ℕ} → result_ok d ≡ Some M → d ≡ Ok M
accepts (Ok x) {M} e = let q : x ≡ M = cc in ap Ok q
accepts (Err r) e = absurd (nothing e)

-- The quick way, where it stops, and where it accepts.
module _ (lt lw : ℕ) (o : List ℕ) (n room : ℕ) where
  pub quick_none : {t w : List ℕ} → Quick lt lw o n room None t w
  quick_none = record { same = λ N e. absurd (nothing e) }

  quick_with : (w : List ℕ) → Limits n o room lt lw → {r : Ran} {N M : ℕ} {c d : Counted} {F t₁ w₁ t₂ : List ℕ}
      → sweep r F ≡ swiftly n o room lt → r ≡ ran.Done N → length w ≡ lw → built c t₁ w₁ ≡ finished (Ok N) n F w → relating d t₂ ≡ relates n o c t₁ → d ≡ Ok M
      → built (Ok M) t₂ w₁ ≡ enumerated_in lt lw o n room
  unfolding enumerated_in
  quick_with w L {r} {N} {M} {c} {d} {F} {t₁} {w₁} {t₂} a done long p q e =
      let x : related n o (finished (Ok N) n F w) ≡ built (Ok M) t₂ w₁
      = ap (related n o) (sym p) ∙ ap (with_work w₁) (sym q) ∙ ap (λ (k : Counted). built k t₂ w₁) e in
      let b = by_relations n o (finished (Ok N) n F w) x in
      let S = swift L F (sym a ∙ ap (λ (k : Ran). sweep k F) done) w long b.0 b.1 in
      sym (ap (λ (k : Ran). related n o (finished (ran_count k) n (enumerated n o room lt lw).table (enumerated n o room lt lw).work)) S.0
      ∙ ap (related n o) (S.1 ∙ sym b.0) ∙ x)

  pub quick_same : (w : List ℕ) → Limits n o room lt lw → {r : Ran} {N : ℕ} {c d : Counted} {x : Option ℕ} {F t₁ w₁ t₂ : List ℕ}
      → sweep r F ≡ swiftly n o room lt → r ≡ ran.Done N → length w ≡ lw → built c t₁ w₁ ≡ finished (Ok N) n F w → relating d t₂ ≡ relates n o c t₁
      → x ≡ result_ok d → Quick lt lw o n room x t₂ w₁
  quick_same w L {d = d} a done long p q z = record { same = λ M e. quick_with w L a done long p q (accepts d (sym z ∙ e)) }

-- Orders within the limits are such as the machine wants.
pub limits_orders : {n : ℕ} {o : List ℕ} {room lt lw : ℕ} → Limits n o room lt lw → Orders o
limits_orders {n} L = (omega (arith, L.full, few_pairs n L.few), L.orders)

-- Where 1 to 4 pass, the run is within its limits.
module _ (table : List ℕ) (start : ℕ) (work orders : List ℕ) (n room : ℕ) (generators : n ≤ 8) (right : orders_right orders n ≡ fine)
    (lent : lent_right (length table) start (length work) room n ≡ true) where
  pub limits : Limits n orders room (table_need n room) (work_need n room)
  limits =
      let has = lent_table_lem (length table) start (length work) room n lent in
      record {
        few = generators;
        full = (orders_limits orders n right).0;
        orders = λ k hk. let l = (orders_limits orders n right).1 k hk in (omega (arith, l.0), l.1);
        some = positive (length table) start room n has;
        limit = limited (length table) start room n has;
        table_room = le_refl (table_need n room);
        work_room = le_refl (work_need n room);
      }

  -- Also as the stretches are lent.
  pub lent_limits : {e d : ℕ} → StretchEnd e start (table_need n room) (length table) → d ≡ work_need n room → d ≤ length work
      → Limits n orders room (length (mid_of start (e - start) table)) (length (take d work))
  lent_limits {e} {d} q need fits = rw (part_length table start (table_need n room) q, length-take-le d work fits, need) limits

module _ (table : List ℕ) (start : ℕ) (work orders : List ℕ) (n room : ℕ) where
  pub enumerates_generators : 8 < n → making (refused_made 1 n) table work ≡ enumerates table start work orders n room
  unfolding enumerates
  enumerates_generators h = simp (lt-ltb _ _ h)

  module _ (few : n ≤ 8) {v : Verdict} (o : v ≡ orders_right orders n) where
    pub enumerates_orders : {why : Refusal} → v ≡ Err why → making (Err why) table work ≡ enumerates table start work orders n room
    unfolding enumerates
    enumerates_orders h = rw (← o, h) (simp (le-ltb _ _ few))

    pub enumerates_short : v ≡ fine → lent_right (length table) start (length work) room n ≡ false
        → making (refused_made 4 0) table work ≡ enumerates table start work orders n room
    unfolding enumerates
    enumerates_short h l = rw (← o, h, l) (simp (le-ltb _ _ few))

    pub enumerates_built : v ≡ fine → lent_right (length table) start (length work) room n ≡ true
        → {e d : ℕ} {m : Made} {c : Counted} {t w : List ℕ} → StretchEnd e start (table_need n room) (length table) → d ≡ work_need n room → d ≤ length work
        → m ≡ made_of start room n c → built c t w ≡ enumerated_in (length (mid_of start (e - start) table)) (length (take d work)) orders n room
        → making m (put_mid start (e - start) table t) (w ++ drop d work) ≡ enumerates table start work orders n room
    unfolding enumerates
    enumerates_built h l {e} {d} {m} {c} {t} {w} q need fits made b =
        let b' : built c t w ≡ enumerated_in (table_need n room) (work_need n room) orders n room
        = b ∙ rw (part_length table start (table_need n room) q, length-take-le d work fits, need) in
        build_back table start work n room q need made b' ∙ rw (← o, h, l) (simp (le-ltb _ _ few))
