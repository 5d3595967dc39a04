-- "More room never changes an accepted table": at any larger room, in longer stretches, the same table is accepted, with zeros behind it. A build in a longer
-- stretch goes as in the shorter one; a call is a build put back into its buffers.
use Prim.Native.Nat.{ℕ, zero, suc, ◌+◌, ◌*◌, ◌-◌, ◌≤◌, ◌<◌}
use mathlib.Core.Path.{◌≡◌, refl, sym, ap, ◌∙◌}
use mathlib.Core.Bool.{Bool, true, false}
use mathlib.Core.List.{List}
use native.Mathlib.Nat.{mul-le-mul, le_refl}
use native.Mathlib.Omega.{arith}
use borrow.Author.Tests.{ltb-true, ltb-false}
use lib.ListN.{length, get_or, take, replicate, get_or-eq_default}
use lib.Seq.{ext_get_or}
use lib.Dec.{ltb}
use Rattle.egg.specs.declared.Factor.{Factor}
use Rattle.egg.specs.Answers.{Reached, fine, on_reached}
use Rattle.std.specs.Prelude.{Ok, Err}
use Rattle.egg.specs.Table.{put_at, start_of, parent_of, last_of, length_of, step_of, back_of}
use Rattle.egg.specs.Pairs.{orders_right}
use Rattle.egg.specs.Factor.{read_step, has_room}
use Rattle.egg.proofs.Cells.{put_length, inside, cell_inside}
use Rattle.build_word_cells.specs.Hops.{hop_from, with_hops}
use Rattle.build_word_cells.proofs.Hops.{hop_agree}
use Rattle.build_checks.specs.Checks.{check_group}
use Rattle.build_checks_inverses.specs.Inverses.{invert_from, invert_of, fill_inverses}
use Rattle.build_lending.specs.Finish.{built, zeroed, finished_placed}
use Rattle.build_lending.specs.Lending.{table_need, work_need, lent_right, within, making, lent_back, Making}
use Rattle.build_lending.proofs.Lending.{lent_table_lem}
use Rattle.factor_relations.specs.Relations.{turned, doubled_row, pairs_row, relations_row}
use Rattle.build_reading.specs.Reading.{placed, read_all, composed_at}
use Rattle.factor.specs.Composed.{composed_in, composed}
use Rattle.enumeration_run.specs.Run.{enumerated}
use Rattle.enumeration.specs.Calls.{enumerated_in, enumerates}
use Rattle.theory.specs.Table.{Columns}
use Rattle.theory.proofs.AnyCarrier.{any_carrier}
use Rattle.theory.proofs.Complete.{columns}
use Rattle.theory.proofs.FirstPlaces.{parent_unique, last_unique}
use Rattle.build_checks_laws.specs.Stored.{StoredTable, word_of}
use Rattle.build_checks_laws.proofs.Inverses.{kept_turned, stored_kept}
use Rattle.build_checks_laws.proofs.Accepted.{checks_kept, accepted_filled, sound_regular}
use Rattle.build_checks_laws.proofs.Complete.{checks_complete}
use Rattle.build_reading_laws.specs.Read.{Read}
use Rattle.build_reading_laws.proofs.Readings.{accepted_read, readable_accepted, read_letters}
use Rattle.enumeration_run.specs.Limits.{Limits}
use Rattle.enumeration_run_laws.proofs.Derivation.{work_long, done_sound}
use Rattle.enumeration_run_laws.specs.Longer.{longer}
use Rattle.enumeration_run_laws.proofs.LongerStores.{longer_get, longer_put, longer_length}
use Rattle.enumeration_run_laws.proofs.Roomier.{more_room}
use Rattle.promises.specs.Roomier.{Roomier}
use Rattle.build_laws.proofs.SameRows.{SameRows, same_cells}
use Rattle.build_laws.proofs.Lent.{handle, lent_table, by_build, stretch_cell}
use Rattle.promises.proofs.Derived.{steps_enumerated, enumerated_steps, enumerated_related}
use Rattle.enumeration.proofs.Handle.{enumerates_is_build}
use Rattle.enumeration.proofs.Calls.{limits}
use Rattle.promises.proofs.Enumerated as enumeration
use Rattle.promises.proofs.Composed as rows-call
use Rattle.build_reading_laws.proofs.Storing.{read_stored}
use Rattle.build_laws.proofs.Settled.{Settled, settle, settled_kept, settled_sound}
use Rattle.build_laws.proofs.Built.{passed, passes, work_enough, rows_fit, settled_holds, built_holds}

-- Inverses are found and filled alike in a longer list.
invert_longer : (k : ℕ) (l : List ℕ) (n j at x : ℕ) → invert_from j (longer k l) n at x ≡ invert_from j l n at x
unfolding invert_from
invert_longer k l n zero at x = refl
invert_longer k l n (suc j) at x = simp longer_get (invert_longer k l n j (parent_of l n at) (back_of l n x (last_of l n at)))

fill_longer : (k c : ℕ) (l : List ℕ) (n e N : ℕ) → e + c ≤ N → N * (2 * n + 4) ≤ length l → fill_inverses c (longer k l) n e ≡ longer k (fill_inverses c l n e)
unfolding fill_inverses start_of
fill_longer k zero l n e N h fits = refl
fill_longer k (suc c) l n e N h fits =
    let i : e * (2 * n + 4) + (2 * n + 3) < N * (2 * n + 4) = inside (omega arith) (omega arith) in
    let at : e * (2 * n + 4) + 2 * n + 3 < length l = omega arith in
    let v : invert_of (longer k l) n e ≡ invert_of l n e = simp longer_get (invert_longer k l n (length_of l n e) e 0) in
    rw (v, longer_put k l (e * (2 * n + 4) + 2 * n + 3) (invert_of l n e) at)
    (fill_longer k c (put_at l (e * (2 * n + 4) + 2 * n + 3) (invert_of l n e)) n (e + 1) N (omega arith) (rw (put_length l (e * (2 * n + 4) + 2 * n + 3) (invert_of l n e)) fits))

-- So are the letters before the last.
hops_longer : (k c : ℕ) (l : List ℕ) (n : ℕ) → c * (2 * n + 4) ≤ length l → with_hops c (longer k l) n ≡ longer k (with_hops c l n)
unfolding with_hops
hops_longer k zero l n fits = refl
hops_longer k (suc c) l n fits =
    let at : start_of n c + 2 * n + 1 < length l = omega (arith, cell_inside n {k = 2 * n + 1} (omega arith) {e = c} {N = suc c} (omega arith)) in
    let v : hop_from 5 (longer k l) n c ≡ hop_from 5 l n c = hop_agree 5 l (longer k l) n (λ e. longer_get k l (start_of n e + 2 * n)) (λ e. rw (longer_get k l (start_of n e + 2 * n + 1))) c in
    rw (v, longer_put k l (start_of n c + 2 * n + 1) (hop_from 5 l n c) at)
    (hops_longer k c (put_at l (start_of n c + 2 * n + 1) (hop_from 5 l n c)) n (rw (put_length l (start_of n c + 2 * n + 1) (hop_from 5 l n c)) (omega arith)))

-- And so are relations tested.
read_longer : (k : ℕ) (l : List ℕ) (n N e g : ℕ) → read_step (longer k l) n N e g ≡ read_step l n N e g
unfolding read_step
read_longer k l n N e g = simp longer_get

turned_longer : (k : ℕ) (l : List ℕ) (n N e a b j : ℕ) → turned j (longer k l) n N e a b ≡ turned j l n N e a b
unfolding turned
turned_longer k l n N e a b zero = refl
turned_longer k l n N e a b (suc j) = rw (read_longer k l n N e a) (first (read_step l n N e a) (λ y. turned_longer k l n N y a b j)) where
  second : (r : Reached) → ((y : ℕ) → turned j (longer k l) n N y a b ≡ turned j l n N y a b)
      → on_reached r (λ y. turned j (longer k l) n N y a b) ≡ on_reached r (λ y. turned j l n N y a b)
  second (Ok y) ih = ih y.0
  second (Err r) ih = refl

  first : (r : Reached) → ((y : ℕ) → turned j (longer k l) n N y a b ≡ turned j l n N y a b)
      → on_reached r (λ x. on_reached (read_step (longer k l) n N x b) (λ y. turned j (longer k l) n N y a b))
      ≡ on_reached r (λ x. on_reached (read_step l n N x b) (λ y. turned j l n N y a b))
  first (Ok x) ih = rw (read_longer k l n N x.0 b) (second (read_step l n N x.0 b) ih)
  first (Err r) ih = refl

relations_longer : (k : ℕ) (l : List ℕ) (n N : ℕ) (o : List ℕ) → relations_row (longer k l) n N o 0 ≡ relations_row l n N o 0
unfolding doubled_row pairs_row
relations_longer k l n N o = simp turned_longer

-- What the checks have accepted, they accept with zeros behind it, and whatever the work held.
module _ {n N : ℕ} (few : n ≤ 8) (some : 0 < N) (small : N ≤ 65535) where
  settled_longer : (k : ℕ) (t₀ w₀ : List ℕ) {t w₁ : List ℕ} (w : List ℕ) → N * (2 * n + 4) ≤ length t₀ → (0 < n → N ≤ length w)
      → Settled n N (check_group t₀ w₀ n N) t w₁ → (w₂ : List ℕ) × Settled n N (check_group (longer k t₀) w n N) (longer k t) w₂
  settled_longer k t₀ w₀ {t} w fits work E =
      let S = settled_sound t₀ w₀ E fits some small in
      let Q = stored_kept (kept_turned (settled_kept t₀ w₀ E)) S.stored in
      let fits₁ : N * (2 * n + 4) ≤ length (longer k t₀) = omega (arith, longer_length k t₀) in
      let stored : StoredTable (longer k t₀) n N (step_of t n) (back_of t n) (parent_of t n) (last_of t n) (word_of t n) = record {
        successor = λ he hg. longer_get k t₀ _ ∙ Q.successor he hg;
        predecessor = λ he hg. longer_get k t₀ _ ∙ Q.predecessor he hg;
        parents = λ pos he. longer_get k t₀ _ ∙ Q.parents pos he;
        letters = λ pos he. rw longer_get (Q.letters pos he);
        lengths = λ he. longer_get k t₀ _ ∙ Q.lengths he;
      } in
      let C = checks_complete few small fits₁ stored S.table S.parents S.recorded S.columns
      (λ e he. rw (← S.stored.lengths he) (S.short he)) w work (λ g hg. S.identity_row_lem hg) (sound_regular S) in
      let filled : C.0 ≡ longer k E.table = sym (accepted_filled (longer k t₀) w n N C.2) ∙ fill_longer k N t₀ n 0 N (omega arith) fits
      ∙ ap (longer k) (accepted_filled t₀ w₀ n N E.checks) in
      let long = (checks_kept t₀ w₀ n N E.checks).size in
      let same : with_hops N C.0 n ≡ longer k t = ap (λ (l : List ℕ). with_hops N l n) filled ∙ hops_longer k N E.table n (rw long fits)
      ∙ ap (longer k) (sym E.lettered) in
      (zeroed C.1, rw same at (settle {n = n} {N = N} C.2))

-- A build's stretch with zeros behind it, put back into other buffers.
module _ (table : List ℕ) (start n room : ℕ) (has : has_room (length table) start room n ≡ true) (table' : List ℕ) (start' : ℕ) (work' : List ℕ) (room' : ℕ)
    (has' : has_room (length table') start' room' n ≡ true) (more : room ≤ room') where
  pub lent_roomier : {N : ℕ} (s v : List ℕ) {m : Making} → length s ≡ table_need n room
      → m ≡ lent_back table' start' work' n room' (built (Ok N) (longer (table_need n room' - table_need n room) s) v)
      → Roomier n start room (handle start n room N) (lent_table table start n room s) start' room' m
  lent_roomier {N} s v size q =
      let k = table_need n room' - table_need n room in
      let wider : table_need n room ≤ table_need n room' = mul-le-mul more (le_refl (2 * n + 4)) in
      let long : length (longer k s) ≡ table_need n room' = longer_length k s ∙ omega arith in
      let cell : (i : ℕ) → i < table_need n room' → get_or (lent_table table' start' n room' (longer k s)) (start' + i) 0 ≡ get_or s i 0 = λ i hi.
      stretch_cell table' start' n room' has' (longer k s) long N i hi ∙ longer_get k s i in
      record {
        table' = lent_table table' start' n room' (longer k s);
        work' = within work' 0 (work_need n room') v;
        accepted = q;
        same = λ {i} hi. cell i (omega arith) ∙ sym (stretch_cell table start n room has s size N i hi);
        beyond = λ {i} lo hi. cell i hi ∙ get_or-eq_default s 0 (omega arith);
      }

pub roomier_at : {n start room start' room' : ℕ} {f f₀ : Factor} {t t₀ : List ℕ} {m : Making} → f ≡ f₀ → t ≡ t₀ → Roomier n start room f₀ t₀ start' room' m
    → Roomier n start room f t start' room' m
roomier_at a b r = rw (a, b) r

-- The enumeration: its run is the same with more room, then the checks, then 13.
module _ (o : List ℕ) (n room lt lw : ℕ) (L : Limits n o room lt lw) (right : orders_right o n ≡ fine)
    (room' lt' lw' : ℕ) (L' : Limits n o room' lt' lw') (more : room ≤ room') (wider : lt ≤ lt') (deeper : lw ≤ lw') where
  pub enumerated_roomier : {N : ℕ} {t w : List ℕ} → enumerated_in lt lw o n room ≡ built (Ok N) t w
      → (w' : List ℕ) × (enumerated_in lt' lw' o n room' ≡ built (Ok N) (longer (lt' - lt) t) w')
  unfolding longer
  enumerated_roomier {N} {t} q =
      let P = enumerated_steps o n room lt lw L right q in
      let k = lt' - lt in
      let R = more_room L P.finish more wider deeper in
      let D = done_sound L P.finish in
      let fits : N * (2 * n + 4) ≤ length (enumerated n o room lt lw).table = omega (arith, D.whole, L.table_room, mul-le-mul D.fits (le_refl (2 * n + 4))) in
      let w₁ = (enumerated n o room' lt' lw').work in
      let work : 0 < n → N ≤ length w₁ = λ pos.
      let one : 1 ≤ 6 * n * n + 4 * n = omega arith in
      omega (arith, D.fits, L'.work_room, work_long L' R.answer, mul-le-mul (le_refl room') one) in
      let C = settled_longer L.few D.some (omega (arith, D.fits, L.limit)) k (enumerated n o room lt lw).table (enumerated n o room lt lw).work w₁ fits work P.end in
      let fine : relations_row (longer k t) n N o 0 ≡ fine = relations_longer k t n N o ∙ P.identity in
      (C.0, steps_enumerated o n room' lt' lw' L' right R.answer R.table refl C.1 fine)

module _ (table : List ℕ) (start : ℕ) (work orders : List ℕ) (n room : ℕ) (f : Factor) (t w table' : List ℕ) (start' : ℕ) (work' : List ℕ) (room' : ℕ) where
  -- Nothing is asked but that the first call is accepted and that the second is lent enough for at least the same room.
  pub enumeration_roomier : enumerates table start work orders n room ≡ making (Ok f) t w
      → room ≤ room' → lent_right (length table') start' (length work') room' n ≡ true
      → Roomier n start room f t start' room' (enumerates table' start' work' orders n room')
  enumeration_roomier h more lent' =
      let B = enumeration.begun table start work orders n room f t w h in
      let b = by_build table start work n room (enumerated_in (table_need n room) (work_need n room) orders n room) (sym (enumerates_is_build table start work orders n room B.generators B.right B.lent) ∙ h) in
      let L = limits table start work orders n room B.generators B.right B.lent in
      let L' = limits table' start' work' orders n room' B.generators B.right lent' in
      let R = enumerated_related orders n room (table_need n room) (work_need n room) L B.right b.3.0 in
      let E = enumerated_roomier orders n room (table_need n room) (work_need n room) L B.right room' (table_need n room') (work_need n room') L' more
      (mul-le-mul more (le_refl (2 * n + 4))) (mul-le-mul more (le_refl (6 * n * n + 4 * n))) b.3.0 in
      roomier_at b.3.1.0 b.3.1.1.0
      (lent_roomier table start n room (lent_table_lem (length table) start (length work) room n B.lent) table' start' work' room'
      (lent_table_lem (length table') start' (length work') room' n lent') more b.1 E.0 R.size_kept
      (enumerates_is_build table' start' work' orders n room' B.generators B.right lent' ∙ ap (lent_back table' start' work' n room') E.1))

-- Composed rows: two readings of the same numbers, within any rooms, leave the same in every cell.
module _ {src back : ℕ → ℕ → ℕ} {n room size room' size' N : ℕ} {t t' : List ℕ} (R : Read src n room size N t) (R' : Read src n room' size' N t')
    (C : Columns n N src back) where
  same_rows : SameRows t t' n N
  same_rows = record {
    successors = λ e g he hg. R'.successor he hg ∙ sym (R.successor he hg);
    predecessors = λ e g he hg. (read_stored R' C).predecessor he hg ∙ sym ((read_stored R C).predecessor he hg);
    parents = parent_unique R.appearance R'.appearance (R'.no_parent ∙ sym R.no_parent);
    hops = λ e he. R'.one_letter he ∙ last_unique R.appearance R'.appearance (R'.no_last ∙ sym R.no_last) e he ∙ sym (R.one_letter he);
    lengths = λ e he. read_letters R' e he ∙ sym (read_letters R e he);
    inverses = λ e he. R'.no_inverse he ∙ sym (R.no_inverse he);
  }

  cells_same : (i : ℕ) → get_or t' i 0 ≡ get_or t i 0
  cells_same i = by (ltb i (N * (2 * n + 4))) refl where
    by : (b : Bool) → ltb i (N * (2 * n + 4)) ≡ b → get_or t' i 0 ≡ get_or t i 0
    by true q = same_cells same_rows i (ltb-true i (N * (2 * n + 4)) q)
    by false q = let h = ltb-false i (N * (2 * n + 4)) q in R'.beyond h ∙ sym (R.beyond h)

  read_longer_same : size ≤ size' → t' ≡ longer (size' - size) t
  read_longer_same wider =
      let k = size' - size in
      let long : length (longer k t) ≡ size' = longer_length k t ∙ omega (arith, R.whole) in
      ext_get_or 0 t' (longer k t) (R'.whole ∙ sym long) (λ i h. cells_same i ∙ sym (longer_get k t i))

module _ (src : ℕ → ℕ → ℕ) (n room size : ℕ) (w : List ℕ) (few : n ≤ 8) (lo : 1 ≤ room) (hi : room ≤ 65535) (fits : room * (2 * n + 4) ≤ size)
    (work : work_need n room ≤ length w) (room' size' : ℕ) (w' : List ℕ) (hi' : room' ≤ 65535) (fits' : room' * (2 * n + 4) ≤ size')
    (work' : work_need n room' ≤ length w') (more : room ≤ room') (wider : size ≤ size') where
  -- The build in its stretches: what was read is the same, then the checks.
  pub built_roomier : {N : ℕ} {t w₁ : List ℕ} → finished_placed (read_all src n room (replicate size 0)) n w ≡ built (Ok N) t w₁
      → (w₂ : List ℕ) × (finished_placed (read_all src n room' (replicate size' 0)) n w' ≡ built (Ok N) (longer (size' - size) t) w₂)
  built_roomier {N} {t} q =
      let p = passed (read_all src n room (replicate size 0)) n w q in
      let R = accepted_read src n room size few lo hi fits p.count in
      let H = settled_holds src n room size w few lo hi fits work R p.end in
      let lo' : 1 ≤ room' = omega arith in
      let within_room : N ≤ room' = omega (arith, R.within) in
      let a = readable_accepted src n room' size' few lo' hi' fits' (record { by_rule = R.by_rule; within = within_room; short = H.taken.readable.short }) in
      let r = any_carrier.0 H.taken.group in
      let same = read_longer_same R (accepted_read src n room' size' few lo' hi' fits' a.1) (columns r.group r.steps) wider in
      let C = settled_longer few R.origin (omega (arith, R.within)) (size' - size) p.before w w' (rows_fit src n room size w few lo hi fits work R.within R.whole)
      (work_enough src n room' size' w' few lo' hi' fits' work' within_room) p.end in
      (C.0, passes n w' (a.1 ∙ ap (placed (Ok N)) same) C.1)

module _ (table : List ℕ) (start : ℕ) (work rows : List ℕ) (n room : ℕ) (f : Factor) (t w table' : List ℕ) (start' : ℕ) (work' : List ℕ) (room' : ℕ) where
  -- The same of the call on composed rows, which needs them for the larger room too.
  pub composed_roomier : composed table start work rows n room ≡ making (Ok f) t w
      → room ≤ room' → lent_right (length table') start' (length work') room' n ≡ true → room' * n ≤ length rows
      → Roomier n start room f t start' room' (composed table' start' work' rows n room')
  unfolding composed_in
  composed_roomier h more lent' listed' =
      let B = rows-call.begun table start work rows n room f t w h in
      let is = rows-call.composed_is_build table start work rows n room B.generators B.lent B.listed in
      let b = by_build table start work n room (composed_in (table_need n room) (take (work_need n room) work) rows n room) (sym is ∙ h) in
      let lo = rows-call.lo table start work rows n room B.generators B.lent B.listed in
      let hi = rows-call.hi table start work rows n room B.generators B.lent B.listed in
      let lent = rows-call.work_lent table start work rows n room B.generators B.lent B.listed in
      let hi' = rows-call.hi table' start' work' rows n room' B.generators lent' listed' in
      let lent₁ = rows-call.work_lent table' start' work' rows n room' B.generators lent' listed' in
      let H = built_holds (composed_at rows n) n room (table_need n room) (take (work_need n room) work) B.generators lo hi (le_refl (table_need n room)) lent b.3.0 in
      let E = built_roomier (composed_at rows n) n room (table_need n room) (take (work_need n room) work) B.generators lo hi (le_refl (table_need n room)) lent
      room' (table_need n room') (take (work_need n room') work') hi' (le_refl (table_need n room')) lent₁ more (mul-le-mul more (le_refl (2 * n + 4))) b.3.0 in
      roomier_at b.3.1.0 b.3.1.1.0
      (lent_roomier table start n room (lent_table_lem (length table) start (length work) room n B.lent) table' start' work' room'
      (lent_table_lem (length table') start' (length work') room' n lent') more b.1 E.0 H.size_kept
      (rows-call.composed_is_build table' start' work' rows n room' B.generators lent' listed' ∙ ap (lent_back table' start' work' n room') E.1))
