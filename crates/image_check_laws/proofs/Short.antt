-- After a reading that ended, the short checks give the verdict of all of 8 to 12, whatever the work holds: the tests that are left out cannot fail.
use Prim.Native.Nat.{ℕ, ◌+◌, ◌*◌, ◌≤◌, ◌<◌}
use mathlib.Core.Path.{◌≡◌, refl, sym, ap, ◌∙◌, subst}
use mathlib.Core.Bool.{Bool, true, false}
use mathlib.Core.List.{List}
use native.Mathlib.Nat.{add-zero}
use native.Mathlib.Omega.{arith}
use borrow.Author.Tests.{ltb-false}
use lib.Dec.{ltb}
use lib.ListN.{length, get_or, replicate}
use Rattle.egg.specs.Answers.{Verdict, fine}
use Rattle.std.specs.Prelude.{Ok, Err}
use Rattle.egg.specs.Table.{pick, start_of}
use Rattle.egg.specs.Scan.{refused_of, and_then}
use Rattle.egg.proofs.Scans.{Says}
use Rattle.build_checks.specs.Checks.{missing, check8, ranges, wrong, check_table, counted as arrived, counts_right, verdict_of, then_checked, with_table, check_rest, check_group}
use Rattle.build_checks_inverses.specs.Inverses.{fill_inverses, inverses_right}
use Rattle.build_checks_group.specs.Lefts.{identity_row, spelled, check_steps, Lefts, left, left_verdict, then_left, lefts}
use Rattle.build_reading.specs.Reading.{Placed, placed, read_all, composed_at}
use Rattle.theory.specs.Table.{Table}
use Rattle.theory.specs.Words.{Parents, Recorded}
use Rattle.theory.specs.Regular.{Check}
use Rattle.theory.proofs.Counting.{numbered_table}
use Rattle.theory.proofs.FirstPlaces.{first_parents}
use Rattle.build_checks_laws.specs.Stored.{StoredTable}
use Rattle.build_checks_laws.proofs.Tests.{missing_fine, counts_fine}
use Rattle.build_checks_laws.proofs.Inverses.{fill_kept, stored_kept}
use Rattle.build_checks_laws.proofs.Lefts.{lefts_sound, lefts_complete}
use Rattle.build_checks_laws.proofs.Arrivals.{arrivals_right, counted_length}
use Rattle.build_checks_laws.proofs.Complete.{in_range, words_right}
use Rattle.build_checks_laws.proofs.Refused.{Twelve, lefts_late}
use Rattle.build_reading_laws.specs.Read.{Read}
use Rattle.build_reading_laws.proofs.Readings.{accepted_read, read_readable}
use Rattle.image_check.specs.Short.{short_table, short_rest, short, verdict_number, verdict_by, number_by, judged, ruled, built}
use Rattle.build_reading_laws.proofs.Storing.{read_recorded, words_stored, read_columns}

-- 12 by its loop: fine just if each generator commutes, and else 12 with no places. So it does not depend on the work.
fine_left : (l : Lefts) → left_verdict l ≡ fine → (w : List ℕ) × (l ≡ left fine w)
fine_left (left v w) e = (w, ap (λ (x : Verdict). left x w) e)

module _ {n N : ℕ} {step back : ℕ → ℕ → ℕ} {parent last : ℕ → ℕ} {word : ℕ → List ℕ} {t : List ℕ} (small : N ≤ 65535)
    (S : StoredTable t n N step back parent last word) (T : Table n N step) (P : Parents n N step parent last) (R : Recorded N parent last word) where
  lefts_check : (w : List ℕ) → (0 < n → N ≤ length w) → left_verdict (lefts n t n N w 0) ≡ fine → Check n N step word
  lefts_check w room e =
      let q = fine_left (lefts n t n N w 0) e in
      record { commutes = λ {s} {g} {x} hs hg hx. lefts_sound small S T P R n w 0 q.0 (omega arith) room q.1 s (omega arith) (omega arith) x hx g hg }

  check_lefts : (w : List ℕ) → (0 < n → N ≤ length w) → Check n N step word → left_verdict (lefts n t n N w 0) ≡ fine
  check_lefts w room c = ap left_verdict (lefts_complete small S T P R n w 0 (omega arith) room c).1

  pub lefts_same : (w w' : List ℕ) → (0 < n → N ≤ length w) → (0 < n → N ≤ length w') → left_verdict (lefts n t n N w 0) ≡ left_verdict (lefts n t n N w' 0)
  lefts_same w w' room room' =
      by (left_verdict (lefts n t n N w 0)) (left_verdict (lefts n t n N w' 0)) refl refl (lefts_late n t n N w 0) (lefts_late n t n N w' 0) where
        by : (u v : Verdict) → left_verdict (lefts n t n N w 0) ≡ u → left_verdict (lefts n t n N w' 0) ≡ v → Says Twelve u → Says Twelve v → u ≡ v
        by (Ok _) (Ok _) p q a b = refl
        by (Ok _) (Err s) p q a b = sym (check_lefts w' room' (lefts_check w room p)) ∙ q
        by (Err r) (Ok _) p q a b = sym p ∙ check_lefts w room (lefts_check w' room' q)
        by (Err r) (Err s) p q a b = ap Err (a.of r refl ∙ sym (b.of s refl))

-- Two chains of checks, the short one and the whole one: where the tests that only the whole one has are fine, they give the same.
table_verdict : (f : List ℕ) (z : Lefts) → left_verdict z ≡ verdict_of (with_table f z)
table_verdict f (left v w) = refl

module _ (t f w w' c : List ℕ) (n N : ℕ) (m₀ r k s : Verdict) (z : Lefts) (first : m₀ ≡ fine) where
  abbrev Same : Verdict → Verdict → Verdict → Verdict → Type 0
  Same m g i d =
      short_rest (then_left m t (then_left g t (then_left i f (left d f)))) w n N
      ≡ verdict_of (then_checked (and_then (and_then m₀ m) (and_then r g)) t w' (then_checked k t c (then_checked i f c (then_checked (and_then d s) f c (with_table f z)))))

  abbrev Between : Verdict → Type 0
  Between m = m ≡ fine → (r ≡ fine) × (k ≡ fine) × (s ≡ fine) × (left_verdict (lefts n f n N w 0) ≡ left_verdict z)

  chain : (m g i d : Verdict) → Between m → Same m g i d
  chain (Err a) g i d b = rw first
  chain (Ok _) (Err a) i d b = rw (first, (b refl).0)
  chain (Ok _) (Ok _) (Err a) d b = rw (first, (b refl).0, (b refl).1)
  chain (Ok _) (Ok _) (Ok _) (Err a) b = rw (first, (b refl).0, (b refl).1)
  chain (Ok _) (Ok _) (Ok _) (Ok _) b = rw (first, (b refl).0, (b refl).1, (b refl).2) ((b refl).3 ∙ table_verdict f z)

module _ {src : ℕ → ℕ → ℕ} {n room size N : ℕ} {t : List ℕ} (few : n ≤ 8) (small : room ≤ 65535) (R : Read src n room size N t) (w w' : List ℕ)
    (work : 0 < n → N ≤ length w) (work' : 0 < n → N ≤ length w') where
  there : missing t n N 0 ≡ fine
  there = (missing_fine t n N 0).1 (λ e he g hg z. let q : get_or t (start_of n e + g) 0 ≡ 0 = simp add-zero at z in omega (arith, R.successor he hg))

  between : missing t n N n ≡ fine
      → (ranges t n N ≡ fine) × (counts_right (arrived t w' n N) n N ≡ fine) × (spelled (fill_inverses N t n 0) n N ≡ fine)
      × (left_verdict (lefts n (fill_inverses N t n 0) n N w 0) ≡ left_verdict (lefts n (fill_inverses N t n 0) n N (arrived t w' n N) 0))
  between q =
      let C = read_columns R ((missing_fine t n N n).0 q) in
      let S = words_stored R C in
      let T = numbered_table R.by_rule in
      let P = first_parents R.appearance in
      let W = read_recorded R in
      let S₁ = stored_kept (fill_kept t n N) S in
      let N_small : N ≤ 65535 = omega (arith, R.within) in (
        in_range S T P W C (λ e he. (read_readable R).short he),
        (counts_fine t n N (arrived t w' n N)).1 (arrivals_right few S C w' work'),
        words_right S₁ T P W C,
        lefts_same N_small S₁ T P W w (arrived t w' n N) work (λ pos. omega (arith, work' pos, counted_length t w' n N)),
      )

  pub short_is_whole : short t w n N ≡ verdict_of (check_group t w' n N)
  unfolding short short_table check_group check_rest check_table check8 check_steps
  short_is_whole =
      chain t (fill_inverses N t n 0) w w' (arrived t w' n N) n N (missing t n N 0) (ranges t n N) (counts_right (arrived t w' n N) n N)
      (spelled (fill_inverses N t n 0) n N) (lefts n (fill_inverses N t n 0) n N (arrived t w' n N) 0) there
      (missing t n N n) (wrong t n N) (inverses_right (fill_inverses N t n 0) n N) (identity_row (fill_inverses N t n 0) n) between

-- So the verdict of all of 8 to 12 does not depend on what the work held.
pub whole_same : {src : ℕ → ℕ → ℕ} {n room size N : ℕ} {t : List ℕ} (few : n ≤ 8) (small : room ≤ 65535) (R : Read src n room size N t) (w w' : List ℕ)
    (work : 0 < n → N ≤ length w) (work' : 0 < n → N ≤ length w') → verdict_of (check_group t w n N) ≡ verdict_of (check_group t w' n N)
whole_same few small R w w' work work' = sym (short_is_whole few small R w w work work) ∙ short_is_whole few small R w w' work work'

-- The judgement of rows over bytes gives the verdict that reading them into 32-bit numbers and all of 8 to 12 give.
module _ (rows : List ℕ) (n room size : ℕ) (w w' : List ℕ) (few : n ≤ 8) (lo : 1 ≤ room) (hi : room ≤ 65535) (fits : room * (2 * n + 4) ≤ size)
    (work : 0 < n → room ≤ length w) (work' : 0 < n → room ≤ length w') where
  pub judged_is_ruled : judged size w rows n room ≡ ruled size w' rows n room
  unfolding judged ruled
  judged_is_ruled = by (read_all (composed_at rows n) n room (replicate size 0)) refl where
    enough : (c : ℕ) (t : List ℕ) → read_all (composed_at rows n) n room (replicate size 0) ≡ placed (Ok c) t → room ≤ c
        → short t w n room ≡ verdict_of (check_group t w' n room)
    enough c t q h =
        let R = accepted_read (composed_at rows n) n room size few lo hi fits q in
        let e : c ≡ room = omega (arith, R.within) in
        short_is_whole few hi (subst (λ (k : ℕ). Read (composed_at rows n) n room size k t) e R) w w' work work'

    counting : (c : ℕ) (t : List ℕ) → read_all (composed_at rows n) n room (replicate size 0) ≡ placed (Ok c) t → (b : Bool) → ltb c room ≡ b
        → pick b (refused_of 16 0 0 0) (short t w n room) ≡ pick b (refused_of 16 0 0 0) (verdict_of (check_group t w' n room))
    counting c t q true e = refl
    counting c t q false e = enough c t q (ltb-false c room e)

    by : (p : Placed) → read_all (composed_at rows n) n room (replicate size 0) ≡ p
        → verdict_by (λ t. short t w n room) p room ≡ verdict_by (λ t. verdict_of (check_group t w' n room)) p room
    by (placed (Err r) t) q = refl
    by (placed (Ok c) t) q = counting c t q (ltb c room) refl

-- The number of that verdict.
pub pick_number : (b : Bool) (u v : Verdict) → verdict_number (pick b u v) ≡ pick b (verdict_number u) (verdict_number v)
pick_number true u v = refl
pick_number false u v = refl

by_number : (check : List ℕ → Verdict) (p : Placed) (room : ℕ) → verdict_number (verdict_by check p room) ≡ number_by check p room
by_number check (placed (Err r) t) room = refl
by_number check (placed (Ok c) t) room = pick_number (ltb c room) (refused_of 16 0 0 0) (check t)

pub ruled_number : (size : ℕ) (w rows : List ℕ) (n room : ℕ) → verdict_number (ruled size w rows n room) ≡ built size w rows n room
unfolding ruled built
ruled_number size w rows n room =
    by_number (λ t. verdict_of (check_group t w n room)) (read_all (composed_at rows n) n room (replicate size 0)) room
