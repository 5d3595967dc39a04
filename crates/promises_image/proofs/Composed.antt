-- The verdict on rows read over bytes is the one that `from_composed` gives on the same rows with room N, but for 16 where fewer than N are reached.
use Prim.Native.Nat.{ℕ, ◌+◌, ◌*◌, ◌≤◌, ◌<◌}
use mathlib.Core.Path.{◌≡◌, refl, sym, ap, ◌∙◌, subst}
use mathlib.Core.Bool.{Bool, true, false}
use mathlib.Core.List.{List}
use native.Mathlib.Nat.{mul-le-mul, le_refl}
use native.Mathlib.Omega.{arith}
use borrow.Author.Tests.{le-leb, le-ltb, leb-true, ltb-false}
use lib.Dec.{ltb}
use lib.ListN.{length, take, replicate}
use lib.Seq.{length-take-le}
use Rattle.egg.specs.Answers.{Verdict, fine}
use Rattle.std.specs.Prelude.{Ok, Err}
use Rattle.egg.specs.Table.{pick}
use Rattle.egg.specs.Scan.{refused_of}
use Rattle.egg.proofs.Rooms.{positive, limited}
use Rattle.build_checks.specs.Checks.{Checked, checked, verdict_of, check_group}
use Rattle.build_lending.specs.Finish as finish
use Rattle.build_lending.specs.Finish.{Built, settled_by, finished, finished_placed}
use Rattle.build_lending.specs.Lending.{table_need, work_need, lent_right, lent_back}
use Rattle.build_lending.proofs.Lending.{lent_table_lem, lent_enough}
use Rattle.build_reading.specs.Reading.{Placed, placed, read_all, composed_at}
use Rattle.factor.specs.Composed.{composed_in, composed}
use Rattle.build_reading_laws.specs.Read.{Read}
use Rattle.build_reading_laws.proofs.Readings.{accepted_read}
use Rattle.image_check.specs.Short.{verdict_number, verdict_by, ruled, built}
use Rattle.image_check_laws.proofs.Short.{whole_same, pick_number, ruled_number}
use Rattle.promises_image.specs.Images.{ends_fewer, made_answer, made_number}

abbrev pub built_answer : Built → Verdict
built_answer (finish.built (Ok c) t w) = fine
built_answer (finish.built (Err r) t w) = Err r

pub back_answer : (table : List ℕ) (start : ℕ) (work : List ℕ) (n room : ℕ) (b : Built) → made_answer (lent_back table start work n room b) ≡ built_answer b
back_answer table start work n room (finish.built (Ok c) t w) = refl
back_answer table start work n room (finish.built (Err r) t w) = refl

settled_answer : (n c : ℕ) (k : Checked) → verdict_of k ≡ built_answer (settled_by n c k)
settled_answer n c (checked (Ok _) t w) = refl
settled_answer n c (checked (Err r) t w) = refl

module _ (table : List ℕ) (start : ℕ) (work rows : List ℕ) (n room : ℕ) (hn : n ≤ 8)
    (lent : lent_right (length table) start (length work) room n ≡ true) (listed : room * n ≤ length rows)
    (w : List ℕ) (enough : 0 < n → room ≤ length w) where
  abbrev w₁ : List ℕ
  w₁ = take (work_need n room) work

  lo : 1 ≤ room
  lo = positive (length table) start room n (lent_table_lem (length table) start (length work) room n lent)

  hi : room ≤ 65535
  hi = limited (length table) start room n (lent_table_lem (length table) start (length work) room n lent)

  enough₁ : 0 < n → room ≤ length w₁
  enough₁ pos =
      let p : 1 ≤ 6 * n * n + 4 * n = omega arith in
      rw (length-take-le (work_need n room) work (leb-true _ _ (lent_enough (length table) start (length work) room n lent)))
      (omega (arith, mul-le-mul (le_refl room) p))

  composed_answer : made_answer (composed table start work rows n room) ≡ built_answer (composed_in (table_need n room) w₁ rows n room)
  unfolding composed
  composed_answer =
      simp (le-ltb _ _ hn, lent, le-leb _ _ listed) (back_answer table start work n room (composed_in (table_need n room) w₁ rows n room))

  -- By what the reading gave.
  whole : (c : ℕ) (t : List ℕ) → read_all (composed_at rows n) n room (replicate (table_need n room) 0) ≡ placed (Ok c) t → room ≤ c
      → verdict_of (check_group t w n room) ≡ built_answer (finished_placed (placed (Ok c) t) n w₁)
  unfolding finished
  whole c t q h =
      let R = accepted_read (composed_at rows n) n room (table_need n room) hn lo hi (le_refl (table_need n room)) q in
      let e : c ≡ room = omega (arith, R.within) in
      whole_same hn hi (subst (λ (k : ℕ). Read (composed_at rows n) n room (table_need n room) k t) e R) w w₁ enough enough₁
      ∙ settled_answer n c (check_group t w₁ n room)
      ∙ ap (λ (k : ℕ). built_answer (settled_by n c (check_group t w₁ n k))) (sym e)

  counting : (c : ℕ) (t : List ℕ) → read_all (composed_at rows n) n room (replicate (table_need n room) 0) ≡ placed (Ok c) t → (b : Bool) → ltb c room ≡ b
      → pick b (refused_of 16 0 0 0) (verdict_of (check_group t w n room)) ≡ pick b (refused_of 16 0 0 0) (built_answer (finished_placed (placed (Ok c) t) n w₁))
  counting c t q true e = refl
  counting c t q false e = whole c t q (ltb-false c room e)

  by : (p : Placed) → read_all (composed_at rows n) n room (replicate (table_need n room) 0) ≡ p
      → verdict_by (λ t. verdict_of (check_group t w n room)) p room ≡ pick (ends_fewer p room) (refused_of 16 0 0 0) (built_answer (finished_placed p n w₁))
  unfolding finished
  by (placed (Err r) t) q = refl
  by (placed (Ok c) t) q = counting c t q (ltb c room) refl

  pub ruled_is_composed : ruled (table_need n room) w rows n room
      ≡ pick (ends_fewer (read_all (composed_at rows n) n room (replicate (table_need n room) 0)) room) (refused_of 16 0 0 0) (made_answer (composed table start work rows n room))
  unfolding ruled composed_in
  ruled_is_composed =
      by (read_all (composed_at rows n) n room (replicate (table_need n room) 0)) refl
      ∙ ap (λ (v : Verdict). pick (ends_fewer (read_all (composed_at rows n) n room (replicate (table_need n room) 0)) room) (refused_of 16 0 0 0) v) (sym composed_answer)

  pub built_is_composed : built (table_need n room) w rows n room
      ≡ pick (ends_fewer (read_all (composed_at rows n) n room (replicate (table_need n room) 0)) room) 16 (made_number (composed table start work rows n room))
  built_is_composed =
      sym (ruled_number (table_need n room) w rows n room) ∙ ap verdict_number ruled_is_composed
      ∙ pick_number (ends_fewer (read_all (composed_at rows n) n room (replicate (table_need n room) 0)) room) (refused_of 16 0 0 0) (made_answer (composed table start work rows n room))
