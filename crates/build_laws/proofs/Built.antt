-- A build from the numbers of a source in its stretches: accepted exactly when the rows are taken, and then the table holds them.
use Prim.Native.Nat.{ℕ, suc, ◌+◌, ◌*◌, ◌≤◌, ◌<◌}
use mathlib.Core.Path.{◌≡◌, sym, ap, ◌∙◌, subst}
use mathlib.Core.List.{List}
use native.Mathlib.Nat.{mul-le-mul, le_refl}
use native.Mathlib.Omega.{arith}
use lib.ListN.{length, replicate}
use Rattle.egg.specs.Answers.{fine}
use Rattle.std.specs.Prelude.{Ok, Err}
use Rattle.egg.specs.Table.{start_of, step_of}
use Rattle.build_word_cells.specs.Hops.{with_hops}
use Rattle.build_checks.specs.Checks.{checked, check_group}
use Rattle.build_lending.specs.Finish.{built, zeroed, finished, finished_placed}
use Rattle.build_lending.proofs.Finishing.{refused_counted}
use Rattle.build_lending.specs.Lending.{work_need}
use Rattle.build_reading.specs.Reading.{Placed, placed, read_all}
use Rattle.theory.proofs.AnyCarrier.{any_carrier}
use Rattle.theory.proofs.Counting.{numbered_table}
use Rattle.theory.proofs.FirstPlaces.{first_parents}
use Rattle.theory.proofs.Recording.{word_of_recorded}
use Rattle.theory.proofs.Complete.{columns}
use Rattle.build_checks_laws.proofs.Accepted.{sound_regular}
use Rattle.build_checks_laws.proofs.Ruling.{ruled_kept}
use Rattle.build_checks_laws.proofs.Complete.{checks_complete}
use Rattle.build_checks_laws.proofs.Refused.{regular_same}
use Rattle.build_reading_laws.specs.Read.{Read}
use Rattle.build_reading_laws.proofs.Readings.{accepted_read, readable_accepted, read_words, read_readable, read_steps, read_rule, read_appearance}
use Rattle.build_reading_laws.proofs.Storing.{read_stored}
use Rattle.build_laws.proofs.Settled.{Settled, settle, by_check, settled_kept, settled_work, settled_sound, settled_hops}
use Rattle.build_laws.specs.Taken.{Taken, Holding}

-- An accepted count, and then an accepted end of the build.
pub record Passed (p : Placed) (n N : ℕ) (w t w₁ : List ℕ) : Type 0 where
  pub before : List ℕ
  pub count : p ≡ placed (Ok N) before
  pub end : Settled n N (check_group before w n N) t w₁

pub passed : (p : Placed) (n : ℕ) (w : List ℕ) {N : ℕ} {t w₁ : List ℕ} → finished_placed p n w ≡ built (Ok N) t w₁ → Passed p n N w t w₁
unfolding finished
passed (placed (Ok c) t₀) n w {N} {t} {w₁} q =
    let b = by_check (check_group t₀ w n c) q in
    record {
      before = t₀;
      count = ap (λ (k : ℕ). placed (Ok k) t₀) b.0;
      end = subst (λ (k : ℕ). Settled n N (check_group t₀ w n k) t w₁) b.0 b.1;
    }
passed (placed (Err r) t₀) n w q = absurd (refused_counted q)

pub passes : {p : Placed} (n : ℕ) {N : ℕ} (w : List ℕ) {t₀ t w₁ : List ℕ} → p ≡ placed (Ok N) t₀ → Settled n N (check_group t₀ w n N) t w₁
    → finished_placed p n w ≡ built (Ok N) t w₁
unfolding finished
passes n w a E = rw (a, E.checks, E.lettered, E.wiped)

-- A place beyond the rows has no letters and no inverse.
pub below_cells : (n N e : ℕ) → e < N → (i : ℕ) → N * (2 * n + 4) ≤ i → (i ≡ start_of n e + 2 * n + 1 → ⊥) × (i ≡ start_of n e + 2 * n + 3 → ⊥)
unfolding start_of
below_cells n N e he i h =
    let inside = mul-le-mul {n₁ = suc e} he (le_refl (2 * n + 4)) in
    (λ q. omega (arith, inside), λ q. omega (arith, inside))

module _ (src : ℕ → ℕ → ℕ) (n room size : ℕ) (w : List ℕ) (few : n ≤ 8) (lo : 1 ≤ room) (hi : room ≤ 65535) (fits : room * (2 * n + 4) ≤ size)
    (work : work_need n room ≤ length w) where
  -- The work has a number for each element.
  pub work_enough : {N : ℕ} → N ≤ room → 0 < n → N ≤ length w
  work_enough h pos =
      let one : 1 ≤ 6 * n * n + 4 * n = omega arith in
      omega (arith, mul-le-mul (le_refl room) one)

  pub rows_fit : {N k : ℕ} → N ≤ room → k ≡ size → N * (2 * n + 4) ≤ k
  rows_fit h e = omega (arith, mul-le-mul h (le_refl (2 * n + 4)))

  module _ {N : ℕ} {t₀ : List ℕ} (R : Read src n room size N t₀) where
    -- What was accepted after this reading.
    pub settled_holds : {t w₁ : List ℕ} → Settled n N (check_group t₀ w n N) t w₁ → Holding src n room size N t
    settled_holds {t} E =
        let K = settled_kept t₀ w E in
        let S = settled_sound t₀ w E (rows_fit R.within R.whole) R.origin (omega (arith, R.within)) in
        let same : (e g : ℕ) → e < N → g < n → step_of t n e g ≡ src e g = λ e g he hg. K.step_same e hg ∙ read_steps R e g he hg in
        record {
          taken = record {
            readable = read_readable R;
            identity_row_lem = λ g hg. sym (same 0 g R.origin hg) ∙ S.identity_row_lem hg;
            group = any_carrier.1 (regular_same S.table same (sound_regular S));
          };
          sound = S;
          ruled = ruled_kept K S (read_rule R) (read_appearance R) R.no_parent R.no_last;
          hops = settled_hops t₀ w E (rows_fit R.within R.whole);
          size_kept = K.size ∙ R.whole;
          steps = λ {e} {g} he hg. same e g he hg;
          beyond = λ {i} h. K.other i (λ e he. below_cells n N e he i h) ∙ R.beyond h;
        }

    -- And a group's rows are accepted.
    pub taken_checked : Taken src n room N → (t : List ℕ) × (w₁ : List ℕ) × (check_group t₀ w n N ≡ checked fine t w₁)
    taken_checked G =
        let r = any_carrier.0 G.group in
        let C = columns r.group r.steps in
        checks_complete few (omega (arith, R.within)) (rows_fit R.within R.whole) (read_stored R C) (numbered_table R.by_rule)
        (first_parents R.appearance) (word_of_recorded (first_parents R.appearance)) C
        (λ e he. rw (read_words R e he) (G.readable.short he)) w (work_enough R.within) G.identity_row_lem r

  pub built_holds : {N : ℕ} {t w₁ : List ℕ} → finished_placed (read_all src n room (replicate size 0)) n w ≡ built (Ok N) t w₁ → Holding src n room size N t
  built_holds q =
      let p = passed (read_all src n room (replicate size 0)) n w q in
      settled_holds (accepted_read src n room size few lo hi fits p.count) p.end

  -- Then the work is zero.
  pub built_work : {N : ℕ} {t w₁ : List ℕ} → finished_placed (read_all src n room (replicate size 0)) n w ≡ built (Ok N) t w₁ → w₁ ≡ replicate (length w) 0
  built_work q = let p = passed (read_all src n room (replicate size 0)) n w q in settled_work p.before w p.end

  pub taken_built : {N : ℕ} → Taken src n room N → (t : List ℕ) × (w₁ : List ℕ) × (finished_placed (read_all src n room (replicate size 0)) n w ≡ built (Ok N) t w₁)
  taken_built {N} G =
      let a = readable_accepted src n room size few lo hi fits G.readable in
      let R = accepted_read src n room size few lo hi fits a.1 in
      let b = taken_checked R G in
      (with_hops N b.0 n, zeroed b.1, passes n w a.1 (settle b.2))
