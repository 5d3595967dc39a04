-- Putting letters before the last ones changes nothing that the checks say of a table: a group's, with its recorded words.
use Prim.Native.Nat.{ℕ, ◌+◌, ◌*◌, ◌<◌}
use mathlib.Core.Path.{◌≡◌, refl, sym, ap, ◌∙◌}
use mathlib.Core.List.{List}
use native.Mathlib.Omega.{arith}
use lib.ListN.{length}
use Rattle.egg.specs.Table.{start_of, parent_of, last_of, inverse_of, step_of, back_of}
use Rattle.build_word_cells.specs.Hops.{with_hops}
use Rattle.build_word_cells.proofs.Hops.{hops_long, hops_other, hops_cell, hops_last}
use Rattle.theory.specs.Words.{Parents, Recorded, walk}
use Rattle.theory.proofs.Walking.{walk_agree, retrace_agree}
use Rattle.theory.proofs.Recording.{recorded_once, recorded_spelled, word_of_recorded}
use Rattle.build_checks_laws.specs.Stored.{Kept, word_of}
use Rattle.build_checks_laws.specs.Sound.{Sound}
use Rattle.build_checks_laws.proofs.Inverses.{keeps, kept_cell}

pub hops_kept : (t : List ℕ) (n N : ℕ) → Kept t (with_hops N t n) n N
hops_kept t n N = keeps t (with_hops N t n) n N (hops_long N t n) (λ i h. hops_other N t n i (λ e he. (h e he).0)) (hops_last N t n)

-- What is kept, with the inverses, is sound as it was.
module _ {t t₁ : List ℕ} {n N : ℕ} (K : Kept t t₁ n N) (inverse_same : (e : ℕ) → inverse_of t₁ n e ≡ inverse_of t n e) (S : Sound t n N) where
  parents : Parents n N (step_of t₁ n) (parent_of t₁ n) (last_of t₁ n)
  parents = record {
    earlier = λ {e} pos he. rw (K.parent_same e) (S.parents.earlier pos he);
    generator = λ {e} pos he. rw (K.last_same e) (S.parents.generator pos he);
    arrives = λ {e} pos he. rw (K.parent_same e, K.last_same e, K.step_same (parent_of t n e) (S.parents.generator pos he)) (S.parents.arrives pos he);
  }

  recorded : Recorded N (parent_of t₁ n) (last_of t₁ n) (word_of t₁ n)
  recorded = word_of_recorded parents

  words : (e : ℕ) → e < N → word_of t₁ n e ≡ word_of t n e
  words = recorded_once recorded S.recorded (λ e pos he. (parents.earlier pos he, K.parent_same e, K.last_same e))

  sound_kept : Sound t₁ n N
  sound_kept = record {
    table = record { origin = S.table.origin; closed = λ {e} {g} he hg. rw (K.step_same e hg) (S.table.closed he hg) };
    parents = parents;
    recorded = recorded;
    spelled = recorded_spelled parents recorded;
    columns = record {
      closed = λ {e} {g} he hg. rw (K.back_same e hg) (S.columns.closed he hg);
      step_back = λ {e} {g} he hg. rw (K.back_same e hg, K.step_same (back_of t n e g) hg) (S.columns.step_back he hg);
      back_step = λ {e} {g} he hg. rw (K.step_same e hg, K.back_same (step_of t n e g) hg) (S.columns.back_step he hg);
    };
    check = record {
      commutes = λ {s} {g} {x} hs hg hx.
          let A : (e g : ℕ) → g < n → step_of t₁ n e g ≡ step_of t n e g = λ e g h. K.step_same e h in
          let y = step_of t n x g in
          let hy : y < N = S.table.closed hx hg in
          let z = step_of t n 0 s in
          let hz : z < N = S.table.closed S.table.origin hs in
          let B : (e g : ℕ) → e < N → g < n → step_of t₁ n e g ≡ step_of t n e g = λ e g _ h. A e g h in
          rw (A x g hg, words y hy, words x hx, A 0 s hs, walk_agree S.table B hz (S.spelled.over hy), walk_agree S.table B hz (S.spelled.over hx))
          (S.check.commutes hs hg hx ∙ sym (A (walk (step_of t n) z (word_of t n x)) g hg));
    };
    identity_row_lem = λ {g} hg. K.step_same 0 hg ∙ S.identity_row_lem hg;
    stored = record {
      successor = λ {e} {g} he hg. omega (arith, kept_cell K (start_of n e + g) e g (omega arith) refl, S.stored.successor he hg);
      predecessor = λ {e} {g} he hg. omega (arith, kept_cell K (start_of n e + n + g) e (n + g) (omega arith) (omega arith), S.stored.predecessor he hg);
      parents = λ pos he. refl;
      letters = λ pos he. refl;
      lengths = λ {e} he. K.length_same e ∙ S.stored.lengths he ∙ ap length (sym (words e he));
    };
    short = λ {e} he. rw (K.length_same e) (S.short he);
    inverses = λ {e} he. rw (inverse_same e, words e he, retrace_agree S.columns (λ x g _ hg. K.back_same x hg) S.table.origin (S.spelled.over he)) (S.inverses he);
  }

pub hopping_sound : {t : List ℕ} {n N : ℕ} → Sound t n N → Sound (with_hops N t n) n N
hopping_sound {t} {n} {N} S =
    sound_kept (hops_kept t n N)
    (λ e. let q : start_of n e + (2 * n + 3) ≡ start_of n e + 2 * n + 3 = omega arith in rw q at (hops_cell N t n e (2 * n + 3) (omega arith) (omega arith))) S
