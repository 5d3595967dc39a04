-- Two accepted tables with the same steps, whose elements have their parents and last generators from the places where they first appear, hold the same
-- numbers: predecessors, words, their letters and inverses follow from the steps.
use Prim.Native.Nat.{ℕ, zero, suc, ◌<◌}
use mathlib.Core.Path.{◌≡◌, refl, sym, ap, ◌∙◌, subst}
use mathlib.Core.List.{List}
use native.Mathlib.Omega.{arith}
use lib.ListN.{length}
use Rattle.egg.specs.Table.{parent_of, last_of, inverse_of, step_of, back_of}
use Rattle.build_word_cells.specs.Hops.{hop_from, Hops}
use Rattle.theory.specs.Words.{retrace}
use Rattle.theory.proofs.Walking.{retrace_agree}
use Rattle.theory.proofs.FirstPlaces.{parent_unique, last_unique}
use Rattle.theory.proofs.Recording.{recorded_once}
use Rattle.theory.proofs.RuleLaws.{appearance_agree}
use Rattle.build_checks_laws.specs.Stored.{word_of}
use Rattle.build_checks_laws.specs.Sound.{Sound, Ruled}
use Rattle.build_laws.proofs.SameRows.{SameRows, same_cells}
use Rattle.promises_image.specs.Images.{SameTable}

module _ {n N : ℕ} {s s' : List ℕ} (S : Sound s n N) (S' : Sound s' n N) (R : Ruled s n N) (R' : Ruled s' n N) (H : Hops s n N) (H' : Hops s' n N)
    (same : (e g : ℕ) → e < N → g < n → step_of s' n e g ≡ step_of s n e g) where
  back_same : (e g : ℕ) → e < N → g < n → back_of s' n e g ≡ back_of s n e g
  back_same e g he hg =
      let b = back_of s n e g in
      let hb : b < N = S.columns.closed he hg in
      let q : step_of s' n b g ≡ e = same b g hb hg ∙ S.columns.step_back he hg in
      subst (λ (x : ℕ). back_of s' n x g ≡ b) q (S'.columns.back_step hb hg)

  parent_same : (e : ℕ) → e < N → parent_of s' n e ≡ parent_of s n e
  parent_same = parent_unique (appearance_agree R.appearance same) R'.appearance (R'.no_parent ∙ sym R.no_parent)

  last_same : (e : ℕ) → e < N → last_of s' n e ≡ last_of s n e
  last_same = last_unique (appearance_agree R.appearance same) R'.appearance (R'.no_last ∙ sym R.no_last)

  parent_below : (e : ℕ) → e < N → parent_of s n e < N
  parent_below zero he = rw R.no_parent he
  parent_below (suc e) he = let l = S.parents.earlier {e = suc e} (omega arith) he in omega arith

  letters_same : (j e : ℕ) → e < N → hop_from j s' n e ≡ hop_from j s n e
  unfolding hop_from
  letters_same zero e he = refl
  letters_same (suc j) e he = rw (last_same e he, parent_same e he, letters_same j (parent_of s n e) (parent_below e he))

  word_same : (e : ℕ) → e < N → word_of s' n e ≡ word_of s n e
  word_same =
      recorded_once S'.recorded S.recorded
      (λ e pos he. (S'.parents.earlier pos he, parent_same e he, last_same e he))

  inverse_same : (e : ℕ) → e < N → inverse_of s' n e ≡ inverse_of s n e
  inverse_same e he =
      S'.inverses he ∙ ap (λ (w : List ℕ). retrace (back_of s' n) 0 w) (word_same e he)
      ∙ retrace_agree S.columns back_same S.table.origin (S.spelled.over he) ∙ sym (S.inverses he)

  same_rows : SameRows s s' n N
  same_rows = record {
    successors = λ e g he hg. S'.stored.successor he hg ∙ ap suc (same e g he hg) ∙ sym (S.stored.successor he hg);
    predecessors = λ e g he hg. S'.stored.predecessor he hg ∙ ap suc (back_same e g he hg) ∙ sym (S.stored.predecessor he hg);
    parents = parent_same;
    hops = λ e he. H'.five he ∙ letters_same 5 e he ∙ sym (H.five he);
    lengths = λ e he. S'.stored.lengths he ∙ ap length (word_same e he) ∙ sym (S.stored.lengths he);
    inverses = inverse_same;
  }

  pub same_table : SameTable s s' n N
  same_table = record { cells = same_cells same_rows }
