-- What an accepted reading stored, as the theorems about the checks ask for it.
use Prim.Native.Nat.{ℕ, zero, suc, ◌+◌, ◌<◌}
use mathlib.Core.Path.{◌≡◌, refl, sym, ap, ◌∙◌, subst}
use mathlib.Core.List.{List, [], ◌∷◌, ◌++◌}
use native.Mathlib.Omega.{arith}
use lib.ListN.{length, get_or}
use Rattle.egg.specs.Table.{start_of, parent_of, last_of, back_of}
use Rattle.theory.specs.Table.{Columns}
use Rattle.theory.specs.Words.{Recorded}
use Rattle.theory.specs.Appearance.{recorded}
use Rattle.theory.proofs.ColumnLaws.{columns_by_back}
use Rattle.theory.proofs.Counting.{numbered_table}
use Rattle.theory.proofs.FirstPlaces.{first_parents}
use Rattle.theory.proofs.Recording.{word_of_recorded}
use Rattle.build_checks_laws.specs.Stored.{StoredTable, word_of}
use Rattle.build_reading_laws.specs.Read.{Read}
use Rattle.build_reading_laws.proofs.Readings.{read_words, read_letters}

-- Where the columns are permutations, the predecessors that reading stored are the steps back.
module _ {src back : ℕ → ℕ → ℕ} {n room size N : ℕ} {t : List ℕ} (R : Read src n room size N t) (C : Columns n N src back) where
  stored_back : (r g x : ℕ) → r < N → g < n → get_or t (start_of n r + n + g) 0 ≡ x → x ≡ suc (back r g)
  stored_back r g zero hr hg q = absurd (R.arrived {r = r} (C.closed hr hg) hg (C.step_back hr hg) q)
  stored_back r g (suc e) hr hg q =
      let p = R.predecessor hr hg q in
      let z : back (src e g) g ≡ e = C.back_step p.0 hg in
      ap suc (sym (subst (λ (y : ℕ). back y g ≡ e) p.1 z))

  pub read_stored : StoredTable t n N src back (parent_of t n) (last_of t n) (word_of t n)
  read_stored = record {
    successor = R.successor;
    predecessor = λ {e} {g} he hg. stored_back e g _ he hg refl;
    parents = λ pos he. refl;
    letters = λ pos he. refl;
    lengths = λ {e} he. read_letters R e he ∙ ap length (sym (read_words R e he));
  }

-- What reading stored, with the words that the numbers record.
module _ {src : ℕ → ℕ → ℕ} {n room size N : ℕ} {t : List ℕ} (R : Read src n room size N t) where
  pub read_recorded : Recorded N (parent_of t n) (last_of t n) (recorded n src)
  read_recorded =
      let W = word_of_recorded (first_parents R.appearance) in
      record {
        start = sym (read_words R 0 R.origin) ∙ W.start;
        grow = λ {e} pos he.
            sym (read_words R e he) ∙ W.grow pos he
            ∙ ap (λ (l : List ℕ). l ++ last_of t n e ∷ []) (read_words R (parent_of t n e) (omega (arith, (R.appearance.first pos he).earlier)));
      }

  pub words_stored : {back : ℕ → ℕ → ℕ} → Columns n N src back → StoredTable t n N src back (parent_of t n) (last_of t n) (recorded n src)
  words_stored C =
      let S = read_stored R C in
      record { successor = S.successor; predecessor = S.predecessor; parents = S.parents; letters = S.letters; lengths = λ {e} he. read_letters R e he }

  -- Where no predecessor is missing, those that reading stored make the columns permutations.
  pub read_columns : ((e : ℕ) → e < N → (g : ℕ) → g < n → get_or t (start_of n e + n + g) 0 ≡ 0 → ⊥) → Columns n N src (back_of t n)
  read_columns all = columns_by_back (numbered_table R.by_rule) (λ e g he hg. R.predecessor he hg (omega (arith, all e he g hg)))
