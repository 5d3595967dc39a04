-- Reading keeps the length of the table.
use Prim.Native.Nat.{ℕ, zero, suc, ◌+◌}
use mathlib.Core.Path.{◌≡◌, refl, ap, ◌∙◌, subst}
use mathlib.Core.Bool.{Bool, true, false}
use mathlib.Core.List.{List}
use lib.Dec.{leb, ltb}
use lib.ListN.{length}
use Rattle.egg.specs.Answers.{Counted, Reached, numbered}
use Rattle.std.specs.Prelude.{Ok, Err}
use Rattle.egg.specs.declared.GroupElementId.{GroupElementId}
use Rattle.egg.specs.declared.GeneratorId.{GeneratorId}
use Rattle.egg.specs.Table.{pick, length_of}
use Rattle.build_reading.specs.Build.{set_step, set_word, Adds, adds}
use Rattle.build_reading.specs.Reading.{Placed, placed, then_placed, on_adds, read_place, read_row, read_from, read_all}
use Rattle.enumeration_run_laws.proofs.Marking.{set_length}
use Rattle.enumeration_run_laws.proofs.Growing.{word_length}

abbrev pub placed_table : Placed → List ℕ
placed_table (placed c t) = t

on_adds_table : (count : ℕ) (a : Reached) (t : List ℕ) → placed_table (on_adds count a t) ≡ t
on_adds_table count (Ok e) t = refl
on_adds_table count (Err r) t = refl

pub adds_length : (t : List ℕ) (n room count : ℕ) (e : GroupElementId) (g : GeneratorId) → length (adds t n room count e g).table ≡ length t
unfolding adds
adds_length t n room count e g = by (leb room count) (leb 4096 (length_of t n e.0)) where
  new : GroupElementId
  new = record { 0 = count }

  by : (a b : Bool) → length (pick {A = Adds} a (record { answer = Err (numbered 5 e.0 g.0 0); table = t })
      (pick b (record { answer = Err (numbered 6 e.0 g.0 0); table = t })
      (record { answer = Ok new; table = set_step (set_word t n new e g (length_of t n e.0 + 1)) n e g new }))).table ≡ length t
  by true b = refl
  by false true = refl
  by false false = set_length (set_word t n new e g (length_of t n e.0 + 1)) n e g new ∙ word_length t n count e g (length_of t n e.0 + 1)

pub place_length : (t : List ℕ) (n room count e g v : ℕ) → length (placed_table (read_place t n room count e g v)) ≡ length t
unfolding read_place
place_length t n room count e g v = by (ltb count v) (ltb v count) where
  ident : GroupElementId
  ident = record { 0 = e }

  gen : GeneratorId
  gen = record { 0 = g }

  by : (a b : Bool) → length (placed_table (pick {A = Placed} a (placed (Err (numbered 7 e g v)) t)
      (pick b (placed (Ok count) (set_step t n ident gen (record { 0 = v })))
      (on_adds count (adds t n room count ident gen).answer (adds t n room count ident gen).table)))) ≡ length t
  by true b = refl
  by false true = set_length t n ident gen (record { 0 = v })
  by false false = ap length (on_adds_table count (adds t n room count ident gen).answer (adds t n room count ident gen).table) ∙ adds_length t n room count ident gen

then_length : (k : ℕ) (p : Placed) (f : ℕ → List ℕ → Placed) → length (placed_table p) ≡ k
    → ((c : ℕ) (t : List ℕ) → length t ≡ k → length (placed_table (f c t)) ≡ k) → length (placed_table (then_placed p f)) ≡ k
then_length k (placed (Ok c) t) f h rest = rest c t h
then_length k (placed (Err r) t) f h rest = h

pub row_length : (k : ℕ) (src : ℕ → ℕ → ℕ) (n room e g count : ℕ) (t : List ℕ) → length (placed_table (read_row k src n room e g count t)) ≡ length t
unfolding read_row
row_length zero src n room e g count t = refl
row_length (suc k) src n room e g count t =
    then_length (length t) (read_place t n room count e g (src e g)) _ (place_length t n room count e g (src e g))
    (λ c t' h. row_length k src n room e (g + 1) c t' ∙ h)

pub from_length : (k : ℕ) (src : ℕ → ℕ → ℕ) (n room e count : ℕ) (t : List ℕ) → length (placed_table (read_from k src n room e count t)) ≡ length t
unfolding read_from
from_length zero src n room e count t = refl
from_length (suc k) src n room e count t = by (ltb e count)
    (then_length (length t) (read_row n src n room e 0 count t) _ (row_length n src n room e 0 count t) (λ c t' h. from_length k src n room (e + 1) c t' ∙ h)) where
      by : (b : Bool) → length (placed_table (then_placed (read_row n src n room e 0 count t) (λ c t'. read_from k src n room (e + 1) c t'))) ≡ length t
          → length (placed_table (pick {A = Placed} b (then_placed (read_row n src n room e 0 count t) (λ c t'. read_from k src n room (e + 1) c t')) (placed (Ok count) t))) ≡ length t
      by true h = h
      by false h = refl

pub read_length : (src : ℕ → ℕ → ℕ) (n room : ℕ) (t : List ℕ) {c : Counted} {t₁ : List ℕ} → read_all src n room t ≡ placed c t₁ → length t₁ ≡ length t
read_length src n room t q = subst (λ (p : Placed). length (placed_table p) ≡ length t) q (from_length room src n room 0 1 t)
