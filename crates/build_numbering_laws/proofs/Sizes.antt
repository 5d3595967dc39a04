-- The maps keep their lengths, whatever the source says.
use Prim.Native.Nat.{ℕ, zero, suc, ◌+◌}
use mathlib.Core.Path.{◌≡◌, ◌∙◌}
use mathlib.Core.Bool.{Bool, true, false}
use mathlib.Core.List.{List}
use lib.ListN.{length, get_or, replicate, length-replicate}
use lib.Dec.{eqb, ltb}
use Rattle.egg.specs.Answers.{Reached}
use Rattle.std.specs.Prelude.{Ok, Err}
use Rattle.egg.specs.Table.{pick}
use Rattle.egg.proofs.Cells.{put_length}
use Rattle.build_reading.specs.Build.{adds}
use Rattle.build_reading.specs.Reading.{placed}
use Rattle.build_numbering.specs.Renumber.{no_number, Mapped, mapped, then_mapped, on_new, map_place, map_from, map_row, map_rows, map_all}

module _ (k l : ℕ) where
  -- Both lengths.
  abbrev pub Long : Mapped → Type 0
  Long (mapped p inn outw) = (length inn ≡ k) × (length outw ≡ l)

  then_long : (m : Mapped) (f : ℕ → List ℕ → List ℕ → List ℕ → Mapped) → Long m
      → ((c : ℕ) (t inn outw : List ℕ) → length inn ≡ k → length outw ≡ l → Long (f c t inn outw)) → Long (then_mapped m f)
  then_long (mapped (placed (Ok c) t) inn outw) f h g = g c t inn outw h.0 h.1
  then_long (mapped (placed (Err r) t) inn outw) f h g = h

  module _ (inn outw : List ℕ) (a : length inn ≡ k) (b : length outw ≡ l) where
    new_long : (r : Reached) (t : List ℕ) (count x : ℕ) → Long (on_new r t inn outw count x)
    new_long (Ok e) t count x = (put_length inn x count ∙ a, put_length outw count x ∙ b)
    new_long (Err r) t count x = (a, b)

    pick_long : (c : Bool) (u v : Mapped) → Long u → Long v → Long (pick c u v)
    pick_long true u v p q = p
    pick_long false u v p q = q

    from_long : (r : Reached) (t : List ℕ) (n room count e g : ℕ) → Long (map_from r t inn outw n room count e g)
    unfolding map_place
    from_long (Ok x) t n room count e g =
        pick_long (eqb (get_or inn x.0 0) no_number) _ _ (new_long (adds t n room count (record { 0 = e }) (record { 0 = g })).answer _ count x.0) (a, b)
    from_long (Err r) t n room count e g = (a, b)

  module _ (source : ℕ → ℕ → Reached) (n room : ℕ) where
    row_long : (j e g count : ℕ) (t inn outw : List ℕ) → length inn ≡ k → length outw ≡ l → Long (map_row j source n room e g count t inn outw)
    unfolding map_row
    row_long zero e g count t inn outw a b = (a, b)
    row_long (suc j) e g count t inn outw a b =
        then_long (map_from (source (get_or outw e 0) g) t inn outw n room count e g) _ (from_long inn outw a b (source (get_or outw e 0) g) t n room count e g)
        (λ c t' inn' outw' a' b'. row_long j e (g + 1) c t' inn' outw' a' b')

    rows_long : (j e count : ℕ) (t inn outw : List ℕ) → length inn ≡ k → length outw ≡ l → Long (map_rows j source n room e count t inn outw)
    unfolding map_rows
    rows_long zero e count t inn outw a b = (a, b)
    rows_long (suc j) e count t inn outw a b =
        pick_long inn outw a b (ltb e count) _ _
        (then_long (map_row n source n room e 0 count t inn outw) _ (row_long n e 0 count t inn outw a b)
        (λ c t' inn' outw' a' b'. rows_long j (e + 1) c t' inn' outw' a' b')) (a, b)

pub all_long : (source : ℕ → ℕ → Reached) (n room M K x₀ : ℕ) (t : List ℕ) → Long M K (map_all source n room M K x₀ t)
all_long source n room M K x₀ t =
    rows_long M K source n room room 0 1 t _ _ (put_length (replicate M no_number) x₀ 0 ∙ length-replicate {A = ℕ} M no_number)
    (put_length (replicate K 0) 0 x₀ ∙ length-replicate {A = ℕ} K 0)
