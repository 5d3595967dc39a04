-- "Once it has started, any refusal .. leaves the needed stretch of table and work .. zero"; 1, 4 and 16 given before "change nothing".
use Prim.Native.Nat.{ℕ, ◌+◌}
use mathlib.Core.Path.{◌≡◌, refl, sym, ap, ◌∙◌}
use mathlib.Core.Bool.{true}
use mathlib.Core.List.{List}
use lib.ListN.{length, drop, take, replicate, length-replicate}
use Rattle.egg.specs.declared.Factor.{Factor}
use Rattle.egg.specs.declared.Refusal.{Refusal}
use Rattle.std.specs.Prelude.{Ok, Err}
use Rattle.build_lending.specs.Finish.{built, finished_placed}
use Rattle.build_lending.specs.Lending.{table_need, work_need, lent_right, within, making}
use Rattle.build_reading.specs.Reading.{Placed, placed, read_all, composed_at}
use Rattle.image_cells.specs.Cells.{halves}
use Rattle.build_laws.proofs.Lent.{refused_making_lem, work_taken, by_refused}
use Rattle.promises.proofs.ReadLengths.{placed_table, from_length}
use Rattle.promises.proofs.Zeros.{finished_zeros}
use Rattle.image.specs.Image.{head_generators, head_elements}
use Rattle.image_reading.specs.Read.{all_placed, image_in}
use Rattle.image.specs.Read.{read_image}
use Rattle.promises_image.specs.Images.{Bytes, WellFormed}
use Rattle.promises_image.proofs.Back.{lent_read, all_listed}

all_table : (room : ℕ) (p : Placed) → placed_table (all_placed room p) ≡ placed_table p
all_table room (placed c t) = refl

-- A refused end leaves zeros in both.
placed_zeros : {size : ℕ} (w : List ℕ) (n : ℕ) {r : Refusal} {s v : List ℕ} (p : Placed) → length (placed_table p) ≡ size
    → finished_placed p n w ≡ built (Err r) s v → (s ≡ replicate size 0) × (v ≡ replicate (length w) 0)
placed_zeros w n (placed c t) h e = let z = finished_zeros c n t w e in (z.0 ∙ ap (λ (k : ℕ). replicate k 0) h, z.1)

in_zeros : (size : ℕ) (w rows : List ℕ) (n room : ℕ) {r : Refusal} {s v : List ℕ} → image_in size w rows n room ≡ built (Err r) s v
    → (s ≡ replicate size 0) × (v ≡ replicate (length w) 0)
unfolding image_in
in_zeros size w rows n room e =
    placed_zeros w n (all_placed room (read_all (composed_at rows n) n room (replicate size 0)))
    (ap length (all_table room (read_all (composed_at rows n) n room (replicate size 0)))
    ∙ from_length room (composed_at rows n) n room 0 1 (replicate size 0) ∙ length-replicate {A = ℕ} size 0) e

-- A refused call whose stretches were lent.
module _ (l : List ℕ) (B : Bytes l) (table : List ℕ) (start : ℕ) (work : List ℕ) {r : Refusal} {t w : List ℕ} where
  -- No factor comes with a refused reading.
  pub read_no_factor : read_image l table start work ≡ making (Err r) t w
      → (f : Factor) {t' w' : List ℕ} → read_image l table start work ≡ making (Ok f) t' w' → ⊥
  read_no_factor h f q = refused_making_lem (sym h ∙ q)

  pub read_zeros : WellFormed l → lent_right (length table) start (length work) (head_elements l) (head_generators l) ≡ true
      → read_image l table start work ≡ making (Err r) t w
      → (t ≡ within table start (start + table_need (head_generators l) (head_elements l)) (replicate (table_need (head_generators l) (head_elements l)) 0))
      × (w ≡ within work 0 (work_need (head_generators l) (head_elements l)) (replicate (work_need (head_generators l) (head_elements l)) 0))
  read_zeros F lent q =
      let n = head_generators l in
      let N = head_elements l in
      let b = by_refused table start work n N (image_in (table_need n N) (take (work_need n N) work) (halves (drop 8 l)) n N)
      (sym (lent_read l table start work F (all_listed l B F) lent) ∙ q) in
      let z = in_zeros (table_need n N) (take (work_need n N) work) (halves (drop 8 l)) n N b.2 in
      let k = work_taken table start work n N lent in (
        b.3 ∙ ap (λ (x : List ℕ). within table start (start + table_need n N) x) z.0,
        b.4 ∙ ap (λ (x : List ℕ). within work 0 (work_need n N) x) (z.1 ∙ ap (λ (x : ℕ). replicate x 0) k),
      )
