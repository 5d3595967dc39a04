-- A factor from composed rows, written and read back, has the same numbers in its stretch: every cell of the rows of its N elements, words and inverses too.
use Prim.Native.Nat.{ℕ, zero, suc, ◌+◌, ◌*◌, ◌≤◌, ◌<◌}
use mathlib.Core.Path.{◌≡◌, refl, sym, ap, ◌∙◌}
use mathlib.Core.Bool.{true}
use mathlib.Core.List.{List}
use native.Mathlib.Nat.{mul-le-mul, le_refl}
use native.Mathlib.Omega.{arith}
use borrow.Author.Tests.{le-leb}
use lib.Dec.{ltb}
use lib.ListN.{length, get_or, drop, replicate}
use Rattle.egg.specs.declared.Factor.{Factor}
use Rattle.std.specs.Prelude.{Ok}
use Rattle.egg.specs.Table.{pick}
use Rattle.build_lending.specs.Lending.{table_need, lent_right, making}
use Rattle.build_reading.specs.Reading.{Placed, placed, then_placed, read_place, read_row, read_from, read_all, composed_at}
use Rattle.build_reading.proofs.Readings.{then_same}
use Rattle.factor.specs.Composed.{composed_in, composed}
use Rattle.image_cells.specs.Cells.{halves}
use Rattle.theory.proofs.Reading.{numbered_once}
use Rattle.factor_laws.specs.Accepted.{factor_step}
use Rattle.factor_laws.proofs.Handles.{few_generators}
use Rattle.promises.specs.Composed.{Given}
use Rattle.build_laws.specs.Taken.{Taken}
use Rattle.promises.proofs.Composed.{begun, composed_exactly, composed_given}
use Rattle.promises.proofs.Roomier.{composed_roomier}
use Rattle.image_writing.specs.Written.{rows_of, image_of}
use Rattle.image.specs.Read.{read_image}
use Rattle.image_writing.proofs.Bytes.{rows_length}
use Rattle.promises_image.proofs.Spelling.{rows_entry}
use Rattle.promises_image.proofs.Heads.{image_bytes}
use Rattle.promises_image.proofs.Back.{group_composed}
use Rattle.promises_image.proofs.Rounds.{written_group, image_elements, image_generators, image_rows}

-- Only the rows within the room are read.
module _ (src src' : ℕ → ℕ → ℕ) (n room : ℕ) (same : (e g : ℕ) → e < room → g < n → src e g ≡ src' e g) where
  row_reads : (k e g c : ℕ) (t : List ℕ) → e < room → g + k ≤ n → read_row k src n room e g c t ≡ read_row k src' n room e g c t
  unfolding read_row
  row_reads zero e g c t he hg = refl
  row_reads (suc k) e g c t he hg =
      rw (same e g he (omega arith))
      (then_same (read_place t n room c e g (src' e g)) (λ c t. row_reads k e (g + 1) c t he (omega arith)))

  rows_read : (k e c : ℕ) (t : List ℕ) → e + k ≤ room → read_from k src n room e c t ≡ read_from k src' n room e c t
  unfolding read_from
  rows_read zero e c t h = refl
  rows_read (suc k) e c t h =
      ap (λ (p : Placed). pick (ltb e c) p (placed (Ok c) t))
      (ap (λ (p : Placed). then_placed p (λ c t. read_from k src n room (e + 1) c t)) (row_reads n e 0 c t (omega arith) (omega arith))
      ∙ then_same (read_row n src' n room e 0 c t) (λ c t. rows_read k (e + 1) c t (omega arith)))

  pub read_same : (t : List ℕ) → read_all src n room t ≡ read_all src' n room t
  read_same t = rows_read room 0 1 t (omega arith)

pub composed_same : (table : List ℕ) (start : ℕ) (work rows rows' : List ℕ) (n room : ℕ)
    → ((e g : ℕ) → e < room → g < n → composed_at rows n e g ≡ composed_at rows' n e g) → room * n ≤ length rows → room * n ≤ length rows'
    → composed table start work rows n room ≡ composed table start work rows' n room
unfolding composed composed_in
composed_same table start work rows rows' n room same h h' =
    let e = read_same (composed_at rows n) (composed_at rows' n) n room same (replicate (table_need n room) 0) in
    simp (le-leb _ _ h, le-leb _ _ h') (rw e)

module _ (table : List ℕ) (start : ℕ) (work rows : List ℕ) (n room : ℕ) {f : Factor} {t w : List ℕ}
    (q : composed table start work rows n room ≡ making (Ok f) t w) where
  given : Given table start work rows n room f t w
  given = composed_given table start work rows n room f t w q

  generators_are : f.generators ≡ n
  generators_are = ap (λ (x : Factor). x.generators) given.handle

  abbrev image : List ℕ
  image = image_of (factor_step t f) f.generators f.elements

  image_listed : halves (drop 8 image) ≡ rows_of f.elements (factor_step t f) f.generators 0
  image_listed = image_rows given.accepted

  -- The image is read as the rows are composed with room N.
  read_rows : (table' : List ℕ) (start' : ℕ) (work' : List ℕ) → read_image image table' start' work' ≡ composed table' start' work' rows n f.elements
  read_rows table' start' work' =
      let A = given.accepted in
      let B = image_bytes (factor_step t f) f.generators f.elements (few_generators A) in
      let N = f.elements in
      let rows' = rows_of N (factor_step t f) n 0 in
      let listed = (begun table start work rows n room f t w q).listed in
      group_composed image B table' start' work' (written_group A)
      ∙ rw (image_listed, image_generators A, image_elements A)
      (ap (λ (x : ℕ). composed table' start' work' (rows_of N (factor_step t f) x 0) x N) generators_are
      ∙ composed_same table' start' work' rows' rows n N (λ e g he hg. rows_entry N (factor_step t f) n he hg ∙ given.steps he hg)
      (rw (rows_length N (factor_step t f) n 0) (le_refl (N * n))) (omega (arith, mul-le-mul given.taken.readable.within (le_refl n))))

  -- So it is accepted, at any start and in any buffers that are not short, and every cell of the stretch is the same.
  pub read_same_stretch : (table' : List ℕ) (start' : ℕ) (work' : List ℕ) → lent_right (length table') start' (length work') f.elements n ≡ true
      → (t' : List ℕ) × (w' : List ℕ)
      × (read_image (image_of (factor_step t f) f.generators f.elements) table' start' work'
      ≡ making (Ok (record { start = start'; room = f.elements; generators = n; elements = f.elements })) t' w')
      × ((i : ℕ) → i < table_need n f.elements → get_or t' (start' + i) 0 ≡ get_or t (start + i) 0)
  read_same_stretch table' start' work' lent' =
      let N = f.elements in
      let T = given.taken in
      let B = begun table start work rows n room f t w q in
      let listed' : N * n ≤ length rows = omega (arith, mul-le-mul T.readable.within (le_refl n), B.listed) in
      let T' : Taken (composed_at rows n) n N N
      = record { readable = record { by_rule = T.readable.by_rule; within = le_refl N; short = T.readable.short }; identity_row_lem = T.identity_row_lem; group = T.group } in
      let a = (composed_exactly table' start' work' rows n N B.generators lent' listed').1 (N, T') in
      let G' = composed_given table' start' work' rows n N a.0 a.1 a.2 a.3 in
      let many : a.0.elements ≡ N = numbered_once G'.taken.readable.by_rule T.readable.by_rule in
      let R = composed_roomier table' start' work' rows n N a.0 a.1 a.2 table start work room a.3 T.readable.within B.lent B.listed in
      let one : making (Ok f) t w
      ≡ making (Ok (record { start = start; room = room; generators = n; elements = a.0.elements })) R.table' R.work'
      = sym q ∙ R.accepted in
      let t_is : t ≡ R.table' = cc in
      let h : a.0 ≡ record { start = start'; room = N; generators = n; elements = N } = G'.handle ∙ rw many in (
        a.1,
        a.2,
        read_rows table' start' work' ∙ a.3 ∙ ap (λ (x : Factor). making (Ok x) a.1 a.2) h,
        λ i hi. sym (R.same hi) ∙ ap (λ (x : List ℕ). get_or x (start + i) 0) (sym t_is),
      )
