-- The head of a written image, and what a right head says.
use Prim.Native.Nat.{ℕ, zero, suc, ◌+◌, ◌*◌, ◌/◌, ◌%◌, ◌≤◌, ◌<◌}
use mathlib.Core.Path.{◌≡◌, refl, sym, ◌∙◌}
use mathlib.Core.List.{List, [], ◌∷◌}
use native.Mathlib.Nat.{mul-le-mul}
use native.Mathlib.Omega.{arith}
use borrow.Author.Tests.{ltb-false, eqb-false, eqb-true}
use lib.Dec.{ltb, eqb}
use lib.ListN.{length, get_or, drop, length-drop}
use lib.Seq.{get_or-drop}
use Rattle.build_reading.specs.Reading.{composed_at}
use Rattle.image_cells.specs.Cells.{spell2, spell4, halves}
use Rattle.image_cells.proofs.Laws.{halves_length}
use Rattle.image.specs.Image.{head_length, head_generators, head_elements, head_number}
use Rattle.image_writing.specs.Written.{rows_of, spelled_bytes, image_of}
use Rattle.image.proofs.Heads.{head_right, head_version, pick_first, pick_second, sixteen, unit}
use Rattle.image_writing.proofs.Bytes.{image_length}
use Rattle.promises_image.specs.Images.{Bytes, WellFormed}
use Rattle.promises_image.proofs.Spelling.{halves_spelled, spelled_halves, rows_small, rows_again}

-- The head's number is 0 just if the head is right.
pub formed : (l : List ℕ) → head_number l ≡ 0 → WellFormed l
unfolding head_number
formed l h =
    let a = pick_second (ltb (length l) 8) 16 _ sixteen h in
    let b = pick_first (eqb (head_length l + 4) (length l)) _ 16 sixteen a.1 in
    let v = pick_first (eqb (get_or l 4 0) 1) _ 16 sixteen b.1 in
    let g = pick_second (ltb 8 (head_generators l)) 1 _ unit v.1 in
    let z = pick_second (eqb (head_elements l) 0) 16 _ sixteen g.1 in
    let f = pick_first (eqb (head_length l) (4 + 2 * head_generators l * head_elements l)) 0 16 sixteen z.1 in
    let no = eqb-false (head_elements l) 0 z.0 in
    let said = eqb-true (head_length l) (4 + 2 * head_generators l * head_elements l) f.0 in
    record {
      size = sym (eqb-true (head_length l + 4) (length l) b.0) ∙ omega arith;
      said = said;
      version = eqb-true (get_or l 4 0) 1 v.0;
      few = ltb-false _ _ g.0;
      some = omega arith;
    }

pub formed_head : (l : List ℕ) → WellFormed l → head_number l ≡ 0
formed_head l F =
    sym (head_right l (omega (arith, F.size)) (omega (arith, F.size, F.said)) F.version F.few (omega (arith, F.some)) F.said)

-- "version byte 1": any other is 16, where the size and the length are right; and so is any head before it.
pub other_version : (l : List ℕ) → 8 ≤ length l → head_length l + 4 ≡ length l → (get_or l 4 0 ≡ 1 → ⊥) → head_number l ≡ 16
other_version l a b d = sym (head_version l a b d)

-- What a written image says.
module _ (src : ℕ → ℕ → ℕ) (n N : ℕ) (few : n ≤ 8) (some : 1 ≤ N) (most : N ≤ 65535) where
  small_size : 2 * n * N ≤ 1048560
  small_size = let p : 2 * n ≤ 16 = omega arith in omega (arith, mul-le-mul p most)

  pub written_generators : head_generators (image_of src n N) ≡ n
  unfolding image_of
  written_generators = refl

  pub written_elements : head_elements (image_of src n N) ≡ N
  unfolding image_of
  written_elements = omega arith

  spelled4 : (v : ℕ) → v < 4294967296 → spell4 (v % 256) (v / 256 % 256) (v / 256 / 256 % 256) (v / 256 / 256 / 256 % 256) ≡ v
  spelled4 v h = omega arith

  written_said : head_length (image_of src n N) ≡ 4 + 2 * n * N
  unfolding image_of
  written_said = spelled4 (4 + 2 * n * N) (omega (arith, small_size))

  written_version : get_or (image_of src n N) 4 0 ≡ 1
  unfolding image_of
  written_version = refl

  pub written_formed : WellFormed (image_of src n N)
  written_formed = record {
    size = image_length src n N ∙ rw (written_generators, written_elements);
    said = written_said ∙ rw (written_generators, written_elements);
    version = written_version;
    few = rw written_generators few;
    some = rw written_elements some;
  }

  pub written_rows : ((e g : ℕ) → e < N → g < n → src e g < 65536) → halves (drop 8 (image_of src n N)) ≡ rows_of N src n 0
  unfolding image_of
  written_rows small = halves_spelled (rows_of N src n 0) (rows_small src n N 65536 (omega arith) small)

-- The bytes of a right head are the written ones.
digits4 : (a b c d v : ℕ) → a < 256 → b < 256 → c < 256 → d < 256 → spell4 a b c d ≡ v
    → (v / 256 / 256 / 256 % 256 ≡ d) × (v / 256 / 256 % 256 ≡ c) × (v / 256 % 256 ≡ b) × (v % 256 ≡ a)
digits4 a b c d v ha hb hc hd e = (omega arith, omega arith, omega arith, omega arith)

digits2 : (a b v : ℕ) → a < 256 → b < 256 → spell2 a b ≡ v → (v / 256 % 256 ≡ a) × (v % 256 ≡ b)
digits2 a b v ha hb e = (omega arith, omega arith)

eight : (l : List ℕ) → 8 ≤ length l
    → get_or l 0 0 ∷ get_or l 1 0 ∷ get_or l 2 0 ∷ get_or l 3 0 ∷ get_or l 4 0 ∷ get_or l 5 0 ∷ get_or l 6 0 ∷ get_or l 7 0 ∷ drop 8 l ≡ l
eight [] h = absurd (omega arith)
eight (a ∷ []) h = absurd (omega arith)
eight (a ∷ b ∷ []) h = absurd (omega arith)
eight (a ∷ b ∷ c ∷ []) h = absurd (omega arith)
eight (a ∷ b ∷ c ∷ d ∷ []) h = absurd (omega arith)
eight (a ∷ b ∷ c ∷ d ∷ e ∷ []) h = absurd (omega arith)
eight (a ∷ b ∷ c ∷ d ∷ e ∷ f ∷ []) h = absurd (omega arith)
eight (a ∷ b ∷ c ∷ d ∷ e ∷ f ∷ g ∷ []) h = absurd (omega arith)
eight (a ∷ b ∷ c ∷ d ∷ e ∷ f ∷ g ∷ i ∷ r) h = refl

module _ (l : List ℕ) (B : Bytes l) (F : WellFormed l) where
  abbrev n : ℕ
  n = head_generators l

  abbrev N : ℕ
  N = head_elements l

  rest_length : length (drop 8 l) ≡ 2 * (N * n)
  rest_length = length-drop 8 l ∙ omega (arith, F.size)

  -- The successors are listed.
  pub listed : length (halves (drop 8 l)) ≡ N * n
  listed = halves_length (drop 8 l) ∙ omega (arith, rest_length)

  rest_bytes : (i : ℕ) → get_or (drop 8 l) i 0 < 256
  rest_bytes i = rw (get_or-drop 8 l i 0) (B.byte (8 + i))

  -- A right image is the one that is written from its own successors.
  pub image_again : image_of (composed_at (halves (drop 8 l)) (head_generators l)) (head_generators l) (head_elements l) ≡ l
  unfolding image_of
  image_again =
      let a = digits4 (get_or l 3 0) (get_or l 2 0) (get_or l 1 0) (get_or l 0 0) (4 + 2 * n * N) (B.byte 3) (B.byte 2) (B.byte 1) (B.byte 0) F.said in
      let c = digits2 (get_or l 6 0) (get_or l 7 0) N (B.byte 6) (B.byte 7) refl in
      rw (rows_again (halves (drop 8 l)) n N (sym listed), spelled_halves (drop 8 l) rest_bytes (N * n) rest_length, a.0, a.1, a.2, a.3, c.0, c.1)
      (rw F.version at (eight l (omega (arith, F.size))))

-- A written image is bytes.
spelled_bytes_lem : (l : List ℕ) (i : ℕ) → get_or (spelled_bytes l) i 0 < 256
unfolding spelled_bytes
spelled_bytes_lem [] i = omega arith
spelled_bytes_lem (v ∷ r) zero = omega arith
spelled_bytes_lem (v ∷ r) (suc zero) = omega arith
spelled_bytes_lem (v ∷ r) (suc (suc i)) = spelled_bytes_lem r i

image_byte : (src : ℕ → ℕ → ℕ) (n N : ℕ) → n ≤ 8 → (i : ℕ) → get_or (image_of src n N) i 0 < 256
unfolding image_of
image_byte src n N h zero = omega arith
image_byte src n N h (suc zero) = omega arith
image_byte src n N h (suc (suc zero)) = omega arith
image_byte src n N h (suc (suc (suc zero))) = omega arith
image_byte src n N h (suc (suc (suc (suc zero)))) = omega arith
image_byte src n N h (suc (suc (suc (suc (suc zero))))) = omega arith
image_byte src n N h (suc (suc (suc (suc (suc (suc zero)))))) = omega arith
image_byte src n N h (suc (suc (suc (suc (suc (suc (suc zero))))))) = omega arith
image_byte src n N h (suc (suc (suc (suc (suc (suc (suc (suc i)))))))) = spelled_bytes_lem (rows_of N src n 0) i

pub image_bytes : (src : ℕ → ℕ → ℕ) (n N : ℕ) → n ≤ 8 → Bytes (image_of src n N)
image_bytes src n N h = record { byte = image_byte src n N h }
