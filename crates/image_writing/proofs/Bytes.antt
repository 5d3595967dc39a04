-- The stores of an image's head and successors come to the image's bytes.
use Prim.Native.Nat.{ℕ, zero, suc, ◌+◌, ◌*◌, ◌/◌, ◌%◌, ◌≤◌}
use mathlib.Core.Path.{◌≡◌, refl, sym, ap, ◌∙◌}
use mathlib.Core.List.{List, [], ◌∷◌, ◌++◌, append_assoc}
use native.Mathlib.Omega.{arith}
use lib.ListN.{length, drop, set, length-append, length-drop}
use lib.Seq.{set_at, drop-drop}
use Rattle.image_cells.proofs.Laws.{two}
use Rattle.image_writing.specs.Written.{row_numbers, rows_of, spelled_bytes, image_size, head_bytes, image_of, put_half, put_row, put_rows, put_head}

-- The head.
pub put_head_lem : (len n N : ℕ) (out : List ℕ) → 8 ≤ length out → put_head len n N out ≡ head_bytes len n N ++ drop 8 out
unfolding put_head
put_head_lem len n N [] h = absurd (omega arith)
put_head_lem len n N (a ∷ []) h = absurd (omega arith)
put_head_lem len n N (a ∷ b ∷ []) h = absurd (omega arith)
put_head_lem len n N (a ∷ b ∷ c ∷ []) h = absurd (omega arith)
put_head_lem len n N (a ∷ b ∷ c ∷ d ∷ []) h = absurd (omega arith)
put_head_lem len n N (a ∷ b ∷ c ∷ d ∷ e ∷ []) h = absurd (omega arith)
put_head_lem len n N (a ∷ b ∷ c ∷ d ∷ e ∷ f ∷ []) h = absurd (omega arith)
put_head_lem len n N (a ∷ b ∷ c ∷ d ∷ e ∷ f ∷ g ∷ []) h = absurd (omega arith)
put_head_lem len n N (a ∷ b ∷ c ∷ d ∷ e ∷ f ∷ g ∷ i ∷ out) h = refl

-- Two bytes after a part that is done.
half_put : (pre : List ℕ) (a b : ℕ) (r : List ℕ) (at v : ℕ) → length pre ≡ at
    → put_half (pre ++ a ∷ b ∷ r) at v ≡ (pre ++ v / 256 % 256 ∷ v % 256 ∷ []) ++ r
half_put pre a b r at v h =
    let one : set (pre ++ a ∷ b ∷ r) at (v / 256 % 256) ≡ pre ++ v / 256 % 256 ∷ b ∷ r = set_at pre a (b ∷ r) (v / 256 % 256) at h in
    let k : length (pre ++ v / 256 % 256 ∷ []) ≡ at + 1 = length-append pre (v / 256 % 256 ∷ []) ∙ rw h in
    ap (λ (l : List ℕ). set l (at + 1) (v % 256)) (one ∙ sym (append_assoc pre (v / 256 % 256 ∷ []) (b ∷ r)))
    ∙ set_at (pre ++ v / 256 % 256 ∷ []) b r (v % 256) (at + 1) k
    ∙ append_assoc pre (v / 256 % 256 ∷ []) (v % 256 ∷ r) ∙ sym (append_assoc pre (v / 256 % 256 ∷ v % 256 ∷ []) r)

pub put_row_lem : (k : ℕ) (src : ℕ → ℕ → ℕ) (n e g : ℕ) (pre rest : List ℕ) → length pre ≡ 8 + 2 * (e * n + g) → 2 * k ≤ length rest
    → put_row k src n e g (pre ++ rest) ≡ pre ++ (spelled_bytes (row_numbers k src e g) ++ drop (2 * k) rest)
unfolding put_row row_numbers spelled_bytes
put_row_lem zero src n e g pre rest h l = refl
put_row_lem (suc k) src n e g pre [] h l = absurd (omega arith)
put_row_lem (suc k) src n e g pre (a ∷ []) h l = absurd (omega arith)
put_row_lem (suc k) src n e g pre (a ∷ b ∷ r) h l =
    let v : ℕ = src e g in
    let done : List ℕ = pre ++ v / 256 % 256 ∷ v % 256 ∷ [] in
    let m : length done ≡ 8 + 2 * (e * n + (g + 1)) = length-append pre (v / 256 % 256 ∷ v % 256 ∷ []) ∙ omega arith in
    rw (half_put pre a b r (8 + 2 * (e * n + g)) v h, two k)
    (put_row_lem k src n e (g + 1) done r m (omega arith)
    ∙ append_assoc pre (v / 256 % 256 ∷ v % 256 ∷ []) (spelled_bytes (row_numbers k src e (g + 1)) ++ drop (2 * k) r))

pub row_length : (k : ℕ) (src : ℕ → ℕ → ℕ) (e g : ℕ) → length (row_numbers k src e g) ≡ k
unfolding row_numbers
row_length zero src e g = refl
row_length (suc k) src e g = ap suc (row_length k src e (g + 1))

pub rows_length : (k : ℕ) (src : ℕ → ℕ → ℕ) (n e : ℕ) → length (rows_of k src n e) ≡ k * n
unfolding rows_of
rows_length zero src n e = omega arith
rows_length (suc k) src n e = length-append (row_numbers n src e 0) (rows_of k src n (e + 1)) ∙ omega (arith, row_length n src e 0, rows_length k src n (e + 1))

pub spelled_length : (l : List ℕ) → length (spelled_bytes l) ≡ 2 * length l
unfolding spelled_bytes
spelled_length [] = refl
spelled_length (v ∷ r) = omega (arith, spelled_length r)

pub spelled_append : (a b : List ℕ) → spelled_bytes (a ++ b) ≡ spelled_bytes a ++ spelled_bytes b
unfolding spelled_bytes
spelled_append [] b = refl
spelled_append (v ∷ a) b = ap (λ (l : List ℕ). v / 256 % 256 ∷ v % 256 ∷ l) (spelled_append a b)

pub put_rows_lem : (k : ℕ) (src : ℕ → ℕ → ℕ) (n e : ℕ) (pre rest : List ℕ) → length pre ≡ 8 + 2 * (e * n) → 2 * (k * n) ≤ length rest
    → put_rows k src n e (pre ++ rest) ≡ pre ++ (spelled_bytes (rows_of k src n e) ++ drop (2 * (k * n)) rest)
unfolding put_rows rows_of spelled_bytes
put_rows_lem zero src n e pre rest h l = let z : 2 * (0 * n) ≡ 0 = omega arith in rw z
put_rows_lem (suc k) src n e pre rest h l =
    let row : List ℕ = spelled_bytes (row_numbers n src e 0) in
    let done : put_row n src n e 0 (pre ++ rest) ≡ (pre ++ row) ++ drop (2 * n) rest
    = put_row_lem n src n e 0 pre rest (omega arith) (omega arith) ∙ sym (append_assoc pre row (drop (2 * n) rest)) in
    let m : length (pre ++ row) ≡ 8 + 2 * ((e + 1) * n)
    = length-append pre row ∙ omega (arith, spelled_length (row_numbers n src e 0), row_length n src e 0) in
    let z : 2 * n + 2 * (k * n) ≡ 2 * (suc k * n) = omega arith in
    ap (λ (l : List ℕ). put_rows k src n (e + 1) l) done
    ∙ put_rows_lem k src n (e + 1) (pre ++ row) (drop (2 * n) rest) m (omega (arith, length-drop (2 * n) rest))
    ∙ append_assoc pre row _
    ∙ ap (λ (l : List ℕ). pre ++ l)
    (sym (append_assoc row (spelled_bytes (rows_of k src n (e + 1))) (drop (2 * (k * n)) (drop (2 * n) rest)))
    ∙ rw (spelled_append (row_numbers n src e 0) (rows_of k src n (e + 1)), drop-drop (2 * (k * n)) (2 * n) rest, z))

-- Both together, at the start of a buffer that is long enough.
pub put_image : (src : ℕ → ℕ → ℕ) (n N : ℕ) (out : List ℕ) → image_size n N ≤ length out
    → put_rows N src n 0 (put_head (4 + 2 * n * N) n N out) ≡ image_of src n N ++ drop (image_size n N) out
unfolding image_of
put_image src n N out h =
    let c : 2 * n * N ≡ 2 * (N * n) = omega arith in
    ap (λ (l : List ℕ). put_rows N src n 0 l) (put_head_lem (4 + 2 * n * N) n N out (omega arith))
    ∙ put_rows_lem N src n 0 (head_bytes (4 + 2 * n * N) n N) (drop 8 out) (omega arith) (omega (arith, length-drop 8 out))
    ∙ rw (drop-drop (2 * (N * n)) 8 out, ← c)
    (sym (append_assoc (head_bytes (4 + 2 * n * N) n N) (spelled_bytes (rows_of N src n 0)) (drop (8 + 2 * n * N) out)))

pub image_length : (src : ℕ → ℕ → ℕ) (n N : ℕ) → length (image_of src n N) ≡ image_size n N
unfolding image_of
image_length src n N =
    length-append (head_bytes (4 + 2 * n * N) n N) (spelled_bytes (rows_of N src n 0)) ∙ omega (arith, spelled_length (rows_of N src n 0), rows_length N src n 0)
