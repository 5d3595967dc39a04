-- This file defines the bytes of an image, and the stores that write them. Document 01: "Four bytes, big-endian, the length of what follows; version
-- byte 1; n in one byte; element count N in two; then the successors, two bytes each, by element and then generator."
use Rattle.std.specs.Prelude.{ℕ, zero, suc, ◌+◌, ◌*◌, ◌/◌, ◌%◌, List, [], ◌∷◌, ◌++◌, set}
use Rattle.egg.specs.Answers.{Reached, Verdict, fine}
use Rattle.std.specs.Prelude.{Ok, Err}
use Rattle.egg.specs.Scan.{scan}
use Rattle.egg.specs.Factor.{read_step}

-- k numbers of row e, from generator g on; `src` gives the number at each place.
unfoldable pub row_numbers : ℕ → (ℕ → ℕ → ℕ) → ℕ → ℕ → List ℕ
row_numbers zero src e g = []
row_numbers (suc k) src e g = src e g ∷ row_numbers k src e (g + 1)

-- The numbers of k rows from e on.
unfoldable pub rows_of : ℕ → (ℕ → ℕ → ℕ) → ℕ → ℕ → List ℕ
rows_of zero src n e = []
rows_of (suc k) src n e = row_numbers n src e 0 ++ rows_of k src n (e + 1)

-- The bytes that spell the numbers: two each, the highest first.
unfoldable pub spelled_bytes : List ℕ → List ℕ
spelled_bytes [] = []
spelled_bytes (v ∷ r) = v / 256 % 256 ∷ v % 256 ∷ spelled_bytes r

-- How many bytes an image has: a head of eight, and two for each successor.
abbrev pub image_size : ℕ → ℕ → ℕ
image_size n N = 8 + 2 * n * N

-- The eight bytes of the head, which says `len` for the length of what follows.
abbrev pub head_bytes : ℕ → ℕ → ℕ → List ℕ
head_bytes len n N =
    len / 256 / 256 / 256 % 256 ∷ len / 256 / 256 % 256 ∷ len / 256 % 256 ∷ len % 256 ∷ 1 ∷ n ∷ N / 256 % 256 ∷ N % 256 ∷ []

-- The whole image; "Length is 4 + 2nN".
unfoldable pub image_of : (ℕ → ℕ → ℕ) → ℕ → ℕ → List ℕ
image_of src n N = head_bytes (4 + 2 * n * N) n N ++ spelled_bytes (rows_of N src n 0)

-- The list with v stored in two bytes from place `at` on. This and what follows gives the same image as the stores come.
abbrev pub put_half : List ℕ → ℕ → ℕ → List ℕ
put_half l at v = set (set l at (v / 256 % 256)) (at + 1) (v % 256)

-- The list with k numbers of row e stored, from generator g on.
unfoldable pub put_row : (k : ℕ) (src : ℕ → ℕ → ℕ) (n e g : ℕ) (out : List ℕ) → List ℕ
put_row zero src n e g out = out
put_row (suc k) src n e g out = put_row k src n e (g + 1) (put_half out (8 + 2 * (e * n + g)) (src e g))

-- The list with k rows stored, from e on.
unfoldable pub put_rows : (k : ℕ) (src : ℕ → ℕ → ℕ) (n e : ℕ) (out : List ℕ) → List ℕ
put_rows zero src n e out = out
put_rows (suc k) src n e out = put_rows k src n (e + 1) (put_row n src n e 0 out)

-- The list with the head stored.
unfoldable pub put_head : ℕ → ℕ → ℕ → List ℕ → List ℕ
put_head len n N out =
    put_half (set (set (put_half (put_half out 0 (len / 256 / 256)) 2 len) 4 1) 5 n) 6 N

-- Refuses with 17 a stored step that is missing or leads beyond the elements.
abbrev pub step_read : Reached → Verdict
step_read (Ok e) = fine
step_read (Err r) = Err r

-- The first of these refusals in row e.
unfoldable pub known_row : List ℕ → ℕ → ℕ → ℕ → Verdict
known_row s n count e = scan n (λ g. step_read (read_step s n count e g)) 0

-- The first of these refusals in the table.
unfoldable pub all_known : List ℕ → ℕ → ℕ → Verdict
all_known s n count = scan count (λ e. known_row s n count e) 0
