-- Laws of a word walked on an image's rows: one for each way in which a turn ends.
use Prim.Native.Nat.{ℕ, ◌+◌, ◌≤◌, ◌<◌}
use mathlib.Core.Path.{◌≡◌}
use mathlib.Core.Bool.{true, false}
use mathlib.Core.List.{List}
use native.Mathlib.Numerals.{add-one}
use borrow.Author.Tests.{lt-ltb, le-ltb, lt-leb, le-leb}
use lib.ListN.{length, get_or, drop, drop_of_length-le}
use lib.Seq.{drop-cons}
use Rattle.build_reading.specs.Reading.{composed_at}
use Rattle.image_walk.specs.Walked.{letters_below, follow_rows}

module _ (n : ℕ) (w : List ℕ) (i : ℕ) where
  pub letter_none : length w ≤ i → true ≡ letters_below n (drop i w)
  unfolding letters_below
  letter_none h = rw (drop_of_length-le w h)

  module _ (h : i < length w) {g : ℕ} (q : g ≡ get_or w i 0) where
    pub letter_wrong : n ≤ g → false ≡ letters_below n (drop i w)
    unfolding letters_below
    letter_wrong k = rw (drop-cons w i 0 h, ← q) (simp (le-ltb _ _ k))

    pub letter_right_lem : g < n → letters_below n (drop (i + 1) w) ≡ letters_below n (drop i w)
    unfolding letters_below
    letter_right_lem k = rw (add-one, drop-cons w i 0 h, ← q) (simp (lt-ltb _ _ k))

module _ (rows : List ℕ) (n count x : ℕ) (w : List ℕ) (i : ℕ) where
  pub follow_end : length w ≤ i → x ≡ follow_rows rows n count x (drop i w)
  unfolding follow_rows
  follow_end h = rw (drop_of_length-le w h)

  module _ (h : i < length w) {g y : ℕ} (q : g ≡ get_or w i 0) (p : y ≡ composed_at rows n x g) where
    pub follow_wrong : count ≤ y → 65553 ≡ follow_rows rows n count x (drop i w)
    unfolding follow_rows
    follow_wrong k = rw (drop-cons w i 0 h, ← q, ← p) (simp (le-leb _ _ k))

    pub follow_on : y < count → follow_rows rows n count y (drop (i + 1) w) ≡ follow_rows rows n count x (drop i w)
    unfolding follow_rows
    follow_on k = rw (add-one, drop-cons w i 0 h, ← q, ← p) (simp (lt-leb _ _ k))
