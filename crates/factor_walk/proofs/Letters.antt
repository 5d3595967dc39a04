-- Laws of the scan over the letters of a word: one for each way in which a turn ends, and what is known of each letter where it is fine.
use Prim.Native.Nat.{ℕ, ◌+◌, ◌≤◌, ◌<◌}
use mathlib.Core.Path.{◌≡◌, refl}
use mathlib.Core.Bool.{Bool, true, false}
use mathlib.Core.List.{List}
use borrow.Author.Tests.{le-leb, lt-leb, leb-false}
use lib.Dec.{leb}
use lib.ListN.{length, get_or}
use Rattle.egg.specs.Answers.{fine}
use Rattle.egg.specs.Scan.{refused_of}
use Rattle.egg.specs.Table.{pick}
use Rattle.egg.proofs.Scans.{Scanning, scanning, scan_fine, refused_fine}
use Rattle.factor_walk.specs.Walked.{shown, letter_right, letters_right}

pub letters_begin : (n : ℕ) (w : List ℕ) → Scanning (length w) (letter_right n w) 0 (letters_right n w)
unfolding letters_right
letters_begin n w = scanning

module _ (n : ℕ) (w : List ℕ) (i : ℕ) {g : ℕ} (q : g ≡ get_or w i 0) where
  pub letter_wrong : {k : ℕ} → k ≡ shown (i + 1) → n ≤ g → letter_right n w i ≡ refused_of 14 k 0 0
  letter_wrong e h = rw (← q, e) (simp (le-leb _ _ h))

  pub letter_right_lem : g < n → letter_right n w i ≡ fine
  letter_right_lem h = rw (← q) (simp (lt-leb _ _ h))

-- Where all are right each is a generator.
pub letter_below : (n : ℕ) (w : List ℕ) → letters_right n w ≡ fine → (i : ℕ) → i < length w → get_or w i 0 < n
unfolding letters_right
letter_below n w q i h = by (leb n (get_or w i 0)) refl ((scan_fine (length w) (letter_right n w)).0 q i h) where
  by : (b : Bool) → leb n (get_or w i 0) ≡ b → pick b (refused_of 14 (shown (i + 1)) 0 0) fine ≡ fine → get_or w i 0 < n
  by true z r = absurd (refused_fine r)
  by false z r = leb-false _ _ z
