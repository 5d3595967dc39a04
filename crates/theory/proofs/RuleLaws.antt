-- Further laws of the numbering rule: what it records as far as it has held, that a place's count is one, and that what is not in the table has no say.
use Prim.Native.Nat.{ℕ, suc, ◌≤◌, ◌<◌}
use mathlib.Core.Path.{◌≡◌, ap, ◌∙◌}
use native.Mathlib.Decide.{dec_le}
use native.Mathlib.Omega.{arith}
use lib.ListN.{length}
use Rattle.theory.specs.Words.{Recorded}
use Rattle.theory.specs.Numbering.{Known, start, old, new, next_row, Numbered}
use Rattle.theory.specs.Appearance.{Ahead, row, column, First, FirstAppearance, parent_of_lem, last_of_lem, recorded}
use Rattle.theory.proofs.Places.{Places, sooner, same, later, places, ahead_row}
use Rattle.theory.proofs.Counting.{row_known, read_known, new_first, appeared_before, appeared, known_same, numbered_table}
use Rattle.theory.proofs.Recording.{word_of_recorded, length_grow}
use Rattle.theory.proofs.FirstPlaces.{parent_found, last_found, first_parents}

module _ {n : ℕ} {src : ℕ → ℕ → ℕ} where
  -- As far as the rule has held, each element has the parent and the last generator that are found in the numbers.
  pub known_first : {x g c : ℕ} → Known n src x g c → FirstAppearance n c src (parent_of_lem n src) (last_of_lem n src)
  known_first K = record { first = λ pos l. found (appeared K pos l) } where
    found : {e : ℕ} → ((y : ℕ) × (h : ℕ) × First n src e y h) → First n src e (parent_of_lem n src e) (last_of_lem n src e)
    found p = rw (last_found p.2, parent_found p.2) p.2

  pub known_recorded : {x g c : ℕ} → Known n src x g c → Recorded c (parent_of_lem n src) (last_of_lem n src) (recorded n src)
  known_recorded K = word_of_recorded (first_parents (known_first K))

  -- A new element's word is one letter longer than that of the row in which it is met.
  pub new_letters : {x g c : ℕ} → Known n src x g c → g < n → src x g ≡ c → length (recorded n src c) ≡ suc (length (recorded n src x))
  new_letters {x} {g} {c} K hg is =
      let F = new_first K hg is in
      length_grow (known_recorded (new K hg is)) {x = c} (omega (arith, row_known K)) (omega arith) ∙ ap (λ e. suc (length (recorded n src e))) (parent_found F)

  count_grows : {x g c c' : ℕ} → Known n src x g c → Known n src x g c' → c ≤ c'
  count_grows {x} {g} {c} {c'} K K' = go (dec_le c c') where
    go : Dec (c ≤ c') → c ≤ c'
    go (yes h) = h
    go (no h) = let (y, h, F, a) = appeared_before {e = c'} K (omega (arith, row_known K')) (omega arith) in omega (arith, read_known K' F.generator a, F.arrives)

  -- When a place is come to, so many are known.
  pub count_once : {x g c c' : ℕ} → Known n src x g c → Known n src x g c' → c ≡ c'
  count_once K K' = omega (arith, count_grows K K', count_grows K' K)

  -- A number that skips ahead is not passed.
  pub no_skip : {x g c y h d : ℕ} → Known n src x g c → g < n → Known n src y h d → Ahead x g y h → src x g ≤ c
  no_skip {x} {g} {c} {d = d} K hg K' a = go (dec_le (src x g) c) where
    first_c : c < src x g → (z : ℕ) × (i : ℕ) × First n src c z i
    first_c l = appeared K' (omega (arith, row_known K)) (omega (arith, read_known K' hg a))

    stands : c < src x g → (z i : ℕ) → First n src c z i → Places x g z i → ⊥
    stands l z i F (sooner p) = omega (arith, F.before hg p)
    stands l z i F (same p q) = omega (arith, rw (p, q) at l, F.arrives)
    stands l z i F (later p) = omega (arith, read_known K F.generator p, F.arrives)

    go : Dec (src x g ≤ c) → src x g ≤ c
    go (yes h) = h
    go (no h) = let l : c < src x g = omega arith in let (z, i, F) = first_c l in absurd (stands l z i F (places x g z i))

  -- No more elements are known on the way than at the end.
  pub count_within : {N x g c : ℕ} → Numbered n N src → Known n src x g c → c ≤ N
  count_within R start = (numbered_table R).origin
  count_within R (old k _ _) = count_within R k
  count_within R (new {x} k hg t) = let h = count_within R k in omega (arith, (numbered_table R).closed {e = x} (omega (arith, row_known k)) hg)
  count_within R (next_row k _) = count_within R k

  -- A step leads to an element that is known, or to the next.
  pub step_within : {N x g c : ℕ} → Numbered n N src → Known n src x g c → g < n → src x g ≤ c
  step_within {N} {x} {g} R K hg = no_skip K hg R.known (ahead_row hg (row (omega (arith, R.last_row, row_known K, count_within R K))))

pub ahead_above : {x g y h : ℕ} → Ahead x g y h → x ≤ y
ahead_above (row p) = omega arith
ahead_above (column p q) = omega arith

-- What is not in the first N rows has no say.
module _ {n N : ℕ} {step step' : ℕ → ℕ → ℕ} where
  pub numbered_agree : Numbered n N step → ((e g : ℕ) → e < N → g < n → step' e g ≡ step e g) → Numbered n N step'
  numbered_agree R agree = record {
    end = R.end;
    last_row = R.last_row;
    known = known_same R.known (λ y h hh a. agree y h (omega (arith, R.last_row, ahead_above a)) hh);
  }

  pub appearance_agree : {parent last : ℕ → ℕ} → FirstAppearance n N step parent last → ((e g : ℕ) → e < N → g < n → step' e g ≡ step e g)
      → FirstAppearance n N step' parent last
  appearance_agree {parent} {last} F agree = record { first = λ {e} pos h. go e h (F.first pos h) } where
    go : (e : ℕ) → e < N → First n step e (parent e) (last e) → First n step' e (parent e) (last e)
    go e h f = record {
      earlier = f.earlier;
      generator = f.generator;
      arrives = agree (parent e) (last e) (omega (arith, f.earlier)) f.generator ∙ f.arrives;
      before = λ {x} {g} hg a. rw (agree x g (omega (arith, f.earlier, ahead_above a)) hg) (f.before hg a);
    }

-- The same parents and last generators have the same first places.
pub appearance_same : {n N : ℕ} {step : ℕ → ℕ → ℕ} {parent last parent' last' : ℕ → ℕ} → FirstAppearance n N step parent last
    → ((e : ℕ) → parent' e ≡ parent e) → ((e : ℕ) → last' e ≡ last e) → FirstAppearance n N step parent' last'
appearance_same F a b = record { first = λ {e} pos he. rw (a e, b e) (F.first pos he) }
