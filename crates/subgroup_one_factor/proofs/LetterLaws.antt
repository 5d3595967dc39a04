-- A letter is found, or none is; a list of letters grows by one; a product by a letter is the product.
use Prim.Native.Nat.{ℕ, ◌+◌, ◌-◌, ◌/◌, ◌%◌, ◌≤◌, ◌<◌}
use mathlib.Core.Path.{◌≡◌, refl, sym, ap, ◌∙◌}
use mathlib.Core.Bool.{true}
use mathlib.Core.List.{List, [], ◌∷◌}
use native.Mathlib.Nat.{mod-eq_of_lt, mod-lt}
use native.Mathlib.Decide.{ℕ_discrete, dec_lt}
use native.Mathlib.Omega.{arith}
use borrow.Author.Tests.{lt-ltb}
use lib.ListN.{length, get_or, set, get_or-eq_default}
use lib.Seq.{get_or-set_same, get_or-set_other}
use Rattle.egg.specs.declared.Factor.{Factor}
use Rattle.egg.specs.Answers.{Reached}
use Rattle.std.specs.Prelude.{Ok, Err}
use Rattle.egg.specs.Table.{hop_of, length_of}
use Rattle.egg.specs.Factor.{stretch, read_step}
use Rattle.factor_word_letters.specs.Spell.{cell_within, readable_by, letters_by}
use Rattle.factor_questions.specs.Walks.{follow, along, compose_in}
use Rattle.egg.specs.Answers.{on_reached}
use Rattle.factor_questions.proofs.Walks.{compose_short}
use Rattle.group_digits.specs.Digits.{composes}
use Rattle.subgroup_one_factor.specs.Letters.{OneLetter, Letters}
use Rattle.subgroup_one_factor.proofs.OneFactor.{one_product}

pub no_letter : (s : List ℕ) (n b : ℕ) → OneLetter s n b 0
no_letter s n b = record { small = omega arith; leads = λ h. absurd (omega arith) }

-- No step after the last.
no_more : (r : Reached) → on_reached r (λ x. Ok (record { 0 = x })) ≡ r
no_more (Ok x) = refl
no_more (Err r) = refl

-- A cell that is a letter, and nothing above it, is in range.
letter_within : (n count c : ℕ) → 0 < count → c < 8 → c < n → cell_within n count c ≡ true
letter_within n count c some small below =
    let d : c % 8 ≡ c = omega arith in
    let e : c / 8 ≡ 0 = omega arith in
    let hn : 0 < n = omega arith in
    rw (d, e, lt-ltb c n below, lt-ltb 0 n hn, lt-ltb 0 count some)

-- Along one letter.
along_one : (s : List ℕ) (n count a b : ℕ) {c : ℕ} → b < count → c ≡ hop_of s n b → c < 8 → c < n → along 1 s n count a b ≡ read_step s n count a c
unfolding along readable_by letters_by follow
along_one s n count a b {c} h q small below =
    let d : c % 8 ≡ c = omega arith in
    let some : 0 < count = omega arith in
    rw (← q, lt-ltb b count h, letter_within n count c some small below, d) (no_more (read_step s n count a c))

pub one_letter : (s : List ℕ) (n b : ℕ) {len g : ℕ} → len ≡ length_of s n b → len ≡ 1 → g ≡ hop_of s n b → g < 8 → g < n → OneLetter s n b (g + 1)
one_letter s n b {len} {g} q e w small l = record {
  small = omega arith;
  leads = λ some count a inside.
      let d : g + 1 - 1 ≡ g = omega arith in
      let short : len ≤ 5 = omega arith in
      sym (compose_short s n count a b q short)
      ∙ ap (λ (x : ℕ). along x s n count a b) e
      ∙ along_one s n count a b inside w small l
      ∙ ap (λ (x : ℕ). read_step s n count a x) (sym d);
}

-- As `Letters`, for the generators before i: what a loop that finds them has done so far.
pub record LettersTo (s : List ℕ) (n count : ℕ) (gens letters : List ℕ) (i : ℕ) : Type 0 where
  pub each : (g : ℕ) → g < i → OneLetter s n (get_or gens g 0 % count) (get_or letters g 0)

pub letters_none : (s : List ℕ) (n count : ℕ) (gens letters : List ℕ) → LettersTo s n count gens letters 0
letters_none s n count gens letters = record { each = λ g h. absurd (omega arith) }

pub letters_next : {s : List ℕ} {n count : ℕ} {gens l : List ℕ} {i b h : ℕ} → LettersTo s n count gens l i → i < length l → b ≡ get_or gens i 0
    → OneLetter s n (b % count) h → LettersTo s n count gens (set l i h) (i + 1)
letters_next {s} {n} {count} {gens} {l} {i} {b} {h} L inside q new = record { each = λ g k. by g (ℕ_discrete g i) k } where
  by : (g : ℕ) → Dec (g ≡ i) → g < i + 1 → OneLetter s n (get_or gens g 0 % count) (get_or (set l i h) g 0)
  by g (yes e) k = rw (e, get_or-set_same l i h 0 inside, ← q) new
  by g (no d) k = rw (get_or-set_other l i g h 0 d) (L.each g (omega arith))

-- Past its end a list has 0.
pub letters_end : {s : List ℕ} {n count : ℕ} {gens l : List ℕ} {i : ℕ} → LettersTo s n count gens l i → length l ≤ i → Letters s n count gens l
letters_end {s} {n} {count} {gens} {l} {i} L h = record { all = λ g. by g (dec_lt g i) } where
  by : (g : ℕ) → Dec (g < i) → OneLetter s n (get_or gens g 0 % count) (get_or l g 0)
  by g (yes k) = L.each g k
  by g (no k) = let m : length l ≤ g = omega arith in rw (get_or-eq_default l 0 m) (no_letter s n (get_or gens g 0 % count))

-- The letter that was read, for the generator that was read.
pub letter_read : {s : List ℕ} {n count : ℕ} {gens l : List ℕ} (g : ℕ) {b h : ℕ} → Letters s n count gens l → b ≡ get_or gens g 0 → h ≡ get_or l g 0
    → OneLetter s n (b % count) h
letter_read g L q w = rw (q, w) (L.all g)

pub letter_step : (t : List ℕ) (f : Factor) (a b h : ℕ) {s : List ℕ} {r : Reached} → s ≡ stretch t f
    → OneLetter (stretch t f) f.generators (b % f.elements) h → 0 < h → a < f.elements → r ≡ read_step s f.generators f.elements a (h - 1)
    → r ≡ composes t (f ∷ []) a b
letter_step t f a b h {s} {r} p L some below q =
    let q' : r ≡ read_step (stretch t f) f.generators f.elements a (h - 1) = rw (← p) q in
    let d : a % f.elements ≡ a = mod-eq_of_lt below in
    one_product t f a b refl
    (q' ∙ sym (L.leads some f.elements a (mod-lt b (omega arith))) ∙ ap (λ (x : ℕ). compose_in (stretch t f) f.generators f.elements x (b % f.elements)) (sym d))

-- The letters in the part that is the stretch.
pub letters_of : {s s' : List ℕ} {n count : ℕ} {gens l : List ℕ} → s ≡ s' → Letters s n count gens l → Letters s' n count gens l
letters_of p L = rw (← p) L
