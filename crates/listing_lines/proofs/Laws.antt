-- Text after text: what two writes in a row leave is what one write of the joined text leaves. Each function's proof is a chain of these.
use Prim.Native.Nat.{ℕ, suc, ◌+◌, ◌-◌, ◌/◌, ◌%◌, ◌≤◌, ◌<◌}
use mathlib.Core.Path.{◌≡◌, refl, sym, ap, ◌∙◌}
use mathlib.Core.List.{List, [], ◌∷◌, ◌++◌}
use native.Mathlib.Omega.{arith}
use native.Mathlib.Numerals.{add-one}
use native.Mathlib.Nat.{add-zero, add-suc, suc-add}
use borrow.Author.Tests.{lt-ltb, le-ltb}
use lib.ListN.{length, set, get_or, drop, length-append, drop_of_length-le}
use lib.Seq.{sets, set_out, length-sets, drop-cons}
use Rattle.egg.specs.Table.{step_of, inverse_of, length_of}
use Rattle.listing_lines.specs.Text.{Writes, EndFits, digits, decimal, spaced, steps_text, line_text, lines_text, group_text, refused_text}

pub sets_append : (a b l : List ℕ) (i : ℕ) → sets l i (a ++ b) ≡ sets (sets l i a) (i + length a) b
sets_append [] b l i = rw add-zero
sets_append (x ∷ a) b l i = sets_append a b (set l i x) (suc i) ∙ rw (suc-add, ← add-suc)

module _ {l m : List ℕ} {i j : ℕ} {a : List ℕ} (w : Writes l i a m j) where
  pub joined : {b r : List ℕ} {k : ℕ} → Writes m j b r k → Writes l i (a ++ b) r k
  joined {b} {r} {k} v = record {
    holds = v.holds ∙ rw (w.holds, w.moves) (sym (sets_append a b l i));
    moves = rw length-append (omega (arith, w.moves, v.moves));
  }

  pub kept : length m ≡ length l
  kept = ap length w.holds ∙ length-sets l i a

  pub then_ends : (b : List ℕ) → EndFits i (a ++ b) → EndFits j b
  then_ends b h = record { fits = omega (arith, h.fits, w.moves, length-append a b) }

pub first_ends : {a : List ℕ} {i : ℕ} (b : List ℕ) → EndFits i (a ++ b) → EndFits i a
first_ends {a} b h = record { fits = omega (arith, h.fits, length-append a b) }

pub nothing : (l : List ℕ) (i : ℕ) → Writes l i [] l i
nothing l i = record { holds = refl; moves = sym (add-zero i) }

-- A byte that has a place, and one past the end.
pub stored : (l : List ℕ) (i b : ℕ) → Writes l i (b ∷ []) (set l i b) (i + 1)
stored l i b = record { holds = refl; moves = refl }

pub dropped : (l : List ℕ) (i b : ℕ) → length l ≤ i → Writes l i (b ∷ []) l (i + 1)
dropped l i b h = record { holds = sym (set_out l i b h); moves = refl }

-- A text of five pieces, written one after the other: each has its place, and together they are the text.
pub record Pieces (text a b c d e : List ℕ) : Type 0 where
  pub is : text ≡ a ++ (b ++ (c ++ (d ++ e)))

module _ {text a b c d e : List ℕ} (p : Pieces text a b c d e) {i : ℕ} (h : EndFits i text) where
  all : EndFits i (a ++ (b ++ (c ++ (d ++ e))))
  all = rw (← p.is) h

  pub ends_1 : EndFits i a
  ends_1 = first_ends (b ++ (c ++ (d ++ e))) all

  module _ {l m₁ : List ℕ} {i₁ : ℕ} (w₁ : Writes l i a m₁ i₁) where
    after_1 : EndFits i₁ (b ++ (c ++ (d ++ e)))
    after_1 = then_ends w₁ (b ++ (c ++ (d ++ e))) all

    pub ends_2 : EndFits i₁ b
    ends_2 = first_ends (c ++ (d ++ e)) after_1

    module _ {m₂ : List ℕ} {i₂ : ℕ} (w₂ : Writes m₁ i₁ b m₂ i₂) where
      after_2 : EndFits i₂ (c ++ (d ++ e))
      after_2 = then_ends w₂ (c ++ (d ++ e)) after_1

      pub ends_3 : EndFits i₂ c
      ends_3 = first_ends (d ++ e) after_2

      module _ {m₃ : List ℕ} {i₃ : ℕ} (w₃ : Writes m₂ i₂ c m₃ i₃) where
        after_3 : EndFits i₃ (d ++ e)
        after_3 = then_ends w₃ (d ++ e) after_2

        pub ends_4 : EndFits i₃ d
        ends_4 = first_ends e after_3

        module _ {m₄ : List ℕ} {i₄ : ℕ} (w₄ : Writes m₃ i₃ d m₄ i₄) where
          pub ends_5 : EndFits i₄ e
          ends_5 = then_ends w₄ e after_3

          pub whole : {r : List ℕ} {k : ℕ} → Writes m₄ i₄ e r k → Writes l i text r k
          whole w₅ = rw p.is (joined w₁ (joined w₂ (joined w₃ (joined w₄ w₅))))

-- The pieces of a line, of a group's listing and of a refusal's.
pub line_pieces : (t : List ℕ) (n e : ℕ) {x y : ℕ} → x ≡ inverse_of t n e → y ≡ length_of t n e
    → Pieces (line_text t n e) (decimal e) (spaced x) (spaced y) (steps_text n t n e 0) (10 ∷ [])
line_pieces t n e p q = record { is = rw (p, q) }

pub group_pieces : (t : List ℕ) (n count : ℕ)
    → Pieces (group_text t n count) (103 ∷ 114 ∷ 111 ∷ 117 ∷ 112 ∷ []) (spaced n) (spaced count) (10 ∷ []) (lines_text count t n 0)
group_pieces t n count = record { is = refl }

pub refused_pieces : (number : ℕ)
    → Pieces (refused_text number) (114 ∷ 101 ∷ 102 ∷ 117 ∷ 115 ∷ 101 ∷ 100 ∷ []) (spaced number) (10 ∷ []) [] []
refused_pieces number = record { is = refl }

-- A loop that writes a text piece by piece: whatever writes the rest from here on has written the whole.
pub record Rest (l : List ℕ) (at : ℕ) (all m : List ℕ) (next : ℕ) (rest : List ℕ) : Type 0 where
  pub ends : EndFits next rest
  pub writes : (r : List ℕ) (k : ℕ) → Writes m next rest r k → Writes l at all r k

pub begin : {l all : List ℕ} {at : ℕ} → EndFits at all → Rest l at all l at all
begin h = record { ends = h; writes = λ r k w. w }

module _ {l all m rest : List ℕ} {at next : ℕ} (s : Rest l at all m next rest) where
  pub piece_ends : {a : List ℕ} (b : List ℕ) → rest ≡ a ++ b → EndFits next a
  piece_ends b e = first_ends b (rw (← e) s.ends)

  pub advance : {a b r : List ℕ} {k : ℕ} → rest ≡ a ++ b → Writes m next a r k → Rest l at all r k b
  advance {a} {b} e w = record {
    ends = then_ends w b (rw (← e) s.ends);
    writes = λ q j v. s.writes q j (rw e (joined w v));
  }

  pub finish : rest ≡ [] → Writes l at all m next
  finish e = s.writes m next (rw e (nothing m next))

-- The rest of a list from i on, and at its end.
pub drop_next : (l : List ℕ) (i : ℕ) → i < length l → drop i l ≡ (get_or l i 0 ∷ []) ++ drop (i + 1) l
drop_next l i h = rw add-one (drop-cons l i 0 h)

pub drop_end : (l : List ℕ) (i : ℕ) → length l ≤ i → drop i l ≡ []
drop_end l i h = drop_of_length-le l h

-- The digits of a number, by the tests of `write_digits`.
pub digits_none : {k : ℕ} (x : ℕ) → k ≡ 0 → digits k x ≡ []
unfolding digits
digits_none x z = rw z

digits_suc : (j x : ℕ) → 10 ≤ x → digits (suc j) x ≡ digits j (x / 10) ++ (48 + x % 10) ∷ []
unfolding digits
digits_suc j x h = simp (le-ltb _ _ h)

module _ {k : ℕ} (some : k ≡ 0 → ⊥) (x : ℕ) where
  pub digits_one : x < 10 → digits k x ≡ (48 + x) ∷ []
  unfolding digits
  digits_one h = let q : k ≡ suc (k - 1) = omega arith in rw q (simp (lt-ltb _ _ h))

  pub digits_more : 10 ≤ x → digits k x ≡ digits (k - 1) (x / 10) ++ (48 + x % 10) ∷ []
  digits_more h = let q : k ≡ suc (k - 1) = omega arith in ap (λ (j : ℕ). digits j x) q ∙ digits_suc (k - 1) x h

-- The successors of an element from g on, and the lines from e on: one more, and none.
module _ (t : List ℕ) (n : ℕ) where
  module _ (e : ℕ) {g : ℕ} where
    pub steps_next : {x : ℕ} → x ≡ step_of t n e g → g < n → steps_text (n - g) t n e g ≡ spaced x ++ steps_text (n - (g + 1)) t n e (g + 1)
    unfolding steps_text
    steps_next q h = let p : n - g ≡ suc (n - (g + 1)) = omega arith in rw (p, ← q)

    pub steps_end : n ≤ g → steps_text (n - g) t n e g ≡ []
    unfolding steps_text
    steps_end h = let p : n - g ≡ 0 = omega arith in rw p

  module _ (count : ℕ) {e : ℕ} where
    pub lines_next : e < count → lines_text (count - e) t n e ≡ line_text t n e ++ lines_text (count - (e + 1)) t n (e + 1)
    unfolding lines_text
    lines_next h = let p : count - e ≡ suc (count - (e + 1)) = omega arith in rw p

    pub lines_end : count ≤ e → lines_text (count - e) t n e ≡ []
    unfolding lines_text
    lines_end h = let p : count - e ≡ 0 = omega arith in rw p
