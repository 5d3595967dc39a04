-- This file defines why a build from the numbers of a source is refused, and where: each refusal of document 01's table in the words of the theory,
-- with the places that it carries. "The first that applies, in numeric order unless stated, is given, and each is given only then." "During reading
-- the order at one place is 7, 5, 6. Reading ends before 8; then 8 to 13 in order."
use Rattle.std.specs.Prelude.{ℕ, suc, ◌<◌, ◌≡◌, length}
use Rattle.egg.specs.declared.Refusal.{Refusal}
use Rattle.egg.specs.Answers.{numbered}
use Rattle.theory.specs.Table.{Columns, generator}
use Rattle.theory.specs.Appearance.{recorded}
use Rattle.theory.specs.Regular.{inverse}
use Rattle.build_reading_laws.specs.Read.{Readable, ReadSoFar, ReadingRefused}
use Rattle.build_laws.specs.Taken.{Groupless}
use Rattle.promises_refusals.specs.Firsts.{FirstOf, FirstPlace}

-- Refusal 5, "an element is needed beyond the room", is due at (e, g): nothing is refused before; its number is the count, a new element; and the
-- room is full.
pub record Overflows (src : ℕ → ℕ → ℕ) (n room e g : ℕ) : Type 0 where
  pub count : ℕ
  pub before : ReadSoFar src n room e g count
  pub column : g < n
  pub needed : src e g ≡ count
  pub full : count ≡ room

-- Refusal 6, "its word would pass 4,096", is due at (e, g): nothing is refused before; its number is a new element, for which there is room; and the
-- word of e is full.
pub record Overlong (src : ℕ → ℕ → ℕ) (n room e g : ℕ) : Type 0 where
  pub count : ℕ
  pub before : ReadSoFar src n room e g count
  pub column : g < n
  pub needed : src e g ≡ count
  pub has_room : count < room
  pub full : length (recorded n src e) ≡ 4096

-- Refusal 7, "a composed number skips ahead", with the number, is due at (e, g): nothing is refused before, and its number v is more than the count.
pub record SkipsAhead (src : ℕ → ℕ → ℕ) (n room e g v : ℕ) : Type 0 where
  pub count : ℕ
  pub before : ReadSoFar src n room e g count
  pub column : g < n
  pub number : src e g ≡ v
  pub ahead : count < v

-- By the generator g no element leads to e: it has no predecessor there.
abbrev pub Unreached : ℕ → (ℕ → ℕ → ℕ) → ℕ → ℕ → Type 0
Unreached N src e g = (x : ℕ) → x < N → ¬ (src x g ≡ e)

-- Refusal 8, "a successor or predecessor missing", is due at (e, g): the numbers follow the numbering rule, within the room and with words to 4,096;
-- every row that was reached is read, so that no successor is missing; and (e, g) is the first place without a predecessor.
pub record Lacks (src : ℕ → ℕ → ℕ) (n room e g : ℕ) : Type 0 where
  pub elements : ℕ
  pub readable : Readable src n room elements
  pub first : FirstPlace n elements (Unreached elements src) e g

-- A place has "a fixed point or wrong generator row": the step stays where it is, or an element other than the identity has a generator's element as
-- that step.
pub data WrongStep (src : ℕ → ℕ → ℕ) (e g : ℕ) : Type 0 where
  stays : src e g ≡ e → WrongStep src e g
  generator_row : 0 < e → src e g ≡ generator src g → WrongStep src e g

-- Refusal 9, "a fixed point or wrong generator row or count (003)", is due at (e, g): 8 has passed, so that `back` undoes each column, and (e, g) is
-- the first wrong step. A count is never wrong then (`counts_right_lem`).
pub record Strays (src : ℕ → ℕ → ℕ) (n room e g : ℕ) : Type 0 where
  pub elements : ℕ
  pub readable : Readable src n room elements
  pub back : ℕ → ℕ → ℕ
  pub columns : Columns n elements src back
  pub first : FirstPlace n elements (WrongStep src) e g

-- The inverse that the recorded word gives: it "follows the reversed word through predecessors from the identity".
abbrev pub inverse_by_word : (ℕ → ℕ → ℕ) → ℕ → (ℕ → ℕ → ℕ) → ℕ → ℕ
inverse_by_word src n back e = inverse back (recorded n src) e

-- Refusal 10, "inverse of inverse differs", with "element, inverse, its inverse", is due: 8 and 9 have passed, and e is the first element whose
-- inverse i has an inverse j that is not e.
pub record Twists (src : ℕ → ℕ → ℕ) (n room e i j : ℕ) : Type 0 where
  pub elements : ℕ
  pub readable : Readable src n room elements
  pub back : ℕ → ℕ → ℕ
  pub columns : Columns n elements src back
  pub moves : {x g : ℕ} → x < elements → g < n → ¬ (WrongStep src x g)
  pub first : FirstOf elements (λ x. ¬ (inverse_by_word src n back (inverse_by_word src n back x) ≡ x)) e
  pub inverse_is : inverse_by_word src n back e ≡ i
  pub again_is : inverse_by_word src n back i ≡ j

-- Refusal 11, "identity row is not 1..n", is due at g: 8 to 10 have passed, and g is the first generator whose element is not g + 1.
pub record Misnumbers (src : ℕ → ℕ → ℕ) (n room g : ℕ) : Type 0 where
  pub elements : ℕ
  pub readable : Readable src n room elements
  pub back : ℕ → ℕ → ℕ
  pub columns : Columns n elements src back
  pub moves : {x h : ℕ} → x < elements → h < n → ¬ (WrongStep src x h)
  pub turns : {x : ℕ} → x < elements → inverse_by_word src n back (inverse_by_word src n back x) ≡ x
  pub first : FirstOf n (λ x. ¬ (generator src x ≡ suc x)) g

-- All that can be refused, one case for a number. 5, 6 and 7 are the reading's: the first three records above, as `fault_5` to `fault_7` prove; and
-- 12 is `Groupless`.
pub data Fault (src : ℕ → ℕ → ℕ) (n room : ℕ) : Refusal → Type 1 where
  unread : {r : Refusal} → ReadingRefused src n room r → Fault src n room r
  lacks : {e g : ℕ} → Lacks src n room e g → Fault src n room (numbered 8 e g 0)
  strays : {e g : ℕ} → Strays src n room e g → Fault src n room (numbered 9 e g 0)
  twists : {e i j : ℕ} → Twists src n room e i j → Fault src n room (numbered 10 e i j)
  misnumbers : {g : ℕ} → Misnumbers src n room g → Fault src n room (numbered 11 g 0 0)
  groupless : {N : ℕ} → Groupless src n room N → Fault src n room (numbered 12 0 0 0)
