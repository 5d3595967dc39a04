-- What holds of an enumeration's run between two places, at its end, and where it is refused.
use Rattle.std.specs.Prelude.{ℕ, ◌+◌, ◌<◌, ◌≤◌, ◌≡◌, List, length, get_or}
use Rattle.egg.specs.Table.{start_of, length_of}
use Rattle.egg.specs.declared.Refusal.{Refusal}
use Rattle.theory.specs.Presentation.{order_of}
use Rattle.theory.specs.Appearance.{Ahead}
use Rattle.theory.specs.Past.{Past}
use Rattle.egg.specs.Answers.{numbered}
use Rattle.enumeration_run_laws.specs.Invariant.{RunOk, StepKnown}

-- Between two places, with c elements and the place of x and g next: both stretches are right (`run`), the places before have been visited (`past`),
-- every step that was visited is known, a known step is known the other way too, and no word is over 4,096.
pub record Going (n : ℕ) (o : List ℕ) (room lt lw x g c : ℕ) (t w : List ℕ) : Type 1 where
  pub run : RunOk n (order_of o) room lt lw c t w
  pub past : Past n (order_of o) run.word x g c
  pub seen : (y h : ℕ) → h < n → Ahead y h x g → StepKnown n t y h
  pub backs : (y h : ℕ) → h < n → StepKnown n t y h → get_or t (start_of n y + (n + h)) 0 ≡ 0 → ⊥
  pub letters : (e : ℕ) → e < c → length_of t n e ≡ length (run.word e)
  pub short : (e : ℕ) → e < c → length_of t n e ≤ 4096

-- A run that is done with N elements: all rows are visited.
pub record Finished (n : ℕ) (o : List ℕ) (room lt lw N : ℕ) (t w : List ℕ) : Type 1 where
  pub run : RunOk n (order_of o) room lt lw N t w
  pub end : ℕ
  pub last_row : end + 1 ≡ N
  pub past : Past n (order_of o) run.word end n N
  pub seen : (e g : ℕ) → e < N → g < n → StepKnown n t e g
  pub backs : (e g : ℕ) → e < N → g < n → get_or t (start_of n e + (n + g)) 0 ≡ 0 → ⊥
  pub letters : (e : ℕ) → e < N → length_of t n e ≡ length (run.word e)
  pub short : (e : ℕ) → e < N → length_of t n e ≤ 4096

-- A run that is refused, at the first place whose step is not known and where no element can be made: 5, "an element is needed beyond the room"; 6, "its word
-- would pass 4,096". All places before it have been visited.
pub data Broken (n : ℕ) (o : List ℕ) (room lt lw : ℕ) (t w : List ℕ) : Refusal → Type 1 where
  no_room : (e g : ℕ) → e < room → g < n → Going n o room lt lw e g room t w → get_or t (start_of n e + g) 0 ≡ 0 → Broken n o room lt lw t w (numbered 5 e g 0)
  long_word : (e g c : ℕ) → e < c → g < n → c < room → (G : Going n o room lt lw e g c t w) → get_or t (start_of n e + g) 0 ≡ 0 → length (G.run.word e) ≡ 4096
      → Broken n o room lt lw t w (numbered 6 e g 0)
