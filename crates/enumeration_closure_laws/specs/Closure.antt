-- What the machine of 000 keeps true of its waiting rows, beside steps that are known beforehand (`step`, as in `enumeration_loop_laws`): no row is
-- forgotten. So when no fact is left, a row of which all columns but one are known has given that one too (`column_known`). `t` and `w` are the table
-- and the work.
use Rattle.std.specs.Prelude.{ℕ, suc, ◌*◌, ◌<◌, ◌≤◌, ◌≡◌, ◌⊎◌, List, [], get_or, length}
use Rattle.enumeration_rows.specs.declared.inner.SideOfGap.{SideOfGap}
use Rattle.enumeration_rows.specs.declared.inner.SideOfGap.TheVariants.{Left, Right}
use Rattle.enumeration_rows.specs.Rows.{work_width, stored_row}
use Rattle.enumeration_wake.specs.Waking.{State, state}
use Rattle.enumeration_run_laws.specs.Invariant.{StepKnown}
use Rattle.enumeration_run_laws.specs.Stack.{Stack}
use Rattle.enumeration_loop_laws.specs.Rings.{turn, ring, first_of_pair, second_of_pair, StepsAgree, Column, row_at}
use Rattle.enumeration_closure_laws.specs.Queues.{In, place_of, copy_at, Waiting, Queues}

-- What is stored in the copy, on a side, of the row of u and the pair at place k: its ends are at columns of the row's loop, with elements below the
-- count there, and every column outside of them is known.
pub record Rowed (count : ℕ) (step : ℕ → ℕ → ℕ) (o t w : List ℕ) (n u k : ℕ) (side : SideOfGap) : Type 0 where
  pub left : ℕ
  pub right : ℕ
  pub is : stored_row w (copy_at n u k side) ≡ row_at step u k left right
  pub ordered : left ≤ right
  pub within : right < 2 * get_or o k 0
  pub from_below : ring step (first_of_pair k) (second_of_pair k) u left < count
  pub to_below : ring step (first_of_pair k) (second_of_pair k) u (suc right) < count
  pub before : (j : ℕ) → j < left → Column n t step u k j
  pub behind : (j : ℕ) → right < j → j < 2 * get_or o k 0 → Column n t step u k j

-- The copy p waits for the step from e by g, and will be woken: that step is not known yet, or it is a fact on the stack, still to be taken. Or p is
-- in hand: it has been taken from its list and is still to be woken.
pub data Awaits (n : ℕ) (t : List ℕ) (held : Waiting) (facts : List ℕ) (hand : SideOfGap → List ℕ) (side : SideOfGap) (p e g : ℕ) : Type 0 where
  listed : In p (held side e g) → (StepKnown n t e g → In (place_of n e g) facts) → Awaits n t held facts hand side p e g
  in_hand : In p (hand side) → Awaits n t held facts hand side p e g

-- The row has a gap: the left end of its left copy is before the right end of its right copy, and each of the two copies waits for the step at that end.
pub record Open (n : ℕ) (step : ℕ → ℕ → ℕ) (t w : List ℕ) (held : Waiting) (facts : List ℕ) (hand : SideOfGap → List ℕ) (u k : ℕ) : Type 0 where
  pub l : ℕ
  pub r : ℕ
  pub left_is : (stored_row w (copy_at n u k Left)).left ≡ l
  pub right_is : (stored_row w (copy_at n u k Right)).right ≡ r
  pub gap : l < r
  pub left_waits : Awaits n t held facts hand Left (copy_at n u k Left) (ring step (first_of_pair k) (second_of_pair k) u l) (turn (first_of_pair k) (second_of_pair k) l)
  pub right_waits : Awaits n t held facts hand Right (copy_at n u k Right) (ring step (first_of_pair k) (second_of_pair k) u (suc r)) (turn (first_of_pair k) (second_of_pair k) r)

-- Every column of the row of u and the pair at place k is known.
abbrev pub Whole : (n : ℕ) (step : ℕ → ℕ → ℕ) (o t : List ℕ) (u k : ℕ) → Type 0
Whole n step o t u k = (j : ℕ) → j < 2 * get_or o k 0 → Column n t step u k j

-- The machine at any moment, with `count` elements: `held` says which copies wait where, `facts` what is on the stack, and `hand` which copies have
-- been taken from their lists and are still to be woken. Every live row is whole or open. `Live` says which rows are live, and a theorem that uses
-- this chooses it; it cannot be all rows: "A new element also gets its step back, which is no fact", so no fact wakes the rows of that element that
-- begin or end with the step back. `lt` and `lw` are the lengths of the two stretches, and the work beyond the elements is blank.
pub record Machine (n : ℕ) (o : List ℕ) (step : ℕ → ℕ → ℕ) (Live : ℕ → ℕ → Type 0) (count lt lw : ℕ) (held : Waiting) (facts : List ℕ) (hand : SideOfGap → List ℕ) (s : State) : Type 0 where
  pub told : StepsAgree n count step s.table
  pub stack : Stack n count s.table s.work s.top facts
  pub queues : Queues n count (length o) s.work held
  pub rows : (u k : ℕ) (side : SideOfGap) → u < count → k < length o → Rowed count step o s.table s.work n u k side
  pub live : (u k : ℕ) → u < count → k < length o → Live u k → Whole n step o s.table u k ⊎ Open n step s.table s.work held facts hand u k
  pub blank : (i : ℕ) → count * work_width n ≤ i → get_or s.work i 0 ≡ 0
  pub table_length : length s.table ≡ lt
  pub work_length : length s.work ≡ lw

-- No copy is in hand.
abbrev pub none_in_hand : SideOfGap → List ℕ
none_in_hand s = []

-- The machine between two places that are visited: no fact is left, and no copy is in hand.
pub record Closed (n : ℕ) (o : List ℕ) (step : ℕ → ℕ → ℕ) (Live : ℕ → ℕ → Type 0) (count lt lw : ℕ) (t w : List ℕ) : Type 0 where
  pub held : Waiting
  pub machine : Machine n o step Live count lt lw held [] none_in_hand (state t w 0)
