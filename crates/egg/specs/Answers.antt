-- What calls answer, and how an answer goes on from another: the first refusal stands.
use Rattle.std.specs.Prelude.{ℕ, Result, Ok, Err, ⊤}
use Rattle.egg.specs.declared.GroupElementId.{GroupElementId}
use Rattle.egg.specs.declared.Refusal.{Refusal}
use Rattle.egg.specs.declared.Factor.{Factor}
pub use Rattle.egg.specs.Refusals.{numbered}

-- What a check answers.
abbrev pub Verdict : Type 0
Verdict = Result ⊤ Refusal

-- A check that finds nothing.
abbrev pub fine : Verdict
fine = Ok tt

-- What a question about elements answers.
abbrev pub Reached : Type 0
Reached = Result GroupElementId Refusal

-- What a question about numbers answers.
abbrev pub Counted : Type 0
Counted = Result ℕ Refusal

-- What a call that makes a factor answers: its handle.
abbrev pub Made : Type 0
Made = Result Factor Refusal

-- What comes after an answer: f goes on from an element, and a refusal stands.
abbrev pub on_reached : Reached → (ℕ → Reached) → Reached
on_reached (Ok e) f = f e.0
on_reached (Err r) f = Err r

-- The refusal of a test where it has one, else the element that is answered.
abbrev pub if_reach : Verdict → Reached → Reached
if_reach (Ok _) x = x
if_reach (Err r) x = Err r

-- The refusal of a test where it has one, else the count that is answered.
abbrev pub if_count : Verdict → Counted → Counted
if_count (Ok _) x = x
if_count (Err r) x = Err r

-- The refusal of an answer, where it is one.
abbrev pub answer_of : {A : Type 0} → Result A Refusal → Verdict
answer_of (Ok _) = fine
answer_of (Err r) = Err r
