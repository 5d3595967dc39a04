-- This file states what it is for a contract to determine its call. Document 01: "Every exported call has a contract that determines its answer and
-- what the lent buffers hold at exit, on all inputs and each refusal. That the answer is unique is proved".
use Rattle.std.specs.Prelude.{ℕ, ◌≡◌, List}
use contract.Lifetimes.{Lfts}
use denote.Triple.Clauses.{AtExit}
use borrow.Fn.Kinds.{ParamKind, ResultKind, Out, Dens, res_t, ended_of}

-- The contract is the call's own (the `Post` of its `Reads`). Any two outcomes that meet it for the same arguments, each with an answer and with the
-- lent buffers as they are at exit, are the same in all that `seen` names, which is the answer and what each buffer that is written to holds.
abbrev pub Unique : (n : ℕ) (ps : List (ParamKind n)) (r : ResultKind n) → Out n ps r → {A : Type 0} → ((κs : Lfts n) → (res_t r κs).Denot → AtExit (ended_of n ps r) κs → A) → Type 0
Unique n ps r contract seen = (κs : Lfts n) (args : Dens κs ps) (a b : (res_t r κs).Denot) (x y : AtExit (ended_of n ps r) κs)
    → contract κs args a x → contract κs args b y → seen κs a x ≡ seen κs b y
