-- A name over 32 bytes. Order 1: "Refusals: 18, name over 32 bytes (after 4, before the build) ..; nothing is written."
use Rattle.std.specs.Prelude.{ℕ, ◌≡◌, ◌↔◌, List}
use Rattle.egg.specs.declared.Refusal.{Refusal}
use Rattle.egg.specs.Answers.{Verdict, fine}
use Rattle.std.specs.Prelude.{Err}
use Rattle.egg.specs.Scan.{refused_of}
use Rattle.build_lending.specs.Lending.{Making, making}
use Rattle.builder.specs.Answers.{Begun}
use Rattle.builder.specs.Calls.{Leaving, leaving}
use Rattle.factor_laws.specs.Refuses.{VerdictIn}
use Rattle.promises_refusals.specs.Papers.{answer_of}
use Rattle.names_values.specs.Answers.{NamedBegun}
use Rattle.names.specs.Making.{NamedMaking, named_making}
use Rattle.promises_names.specs.Aside.{name_aside, begun_aside, begun_answer}

-- `v` is what a call tests before its build: Fine exactly where its arguments are right, and then the call is the build; else a refusal by one of the
-- numbers `before`, and then the call is refused by it and touches nothing.
pub record TestsFirst {A : Type 0} (right : Type 0) (before : List ℕ) (v : Verdict) (call build : A) (touchesNothing : Refusal → A) : Type 0 where
  pub starts : v ≡ fine ↔ right
  pub numbers : VerdictIn before v
  pub goes_on : v ≡ fine → call ≡ build
  pub refused : {r : Refusal} → v ≡ Err r → call ≡ touchesNothing r

-- What a call comes to that is refused and touches nothing.
abbrev pub unmade : List ℕ → List ℕ → Refusal → Making
unmade t w r = making (Err r) t w

-- The same of `begin`.
abbrev pub unbegun : List ℕ → Refusal → Leaving Begun
unbegun t r = leaving (Err r) t

-- What x, a call given a name over 32 bytes, comes to; `made` is what it makes with any other name, and `right` says that its other arguments are right.
pub record LongName (right : Type 0) (made : Making) (t w : List ℕ) (x : NamedMaking) : Type 0 where
  -- And "nothing is written": there is a refusal, and table and work are as they were.
  pub why : Refusal
  pub untouched : x ≡ named_making (Err why) t w
  pub refused : ¬ (answer_of (name_aside x) ≡ fine)
  -- It comes "after 4": where another argument is wrong, it is refused as without a name.
  pub own_first : ¬ right → name_aside x ≡ made
  -- 18 comes exactly where the others are right.
  pub long : answer_of (name_aside x) ≡ refused_of 18 0 0 0 ↔ right

-- The same of `begin`.
pub record LongBegun (right : Type 0) (begun : Leaving Begun) (t : List ℕ) (x : Leaving NamedBegun) : Type 0 where
  pub why : Refusal
  pub untouched : x ≡ leaving (Err why) t
  pub refused : ¬ (begun_answer (begun_aside x) ≡ fine)
  pub own_first : ¬ right → begun_aside x ≡ begun
  pub long : begun_answer (begun_aside x) ≡ refused_of 18 0 0 0 ↔ right
