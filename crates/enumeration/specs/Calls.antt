-- The enumeration as it is called: the refusals in front of it, the run in its stretches, the checks, and what every lent buffer holds. Document 01,
-- module 4, and "13 applies to enumeration".
use Rattle.std.specs.Prelude.{ℕ, List, length, ltb, Ok, Err}
use Rattle.egg.specs.Answers.{Counted, Verdict}
use Rattle.egg.specs.Table.{pick}
use Rattle.egg.specs.Pairs.{orders_right}
use Rattle.build_lending.specs.Finish.{Built, built, zeroed, finished}
use Rattle.build_lending.specs.Lending.{table_need, work_need, lent_right, refused_made, Making, making, lent_back}
use Rattle.factor_relations.specs.Relations.{relations_row}
use Rattle.enumeration_run.specs.declared.inner.Ran.{Ran}
use Rattle.enumeration_run.specs.declared.inner.Ran.TheVariants as ran
use Rattle.enumeration_run.specs.Run.{enumerated}

-- How a run ended, as a count or a refusal. A run whose allowance is spent would go on with what it has, and 8 would refuse it; with the largest
-- allowance that never happens.
abbrev pub ran_count : Ran → Counted
ran_count (ran.Done count) = Ok count
ran_count (ran.Paused at) = Ok at.count
ran_count (ran.Refused r) = Err r

-- What testing the relations comes to: the count or a refusal, and the table. In a table that has passed 8 to 12 a relation that holds at the
-- identity holds at every element, and one that fails, fails at the identity first; so 13 is tested at the identity alone.
pub data Relating : Type 0 where
  relating : Counted → List ℕ → Relating

-- The same by the verdict on the relations: a refusal zeroes the table.
abbrev pub relating_by : Verdict → ℕ → List ℕ → Relating
relating_by (Ok _) count t = relating (Ok count) t
relating_by (Err r) count t = relating (Err r) (zeroed t)

-- The same by what the build has come to so far: what 8 to 12 refused stays refused.
abbrev pub relates : ℕ → List ℕ → Counted → List ℕ → Relating
relates n o (Ok count) t = relating_by (relations_row t n count o 0) count t
relates n o (Err r) t = relating (Err r) t

-- What the build comes to then, with the work as it stands.
abbrev pub with_work : List ℕ → Relating → Built
with_work w (relating c t) = built c t w

-- A build's outcome with 13 tested after it: "13 applies to enumeration".
abbrev pub related : ℕ → List ℕ → Built → Built
related n o (built c t w) = with_work w (relates n o c t)

-- The whole build in its stretches, of lt and lw numbers: the run, 8 to 12, then 13.
unfoldable pub enumerated_in : (lt lw : ℕ) (o : List ℕ) (n room : ℕ) → Built
enumerated_in lt lw o n room =
    related n o (finished (ran_count (enumerated n o room lt lw).answer) n (enumerated n o room lt lw).table (enumerated n o room lt lw).work)

-- What the call comes to by the verdict on the orders: 2 and 3 "change nothing", and with right orders it goes on.
abbrev pub refused_making : Verdict → List ℕ → List ℕ → Making → Making
refused_making (Ok _) t w m = m
refused_making (Err r) t w m = making (Err r) t w

-- What `enumerate` does: refusal 1, then 2 and 3, then 4, with every buffer as it was; then the build.
unfoldable pub enumerates : (table : List ℕ) (start : ℕ) (work orders : List ℕ) (n room : ℕ) → Making
enumerates table start work orders n room =
    pick (ltb 8 n) (making (refused_made 1 n) table work)
    (refused_making (orders_right orders n) table work
    (pick (lent_right (length table) start (length work) room n)
    (lent_back table start work n room (enumerated_in (table_need n room) (work_need n room) orders n room))
    (making (refused_made 4 0) table work)))
