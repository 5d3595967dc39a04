-- By cases on how the run ended.
use Rattle.enumeration.proofs.inner.counted.Goals as goal

pub returns-in-Done : goal.returns-in-Done
returns-in-Done c = rw c.in-Done.is

pub returns-in-Paused : goal.returns-in-Paused
returns-in-Paused c = rw c.in-Paused.is

pub returns-in-Refused : goal.returns-in-Refused
returns-in-Refused c = rw c.in-Refused.is
