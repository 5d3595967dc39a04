use Rattle.group_handles.specs.Handles.{handles, elements_of}
use Rattle.egg.proofs.Scans.{stops, goes_on, ends}
use Rattle.subgroup_build.proofs.Admits.{entries_begin, entry_bad, entry_good}
use borrow.Author.Rules.{rules}
use Rattle.subgroup_build.proofs.inner.entries_right.Goals as goal

pub loop-i-init : goal.loop-i-init
loop-i-init c = λ M q. entries_begin M c.args.gens.now

pub returns-then-m-x : goal.returns-then-m-x
returns-then-m-x c = stops (c.loop-i.invariant (elements_of (handles c.args.over)) c.elements_of-m.ensures) c.loop-i-test.true (entry_bad (elements_of (handles c.args.over)) c.args.gens.now c.loop-i.i c.elements_of-m.ensures c.get-x.ensures (search rules) c.shown.ensures c.if-m-x.true)

pub loop-i-preserved : goal.loop-i-preserved
loop-i-preserved c = λ M q. goes_on (c.loop-i.invariant M q) c.loop-i-test.true (entry_good M c.args.gens.now c.loop-i.i q c.get-x.ensures (search rules) c.if-m-x.false)

pub returns : goal.returns
returns c = ends (c.loop-i.invariant (elements_of (handles c.args.over)) c.elements_of-m.ensures) c.loop-i-test.false
