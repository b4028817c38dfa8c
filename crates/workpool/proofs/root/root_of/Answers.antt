use Rattle.std.proofs.Common.{arith}
use Rattle.statebook.specs.ExplorerCore.{IsEntry}
use Rattle.workpool.proofs.RootLemmas.{root_entry, wanted_entry}
use Rattle.workpool.proofs.root.root_of.Given.{Over}
use Rattle.workpool.proofs.root.root_of.Goals as goal
use Rattle.workpool.proofs.root.root_of.Goals.{After-read}

-- what was seen is an entry that may be added
seen : (g : Over) (c : After-read g) → IsEntry (g.P.Space.rules c.args.space.now) c.args.limits.now.depart c.args.limits.now.steps c.args.seen.entry
seen g c =
    wanted_entry g.Q.SearchParameters.rules g.Q.SearchParameters.depart g.Q.SearchParameters.steps (g.P.Space.rules c.args.space.now) c.args.limits.now c.args.seen.entry c.requires.parameters (rw c.read.ensures.same at c.read.ensures.wanted)

pub returns-then-read-eq0-clause-root : goal.returns-then-read-eq0-clause-root
returns-then-read-eq0-clause-root g c =
    root_entry (g.P.Space.rules c.args.space.now) c.args.limits.now c.args.seen.entry (seen g (goal.at.returns-then-read-eq0-clause-root g c).After-read) (rw c.read.ensures.same at c.if-read-eq0.true)

pub returns-else-read-eq0-clause-none : goal.returns-else-read-eq0-clause-none
returns-else-read-eq0-clause-none g c = record {
  entry = c.args.seen.entry;
  allowed = seen g (goal.at.returns-else-read-eq0-clause-none g c).After-read;
  same = c.requires.first;
  later = (let some = rw c.read.ensures.same at c.if-read-eq0.false in omega (arith, some));
}
