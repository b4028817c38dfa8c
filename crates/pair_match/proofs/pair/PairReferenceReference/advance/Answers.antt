use Rattle.std.proofs.Common.{sym, refl, ◌∙◌}
use Rattle.pair_match.proofs.PairLemmas.{reads_on}
use Rattle.pair_match.proofs.pair.PairReferenceReference.advance.Goals as goal

pub returns-clause-reads : goal.returns-clause-reads
returns-clause-reads g c = reads_on g.R.Reference.piece g.R.Reference.upcoming g.R.Reference.reads c.args.self.now
    (record { first = c.go_to.new.reference; second = c.go_to-2.new.reference; time = c.in-Some.time; before = c.args.self.now.time })
    c.in-Some.time (sym c.next_of.ensures.upcoming ∙ c.in-Some.is) c.in-Some.ensures.later refl c.in_default-go_to.ensures.goes
    c.in_default-go_to.ensures.ahead c.in_default-go_to-2.ensures.goes c.in_default-go_to-2.ensures.ahead
