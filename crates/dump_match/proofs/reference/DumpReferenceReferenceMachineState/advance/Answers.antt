use Rattle.std.proofs.Common.{List, subst}
use Rattle.dump_match.specs.Known.{AreMarked, has_value_in}
use Rattle.dump_match.specs.declared.comparison.Pair.{Pair}
use Rattle.dump_match.proofs.ReadLemmas.{advanced}
use Rattle.dump_match.proofs.reference.DumpReferenceReferenceMachineState.advance.Goals as goal

pub returns-clause-reads : goal.returns-clause-reads
returns-clause-reads g c =
    let (items, advances) = c.in_ok-advance.ensures.advances in
    advanced g.R.Read.remaining c.args.self.now.machine.now c.args.self.now.comparison.pairs.items c.args.self.now.slots c.advance.new.self items
    c.args.self.now.known.items c.mark_known.new.known.items advances c.mark_known.ensures.same
    (subst (λ (pairs : List Pair). AreMarked c.args.self.now.known.items c.mark_known.new.known.items (has_value_in pairs c.advance.new.self))
    c.deref.ensures.value c.mark_known.ensures.marked)
