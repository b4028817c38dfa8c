use Rattle.std.proofs.Common.{◌≡◌, drop}
use Rattle.vexpr_parse.specs.Texts.{words_of}
use Rattle.velab_process.specs.Processes.{with_begins_before}
use Rattle.velab_process.specs.Inner.{joins_of}
use Rattle.velab_process.proofs.join.Connector.lower_joins.Given as goal

abbrev pub invariant-loop-port : goal.invariant-loop-port
invariant-loop-port l =
    with_begins_before l.into.items (joins_of (words_of l.self.tokens.now) l.self.whose l.self.outer.now l.self.inner.now l.connections l.table (drop l.port-index l.ports))
    ≡ with_begins_before l.initial.into.items (joins_of (words_of l.self.tokens.now) l.self.whose l.self.outer.now l.self.inner.now l.connections l.initial.table l.ports)
