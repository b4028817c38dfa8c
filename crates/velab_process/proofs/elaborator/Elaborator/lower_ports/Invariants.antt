use Rattle.std.proofs.Common.{◌≡◌, drop}
use Rattle.vexpr_parse.specs.Texts.{words_of}
use Rattle.velab_process.specs.Processes.{with_begins_before, lower_processes}
use Rattle.velab_process.specs.Inner.{values_in}
use Rattle.velab_process.proofs.elaborator.Elaborator.lower_ports.Given as goal

abbrev pub invariant-loop-one : goal.invariant-loop-one
invariant-loop-one l =
    with_begins_before l.into.items (lower_processes l.self.scope.now l.table (values_in (words_of l.self.tokens.now) (drop l.one-index l.list)))
    ≡ with_begins_before l.initial.into.items (lower_processes l.self.scope.now l.initial.table (values_in (words_of l.self.tokens.now) l.list))
