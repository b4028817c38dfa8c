use Rattle.std.proofs.Common.{[], ◌∷◌, ◌+◌, List, drop, sym, ap, ◌∙◌}
use Rattle.vexpr_parse.specs.Texts.{words_of}
use Rattle.velab_process.specs.Processes.{ProcessTree, with_begins_before, lower_processes}
use Rattle.velab_process.specs.Inner.{starts_in}
use Rattle.velab_process.proofs.ProcessLemmas.{processes_put, processes_split, starts_open}
use Rattle.velab_process.proofs.elaborator.Elaborator.lower_starts.Goals as goal

pub loop-one-preserved : goal.loop-one-preserved
loop-one-preserved c =
    let words = words_of c.args.self.now.tokens.now in
    let scope = c.args.self.now.scope.now in
    let front = starts_in words c.args.word (c.one-item.result ∷ []) in
    let rest = starts_in words c.args.word (drop (c.loop-one.one-index + 1) c.args.list.now) in
    processes_put c.loop-one.into.items (λ t. lower_processes scope t rest) (lower_processes scope c.loop-one.table front)
    c.lower_start.new.table c.lower_start.new.into.items c.in_ok-lower_start.ensures
    ∙ ap (with_begins_before c.loop-one.into.items)
    (sym (processes_split scope c.loop-one.table front rest)
    ∙ ap (λ (l : List ProcessTree). lower_processes scope c.loop-one.table l)
    (sym (starts_open words c.args.word c.args.list.now c.loop-one.one-index c.one-item.result c.loop-one-test.true c.one-item.is)))
    ∙ c.loop-one.invariant
