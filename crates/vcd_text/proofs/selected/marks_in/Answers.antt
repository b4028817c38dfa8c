use Rattle.std.proofs.Common.{◌++◌, ◌∷◌, [], ap, ◌∙◌, Bool}
use Rattle.vcd_text.proofs.SelectedLemmas.{marks_more}
use Rattle.vcd_text.proofs.selected.marks_in.Goals as goal

pub loop-scope-preserved : goal.loop-scope-preserved
loop-scope-preserved c =
    marks_more c.args.actions.now c.args.commands.now c.loop-scope.list.items c.push.new.self.items _ c.scope-item.result c.args.scopes.now c.loop-scope.scope-index
    c.scope-item.is c.loop-scope-test.true
    (c.in_ok-push.ensures.items ∙ ap (λ (mark : Bool). c.loop-scope.list.items ++ mark ∷ []) c.takes_scope.ensures) c.loop-scope.invariant
