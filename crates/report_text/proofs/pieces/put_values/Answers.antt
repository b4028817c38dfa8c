use Rattle.std.proofs.Common.{◌++◌, ◌∙◌, ◌∷◌, [], ap}
use Rattle.sched_core.specs.LogText.{log_text}
use Rattle.report_text.proofs.PieceLemmas.{values_more}
use Rattle.report_text.proofs.pieces.put_values.Goals as goal

pub loop-race_value-preserved : goal.loop-race_value-preserved
loop-race_value-preserved c =
    values_more c.args.text.now.items c.loop-race_value.text.items c.put_word.new.text.items c.append_log.new.text.items c.push.new.self.items c.args.values.now c.race_value-item.result c.loop-race_value.race_value-index
    c.loop-race_value-test.true c.loop-race_value.invariant
    (c.in_ok-put_word.ensures ∙ rw c.deref.ensures.value (ap (λ x. (c.loop-race_value.text.items ++ x.0) ++ 32 ∷ []) (c.race_value.view_is ∙ c.race_value-item.is)))
    (c.in_ok-append_log.ensures ∙ ap (λ x. c.put_word.new.text.items ++ log_text x.1) (c.race_value.view_is ∙ c.race_value-item.is))
    c.in_ok-push.ensures.items
