use Rattle.std.proofs.Common.{◌++◌, ◌∷◌, [], ◌∙◌, ap, List, ℕ}
use Rattle.report_text.specs.ReportText.{end_text}
use Rattle.report_text.proofs.PieceLemmas.{end_steps}
use Rattle.report_text.proofs.pieces.end_lines.Goals as goal

pub returns : goal.returns
returns c =
    end_steps _ _ _ _ _ _ _ _ _ _ _ _
    (rw c.new-text.ensures.items at c.in_ok-extend_from_slice.ensures.items)
    c.in_ok-put_number.ensures c.in_ok-push.ensures.items
    (c.in_ok-put_word.ensures ∙ ap (λ (t : List ℕ). (c.push.new.self.items ++ t) ++ 32 ∷ []) c.cause_word.ensures)
    c.in_ok-append_log.ensures c.in_ok-push-2.ensures.items c.in_ok-put_number-2.ensures c.in_ok-push-3.ensures.items
    (c.in_ok-extend_from_slice-2.ensures.items ∙ ap (λ (t : List ℕ). c.push-3.new.self.items ++ t) c.deref.ensures.value)
    c.in_ok-push-4.ensures.items
    c.in_ok-put_printed.ensures
    ∙ ap end_text c.end.view_is
