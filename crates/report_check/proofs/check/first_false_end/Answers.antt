use Rattle.std.proofs.Common.{◌≡◌, ◌<◌, List, length, get_or, ap, subst, ◌∙◌}
use Rattle.report_text.specs.Report.{End, Report}
use Rattle.report_check.proofs.FirstLemmas.{first_false, one_more}
use Rattle.report_check.proofs.check.first_false_end.Goals as goal

pub returns-then-not-branch : goal.returns-then-not-branch
returns-then-not-branch c =
    let report = c.args.report.now in
    let place = c.loop-place.place in
    let end = c.index.result.now in
    let ends_are = ap (λ (r : Report). r.ends) c.report.view_is in
    let within : place < length report.ends = subst (λ (n : _). place < n) (c.len-place-end.ensures ∙ c.report.inside.ends.ok.0 ∙ ap length ends_are) c.loop-place-test.true in
    let here : end ≡ get_or report.ends place end = c.index.ensures ∙ ap (λ (ends : List End). get_or ends place end) ends_are in
    first_false c.args.machine.now report c.args.dumps.now place end _ c.in_ok-is_true_end.field-0 c.requires within here
    c.in_ok-is_true_end.ensures c.loop-place.invariant c.if-not-branch.true

pub loop-place-preserved : goal.loop-place-preserved
loop-place-preserved c =
    let report = c.args.report.now in
    let place = c.loop-place.place in
    let end = c.index.result.now in
    let ends_are = ap (λ (r : Report). r.ends) c.report.view_is in
    let within : place < length report.ends = subst (λ (n : _). place < n) (c.len-place-end.ensures ∙ c.report.inside.ends.ok.0 ∙ ap length ends_are) c.loop-place-test.true in
    let here : end ≡ get_or report.ends place end = c.index.ensures ∙ ap (λ (ends : List End). get_or ends place end) ends_are in
    one_more c.args.machine.now report c.args.dumps.now place end _ c.in_ok-is_true_end.field-0 c.requires within here
    c.in_ok-is_true_end.ensures c.loop-place.invariant c.if-not-branch.false
