use Rattle.std.proofs.Common.{List, sym, subst}
use Rattle.std.proofs.lemmas.Result.{IfOk-weaker}
use Rattle.report_text.specs.WellFormed.{Each}
use Rattle.vreport.specs.declared.row.Row.{Row}
use Rattle.vreport.specs.Ends.{HasBytes, IsTrueEnd, ListsEndsOf}
use Rattle.vreport.specs.Inner.{AreEnds, AreRows, IsWritable}
use Rattle.vreport.proofs.WholeLemmas.{ends_bytes, ends_kept, ends_marked, ends_true}
use Rattle.vreport.proofs.ends.ends_of.Goals as goal

pub returns-clause-true_ends : goal.returns-clause-true_ends
returns-clause-true_ends g c =
    let setting = c.args.machine.now in
    let limits = c.args.limits.now in
    let marks = g.M.Marks.pairs c.args.marks.now in
    let rows = c.deref.result.now in
    let law = c.machine_law.ensures in
    IfOk-weaker c.ends_of_rows.result (λ found. AreEnds setting limits marks rows found.ends.items) (λ found. Each (IsTrueEnd setting limits) found.ends.items)
    (λ found are. ends_true setting limits marks rows found.ends.items are (law.same setting) (law.stands setting) (law.runs setting) c.requires.found) c.ends_of_rows.ensures.ok

pub returns-clause-bytes : goal.returns-clause-bytes
returns-clause-bytes g c =
    let setting = c.args.machine.now in
    let limits = c.args.limits.now in
    let marks = g.M.Marks.pairs c.args.marks.now in
    let rows = c.deref.result.now in
    IfOk-weaker c.ends_of_rows.result (λ found. AreEnds setting limits marks rows found.ends.items) (λ found. Each (HasBytes setting limits.steps) found.ends.items)
    (λ found are. ends_bytes setting limits marks rows found.ends.items are) c.ends_of_rows.ensures.ok

pub returns-clause-listed : goal.returns-clause-listed
returns-clause-listed g c =
    let setting = c.args.machine.now in
    let limits = c.args.limits.now in
    let marks = g.M.Marks.pairs c.args.marks.now in
    let rows = c.deref.result.now in
    let of : AreRows setting marks rows = subst (λ (xs : List Row). AreRows setting marks xs) (sym c.deref.ensures.value) c.in_ok-rows.ensures.of in
    IfOk-weaker c.ends_of_rows.result (λ found. AreEnds setting limits marks rows found.ends.items) (λ found. ListsEndsOf setting marks found.ends.items)
    (λ found are. ends_marked setting limits marks rows found.ends.items are of) c.ends_of_rows.ensures.ok

pub returns-clause-kept : goal.returns-clause-kept
returns-clause-kept g c =
    let setting = c.args.machine.now in
    let limits = c.args.limits.now in
    let marks = g.M.Marks.pairs c.args.marks.now in
    let rows = c.deref.result.now in
    IfOk-weaker c.ends_of_rows.result (λ found. AreEnds setting limits marks rows found.ends.items) (λ found. Each (IsWritable setting.looked) found.ends.items)
    (λ found are. ends_kept setting limits marks rows found.ends.items are) c.ends_of_rows.ensures.ok
