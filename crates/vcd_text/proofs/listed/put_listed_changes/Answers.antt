use Rattle.std.proofs.Common.{ℕ, ◌+◌, ◌++◌, ap, ◌∙◌}
use Rattle.vcd_text.specs.DumpText.{changes, value_lines}
use Rattle.vcd_text.specs.Listed.{changes_from}
use Rattle.vcd_text.proofs.ListedLemmas.{listed_more, listed_all}
use Rattle.vcd_text.proofs.listed.put_listed_changes.Goals as goal

pub loop-variable-preserved : goal.loop-variable-preserved
loop-variable-preserved c =
    let marks = c.args.marks.now in
    let old = c.args.old.now in
    let new = c.args.new.now in
    ap (λ (n : ℕ). c.put_change_at.new.text.items ++ value_lines (changes_from (n + 1) marks old new)) c.from-from.ensures
    ∙ listed_more marks old new c.args.variables.now c.loop-variable.from c.in-Some.variable c.loop-variable.text.items c.put_change_at.new.text.items
    (c.args.text.now.items ++ value_lines (changes 0 marks old new)) c.requires c.in-Some.ensures.listed c.in-Some.ensures.next
    c.in_ok-put_change_at.ensures c.loop-variable.invariant

pub returns : goal.returns
returns c =
    let marks = c.args.marks.now in
    let old = c.args.old.now in
    let new = c.args.new.now in
    listed_all marks old new c.args.variables.now c.loop-variable.from c.loop-variable.text.items (c.args.text.now.items ++ value_lines (changes 0 marks old new)) c.requires
    c.in_default.ensures.next c.loop-variable.invariant
