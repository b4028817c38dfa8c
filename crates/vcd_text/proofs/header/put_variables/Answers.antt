use Rattle.std.proofs.Common.{◌++◌, ◌+◌, drop, ap, ◌∙◌, List, ℕ}
use Rattle.basis.proofs.Lists.{left_from}
use Rattle.vdesign.specs.Design.{Variable}
use Rattle.vcd_text.specs.DumpText.{named_variable_line, variable_lines}
use Rattle.vcd_text.proofs.HeaderLemmas.{name_more, variable_more}
use Rattle.vcd_text.proofs.header.put_variables.Goals as goal

pub loop-variable-preserved : goal.loop-variable-preserved
loop-variable-preserved c =
    λ n e. let so_far = c.loop-variable.invariant n e in (
      name_more c.loop-variable.name.items c.follow.new.name.items n c.loop-variable.variable-index so_far.0 c.in_ok-follow.ensures,
      variable_more c.loop-variable.text.items c.loop-variable.name.items c.put_variable.new.text.items
          (c.args.text.now.items ++ variable_lines n c.args.variables.now) n c.loop-variable.variable-index c.variable-item.result
          (drop (c.loop-variable.variable-index + 1) c.args.variables.now) so_far.0
          (c.in_ok-put_variable.ensures
          ∙ ap (λ (name : List ℕ). c.loop-variable.text.items ++ named_variable_line name c.variable-item.result) c.deref.ensures.value)
          (ap (λ (vs : List Variable). c.loop-variable.text.items ++ variable_lines (n + c.loop-variable.variable-index) vs)
          (left_from c.args.variables.now c.loop-variable.variable-index c.variable-item.result c.variable-item.is c.loop-variable-test.true)
          ∙ so_far.1),
    )
