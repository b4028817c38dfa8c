use Rattle.std.proofs.Common.{ℕ, List, ◌++◌, ap, ◌∙◌, rules}
use Rattle.vcd_slots.specs.declared.column.Column.{Column}
use Rattle.vcd_slots.proofs.columns.Columns.watch.Goals as goal

pub returns-clause-some : goal.returns-clause-some
returns-clause-some c = record {
  column = c.new.result;
  code = ap (λ (column : Column). column.code.items) c.new.ensures ∙ c.in_ok-extend_from_slice.ensures.items
      ∙ ap (λ (list : List ℕ). list ++ c.deref.result.now) c.new-code.ensures.items ∙ c.deref.ensures.value;
  width = ap (λ (column : Column). column.width) c.new.ensures ∙ c.in-Some.ensures.some.0;
  last = search rules;
  added = c.in_ok-push.ensures.items;
}
