use Rattle.std.proofs.Common.{◌+◌, sym, subst, drop}
use Rattle.report_text.specs.Inner.Ends.{IsAfterValue, IsAfterSpace, IsMore}
use Rattle.report_text.proofs.EndLemmas.{columns_are, more_from}
use Rattle.report_text.proofs.ends.is_line_of.Goals as goal

pub returns-in_default-after_value : goal.returns-in_default-after_value
returns-in_default-after_value c = (
  λ t. absurd cc,
  λ h.
      let v = (columns_are c.args.columns.now c.in-Some.more.now c.in-Some.first.now c.args.line.now c.in-Some.ensures.cases.0).0 h in
      absurd (c.in_default-after_value.ensures.each v.0 (subst (λ column. IsAfterValue column.width c.args.line.now v.0) (sym c.first.view_is) v.1)),
)

pub loop-column-init : goal.loop-column-init
loop-column-init c = record {
  there = λ h.
      let v = (columns_are c.args.columns.now c.in-Some.more.now c.in-Some.first.now c.args.line.now c.in-Some.ensures.cases.0).0 h in
      subst (λ t. IsMore c.in-Some.more.now t) (sym (c.in-Some-after_value.ensures.each v.0 (subst (λ column. IsAfterValue column.width c.args.line.now v.0) (sym c.first.view_is) v.1))) v.2;
  back = λ m. (columns_are c.args.columns.now c.in-Some.more.now c.in-Some.first.now c.args.line.now c.in-Some.ensures.cases.0).1
      (c.in-Some-after_value.rest.now, subst (λ column. IsAfterValue column.width c.args.line.now c.in-Some-after_value.rest.now) c.first.view_is c.in-Some-after_value.ensures.read, m);
}

pub returns-in_default-after_space : goal.returns-in_default-after_space
returns-in_default-after_space c = (
  λ t. absurd cc,
  λ h.
      let m = (more_from c.in-Some.more.now c.loop-column.column-index c.column-item.result c.loop-column.rest.now c.column-item.is c.loop-column-test.true).0 (c.loop-column.invariant.there h) in
      absurd (c.in_default-after_space.ensures.each m.0 (subst (λ column. IsAfterSpace column.width c.loop-column.rest.now m.0) (sym c.column.view_is) m.1)),
)

pub loop-column-preserved : goal.loop-column-preserved
loop-column-preserved c = record {
  there = λ h.
      let m = (more_from c.in-Some.more.now c.loop-column.column-index c.column-item.result c.loop-column.rest.now c.column-item.is c.loop-column-test.true).0 (c.loop-column.invariant.there h) in
      subst (λ t. IsMore (drop (c.loop-column.column-index + 1) c.in-Some.more.now) t) (sym (c.in-Some-after_space.ensures.each m.0 (subst (λ column. IsAfterSpace column.width c.loop-column.rest.now m.0) (sym c.column.view_is) m.1))) m.2;
  back = λ m. c.loop-column.invariant.back
      ((more_from c.in-Some.more.now c.loop-column.column-index c.column-item.result c.loop-column.rest.now c.column-item.is c.loop-column-test.true).1
      (c.in-Some-after_space.next.now, subst (λ column. IsAfterSpace column.width c.loop-column.rest.now c.in-Some-after_space.next.now) c.column.view_is c.in-Some-after_space.ensures.read, m));
}
