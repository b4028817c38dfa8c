use Rattle.std.proofs.Common.{◌≡◌, ◌+◌, ◌++◌, ◌∷◌, [], ◌∙◌, ◌&&◌, true, ap, sym, subst, arith, length, length-append, map}
use Rattle.basis.proofs.Bools.{and_right}
use Rattle.report_text.specs.Report.{Column}
use Rattle.report_text.specs.ReportText.{column_line}
use Rattle.report_text.specs.WellFormed.{IsColumn}
use Rattle.report_text.specs.Inner.Columns.{Differ}
use Rattle.report_text.proofs.ListLemmas.{HasRead, has_all, has_lost}
use Rattle.report_text.proofs.ColumnLemmas.{column_step, columns_spelled, names_more}
use Rattle.report_text.proofs.columns.read_columns.Goals as goal

pub loop-place-preserved : goal.loop-place-preserved
loop-place-preserved c =
    let column : Column = record { name = c.column_line-width.result.0.now; width = c.column_line-width.result.1 } in
    let items : c.push.new.self.items ≡ c.loop-place.columns.items ++ column ∷ [] = c.in_ok-push.ensures.items ∙ (λ i. c.loop-place.columns.items ++ record { name = c.in_ok-name.ensures i; width = column.width } ∷ []) in
    let fine : (c.column_line-width.new.reader.ok && c.in_ok-added.added) ≡ true = sym c.require.ensures.ok ∙ sym c.is_ok.ensures ∙ c.if-not-is_ok.false in
    let put = c.in_ok-added.ensures.put (and_right c.column_line-width.new.reader.ok c.in_ok-added.added fine) in
    let l : length c.push.new.self.items ≡ length c.loop-place.columns.items + 1 = ap length items ∙ length-append c.loop-place.columns.items (column ∷ []) in
    record {
      read = subst (λ xs. HasRead column_line IsColumn Differ c.args.count c.args.reader.now xs c.require.new.self) (sym items)
          (column_step c.args.count c.args.reader.now c.loop-place.reader c.column_line-width.new.reader c.require.new.self c.loop-place.names c.loop-place.columns.items column c.in_ok-added.added
          c.loop-place.invariant.read c.loop-place.invariant.names (omega (arith, c.loop-place.invariant.len, c.loop-place-test.true)) c.column_line-width.ensures.read c.column_line-width.ensures.each c.in_ok-added.ensures.new c.require.ensures.ok c.require.ensures.rest);
      names = names_more c.loop-place.names c.add.new.self c.loop-place.columns.items column c.loop-place.invariant.names put ∙ ap (map (λ x. x.name)) (sym items);
      len = omega (arith, l, c.loop-place.invariant.len);
    }

pub returns-then-not-is_ok-clause-each : goal.returns-then-not-is_ok-clause-each
returns-then-not-is_ok-clause-each c = λ columns rest ok h n e.
    let column : Column = record { name = c.column_line-width.result.0.now; width = c.column_line-width.result.1 } in
    absurd (has_lost column_line IsColumn Differ c.args.count c.args.reader.now c.require.new.self (c.loop-place.columns.items ++ column ∷ [])
    (column_step c.args.count c.args.reader.now c.loop-place.reader c.column_line-width.new.reader c.require.new.self c.loop-place.names c.loop-place.columns.items column c.in_ok-added.added
    c.loop-place.invariant.read c.loop-place.invariant.names (omega (arith, c.loop-place.invariant.len, c.loop-place-test.true)) c.column_line-width.ensures.read c.column_line-width.ensures.each c.in_ok-added.ensures.new c.require.ensures.ok c.require.ensures.rest)
    (sym c.is_ok.ensures ∙ c.if-not-is_ok.true) columns rest ok h n (e ∙ ap (λ t. t ++ rest) (sym (columns_spelled columns))))

pub returns-clause-read : goal.returns-clause-read
returns-clause-read c = λ ok.
    let inv = c.loop-place.invariant in
    let s = inv.read.sound ok in
    let n : length c.loop-place.columns.items ≡ c.args.count = omega (arith, inv.len, c.loop-place-test.false, c.loop-place.auto.place-end) in
    (s.0, (s.1.0, n, inv.names, s.1.1 ∙ ap (λ t. t ++ c.loop-place.reader.rest) (columns_spelled c.loop-place.columns.items)))

pub returns-clause-each : goal.returns-clause-each
returns-clause-each c = λ columns rest ok h n e.
    let l : length c.loop-place.columns.items ≡ c.args.count = omega (arith, c.loop-place.invariant.len, c.loop-place-test.false, c.loop-place.auto.place-end) in
    has_all column_line IsColumn Differ c.args.count c.args.reader.now c.loop-place.reader c.loop-place.columns.items c.loop-place.invariant.read l columns rest ok h n
    (e ∙ ap (λ t. t ++ rest) (sym (columns_spelled columns)))
