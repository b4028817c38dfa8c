use Rattle.std.proofs.Common.{◌<◌, ◌^◌, ◌++◌, ◌∙◌, ap, sym, subst, arith, length}
use Rattle.std.specs.Prelude.{codes}
use Rattle.std.specs.List.{flat_map}
use Rattle.std.specs.Fmt.{decimal}
use Rattle.report_text.specs.ReportText.{races_text}
use Rattle.report_text.specs.Inner.Ends.{ended_text}
use Rattle.report_text.specs.Inner.Headings.{label_line_before}
use Rattle.report_text.proofs.read.read_body.Goals as goal

pub returns-clause-read : goal.returns-clause-read
returns-clause-read c = λ ok.
    let r = c.in_ok-races.ensures.read ok in
    let m = c.number_line-count-2.ensures.read r.0 in
    let e = c.in_ok-ends.ensures.read m.0 in
    let n = c.number_line-count.ensures.read e.0 in (
      n.0,
      (
        e.1.0,
        record {
          ends = e.1.1;
          few_ends = subst (λ x. x < 2 ^ 64) (sym e.1.2) n.1.small;
          listed = r.1.0;
          few_races = subst (λ x. x < 2 ^ 64) (sym r.1.1) m.1.small;
          whole = n.1.whole ∙ (λ i. label_line_before (codes "ends ") (decimal (sym e.1.2 i)) ((e.1.5 ∙ ap (λ t. flat_map ended_text e.1.0 ++ t) (m.1.whole ∙ (λ j. label_line_before (codes "races ") (decimal (sym r.1.1 j)) (r.1.2 j)))) i));
        },
        e.1.3,
        e.1.4,
      ),
    )

pub returns-clause-each : goal.returns-clause-each
returns-clause-each c = λ all races rest ok t.
    let n = c.number_line-count.ensures.each (length all) _ ok (record { small = t.few_ends; above = omega arith; below = omega (arith, t.few_ends); whole = t.whole }) in
    let e = c.in_ok-ends.ensures.each all (label_line_before (codes "races ") (decimal (length races)) (races_text c.args.columns.now races ++ rest)) n.1.0 t.ends (sym n.0) n.1.1 in
    let m = c.number_line-count-2.ensures.each (length races) (races_text c.args.columns.now races ++ rest) e.2.0 (record { small = t.few_races; above = omega arith; below = omega (arith, t.few_races); whole = e.2.1 }) in
    let r = c.in_ok-races.ensures.each races rest m.1.0 t.listed (sym m.0) m.1.1 in
    (e.0, e.1, r.0, r.1)
