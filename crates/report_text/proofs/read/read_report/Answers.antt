use Rattle.std.proofs.Common.{◌≡◌, ◌∙◌, ◌==◌, ◌&&◌, true, false, List, [], ℕ, ap, sym, subst, map, length}
use Rattle.basis.proofs.Lists.{empty_from_test}
use Rattle.basis.proofs.Bools.{and_left, and_right, and_both}
use Rattle.report_text.specs.Report.{Report}
use Rattle.report_text.specs.ReportText.{line_races_part}
use Rattle.report_text.specs.WellFormed.{IsColumn, IsNoReportText, IsReportText}
use Rattle.report_text.specs.Inner.Columns.{Differ}
use Rattle.report_text.specs.Inner.Lists.{Listed}
use Rattle.report_text.specs.Inner.LineRaces.{AreLastTaken}
use Rattle.report_text.specs.Inner.Wholes.{IsHeadTaken, IsBodyTaken}
use Rattle.report_text.proofs.SpellingLemmas.{heading_of, body_before}
use Rattle.report_text.proofs.WholeLemmas.{is_report, read_from, same_report}
use Rattle.report_text.proofs.read.read_report.Goals as goal

no_head : (c : goal.After-drop-variables) → IsNoReportText c.args.text.now
no_head c = λ r dumps is e.
    let f = read_from c.args.text.now r dumps c.has_size-size.ensures.small is e in
    let w = c.in_ok-heading.ensures.each (heading_of r) r.variables (body_before r dumps) c.new-reader.ensures.0
    (subst (λ t. IsHeadTaken t (heading_of r) r.variables (body_before r dumps)) (sym c.new-reader.ensures.1) f.head) in
    let lost : c.read_head.new.reader.ok ≡ false = sym c.is_ok.ensures ∙ c.if-not-is_ok.true in
    let fine : c.read_head.new.reader.ok ≡ true = w.2.0 in
    absurd cc

pub returns-then-not-is_ok-clause-ill_formed : goal.returns-then-not-is_ok-clause-ill_formed
returns-then-not-is_ok-clause-ill_formed c = no_head c

pub returns-then-not-is_ok-clause-accepts : goal.returns-then-not-is_ok-clause-accepts
returns-then-not-is_ok-clause-accepts c = λ r dumps is e. absurd (no_head c r dumps is e)

pub read_body-requires-clause-columns : goal.read_body-requires-clause-columns
read_body-requires-clause-columns c =
    let h = c.in_ok-heading.ensures.read (sym c.is_ok.ensures ∙ c.if-not-is_ok.false) in
    subst (λ cs. Listed IsColumn Differ cs) (sym c.deref.ensures.value) h.1.0.listed

pub returns-then-not-is_ok-2-clause-ill_formed : goal.returns-then-not-is_ok-2-clause-ill_formed
returns-then-not-is_ok-2-clause-ill_formed c = λ r dumps is e.
    let f = read_from c.args.text.now r dumps c.has_size-size.ensures.small is e in
    let part : List ℕ = line_races_part r.looked r.line_races in
    let w = c.in_ok-heading.ensures.each (heading_of r) r.variables (body_before r dumps) c.new-reader.ensures.0
    (subst (λ t. IsHeadTaken t (heading_of r) r.variables (body_before r dumps)) (sym c.new-reader.ensures.1) f.head) in
    let columns : c.deref.result.now ≡ r.variables = c.deref.ensures.value ∙ w.1 in
    let looked : r.looked ≡ c.heading.inside.looked = ap (λ k. k.looked) (sym w.0) ∙ ap (λ k. k.looked) (sym c.heading.view_is) in
    let b = c.in_ok-ends.ensures.each f.all r.races part w.2.0
    (subst (λ t. IsBodyTaken c.heading.inside.looked c.deref.result.now t f.all r.races part) (sym w.2.1)
    (subst (λ cs. IsBodyTaken c.heading.inside.looked cs (body_before r dumps) f.all r.races part) (sym columns) (subst (λ l. IsBodyTaken l r.variables (body_before r dumps) f.all r.races part) looked f.body))) in
    let l = c.in_ok-line_races.ensures.each r.line_races [] b.3.0
    (subst (λ t. AreLastTaken c.heading.inside.looked t r.line_races []) (sym b.3.1) (subst (λ l. AreLastTaken l part r.line_races []) looked f.last)) in
    let lost : c.require.new.self.ok ≡ false = sym c.is_ok-2.ensures ∙ c.if-not-is_ok-2.true in
    let fine : c.require.new.self.ok ≡ true = c.require.ensures.ok ∙ and_both _ _ l.1.0 (c.is_done.ensures ∙ ap (λ t. length t == 0) l.1.1) in
    absurd cc

pub returns-then-not-is_ok-2-clause-accepts : goal.returns-then-not-is_ok-2-clause-accepts
returns-then-not-is_ok-2-clause-accepts c = λ r dumps is e. absurd (returns-then-not-is_ok-2-clause-ill_formed c r dumps is e)

pub returns-clause-read : goal.returns-clause-read
returns-clause-read c =
    let s : (c.read_line_races.new.reader.ok && c.is_done.result) ≡ true = sym c.require.ensures.ok ∙ sym c.is_ok-2.ensures ∙ c.if-not-is_ok-2.false in
    let l = c.in_ok-line_races.ensures.read (and_left _ _ s) in
    let b = c.in_ok-ends.ensures.read l.0 in
    let h = c.in_ok-heading.ensures.read b.0 in
    let done : c.read_line_races.new.reader.rest ≡ [] = empty_from_test _ (sym c.is_done.ensures ∙ and_right c.read_line_races.new.reader.ok c.is_done.result s) in
    let looked = ap (λ k. k.looked) c.heading.view_is in
    let last = subst (λ t. AreLastTaken c.in_ok-heading.heading.looked c.read_body.new.reader.rest c.in_ok-line_races.line_races.items t) done
    (subst (λ k. AreLastTaken k c.read_body.new.reader.rest c.in_ok-line_races.line_races.items c.read_line_races.new.reader.rest) looked l.1) in
    let head = subst (λ t. IsHeadTaken t c.in_ok-heading.heading c.in_ok-heading.variables.items c.read_head.new.reader.rest) c.new-reader.ensures.1 h.1.0 in
    let body = subst (λ cs. IsBodyTaken c.in_ok-heading.heading.looked cs c.read_head.new.reader.rest b.1.0 c.in_ok-ends.races.items c.read_body.new.reader.rest) c.deref.ensures.value
    (subst (λ k. IsBodyTaken k c.deref.result.now c.read_head.new.reader.rest b.1.0 c.in_ok-ends.races.items c.read_body.new.reader.rest) looked b.1.1) in
    let told = is_report c.in_ok-heading.heading c.in_ok-heading.variables.items b.1.0 c.in_ok-ends.races.items c.in_ok-line_races.line_races.items c.args.text.now c.read_head.new.reader.rest c.read_body.new.reader.rest head body last in
    subst (λ (k : Report × List (List ℕ)). IsReportText c.args.text.now k)
    (λ i. (
      record {
        version = (sym c.heading.view_is i).version;
        top = (ap (λ x. x.top) (sym c.heading.view_is) ∙ sym c.in_ok-top.ensures) i;
        until = (sym c.heading.view_is i).until;
        depart = (sym c.heading.view_is i).depart;
        steps = (sym c.heading.view_is i).steps;
        grain = (sym c.heading.view_is i).grain;
        departures = (sym c.heading.view_is i).departures;
        looked = (sym c.heading.view_is i).looked;
        outcome = (sym c.heading.view_is i).outcome;
        variables = c.in_ok-heading.variables.items;
        ends = sym b.1.2 i;
        races = c.in_ok-ends.races.items;
        line_races = c.in_ok-line_races.line_races.items;
      },
      sym b.1.3 i,
    ))
    told

pub returns-clause-accepts : goal.returns-clause-accepts
returns-clause-accepts c = λ r dumps is e.
    let f = read_from c.args.text.now r dumps c.has_size-size.ensures.small is e in
    let part : List ℕ = line_races_part r.looked r.line_races in
    let w = c.in_ok-heading.ensures.each (heading_of r) r.variables (body_before r dumps) c.new-reader.ensures.0
    (subst (λ t. IsHeadTaken t (heading_of r) r.variables (body_before r dumps)) (sym c.new-reader.ensures.1) f.head) in
    let columns : c.deref.result.now ≡ r.variables = c.deref.ensures.value ∙ w.1 in
    let looked : r.looked ≡ c.heading.inside.looked = ap (λ k. k.looked) (sym w.0) ∙ ap (λ k. k.looked) (sym c.heading.view_is) in
    let b = c.in_ok-ends.ensures.each f.all r.races part w.2.0
    (subst (λ t. IsBodyTaken c.heading.inside.looked c.deref.result.now t f.all r.races part) (sym w.2.1)
    (subst (λ cs. IsBodyTaken c.heading.inside.looked cs (body_before r dumps) f.all r.races part) (sym columns) (subst (λ l. IsBodyTaken l r.variables (body_before r dumps) f.all r.races part) looked f.body))) in
    let l = c.in_ok-line_races.ensures.each r.line_races [] b.3.0
    (subst (λ t. AreLastTaken c.heading.inside.looked t r.line_races []) (sym b.3.1) (subst (λ l. AreLastTaken l part r.line_races []) looked f.last)) in
    let same = same_report c.args.text.now r dumps f c.in_ok-heading.heading c.in_ok-heading.variables.items c.in_ok-ends.ends.items (map (λ dump. dump.now) c.in_ok-ends.dumps.items) c.in_ok-ends.races.items c.in_ok-line_races.line_races.items
    w.0 w.1 b.0 b.1 b.2 l.0 in (
      (λ i. record {
        version = (c.heading.view_is i).version;
        top = (c.in_ok-top.ensures ∙ ap (λ x. x.top) c.heading.view_is) i;
        until = (c.heading.view_is i).until;
        depart = (c.heading.view_is i).depart;
        steps = (c.heading.view_is i).steps;
        grain = (c.heading.view_is i).grain;
        departures = (c.heading.view_is i).departures;
        looked = (c.heading.view_is i).looked;
        outcome = (c.heading.view_is i).outcome;
        variables = c.in_ok-heading.variables.items;
        ends = c.in_ok-ends.ends.items;
        races = c.in_ok-ends.races.items;
        line_races = c.in_ok-line_races.line_races.items;
      }) ∙ same.0,
      same.1,
    )
