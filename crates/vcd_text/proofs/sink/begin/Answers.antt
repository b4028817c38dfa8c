use Rattle.std.proofs.Common.{◌≡◌, ◌∙◌, ap, subst, sym, List, ℕ, Bool}
use Rattle.vdesign.specs.Design.{Design, Scope}
use Rattle.vcd_text.specs.DumpText.{header, scope_marks, spread, variable_marks}
use Rattle.byte_sinks.specs.ByteSinks.{Stopped}
use Rattle.vcd_text.proofs.SelectedLemmas.{begun_is}
use Rattle.vcd_text.proofs.sink.begin.Goals as goal

pub returns-in-Err-clause-err : goal.returns-in-Err-clause-err
returns-in-Err-clause-err g c =
    let design : Design = c.args.design.now in
    let scopes = scope_marks design c.args.commands.now in
    let marks_are : c.as_slice-3.result.now ≡ variable_marks design c.args.commands.now =
    c.as_slice-3.ensures
    ∙ c.in_ok-marks.ensures
    ∙ ap (λ (marks : List Bool). spread marks c.deref.result.now) (c.as_slice.ensures ∙ c.in_ok-scopes.ensures)
    ∙ ap (λ (list : List Scope). spread scopes list) (c.deref.ensures.value ∙ ap (λ (d : Design). d.scopes) c.design.view_is) in
    subst (λ (text : List ℕ). Stopped g.O.ByteSink.takes g.O.ByteSink.fails c.args.byte_sink.now text c.in-Err.fault c.put_start.new.byte_sink)
    (begun_is design c.args.commands.now c.deref-2.result.now c.as_slice-3.result.now c.args.time c.args.values.now (sym c.have_start.ensures ∙ c.if-not-have_start.false)
    (c.deref-2.ensures.value ∙ c.in_ok-head.ensures ∙ ap (header design) (c.as_slice-2.ensures ∙ c.in_ok-scopes.ensures)) marks_are)
    c.in-Err.ensures.err
