use Rattle.std.proofs.Common.{◌++◌, ◌-◌, cond, [], sym, ap, ◌∙◌, List, ℕ, Bool}
use Rattle.basis.proofs.Results.{on_ok}
use Rattle.vdesign.specs.Design.{Scope}
use Rattle.vcd_text.specs.DumpText.{closings, scope_line, scope_text}
use Rattle.vcd_text.proofs.HeaderLemmas.{written_put}
use Rattle.vcd_text.proofs.header.put_written.Goals as goal

pub returns-clause-lines : goal.returns-clause-lines
returns-clause-lines c =
    let inside : Scope = record {
      name = c.scope.inside.name.items;
      path = c.scope.inside.path.items;
      depth = c.scope.inside.depth;
      variables = c.scope.inside.variables;
    } in
    let text : List ℕ = c.args.text.now.items in
    on_ok c.put_marked.result (λ listed. λ n is.
    written_put text c.put_closings.new.text.items c.put_scope.new.text.items c.put_marked.new.text.items c.args.around n c.args.mark inside c.args.own.now
    (c.in_ok-put_closings.ensures
    ∙ ap (λ (count : ℕ). text ++ closings count) (c.saturating_sub.ensures ∙ ap (λ (depth : ℕ). c.args.around - depth) c.from.ensures))
    (c.in_ok-put_scope.ensures ∙ ap (λ (name : List ℕ). c.put_closings.new.text.items ++ scope_line name) c.deref.ensures.value)
    (listed n is)
    ∙ ap (λ (s : Scope). text ++ scope_text c.args.around n c.args.mark s c.args.own.now) c.scope.view_is
    ∙ sym (ap (λ (b : Bool). text ++ cond b (scope_text c.args.around n c.args.mark c.args.scope.now c.args.own.now) []) c.if-not-written.false))
    c.put_marked.ensures.lines
