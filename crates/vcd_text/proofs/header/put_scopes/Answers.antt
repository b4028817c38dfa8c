use Rattle.std.proofs.Common.{◌++◌, ◌+◌, ◌∷◌, length, sym, ap, ◌∙◌, List, ℕ, Bool}
use Rattle.vdesign.specs.Design.{Scope, Variable}
use Rattle.vcd_text.specs.DumpText.{scope_lines}
use Rattle.vcd_text.proofs.HeaderLemmas.{scope_more}
use Rattle.vcd_text.proofs.header.put_scopes.Goals as goal

pub loop-scope-preserved : goal.loop-scope-preserved
loop-scope-preserved c =
    let (n, name_is, so_far) = c.loop-scope.invariant in
    let text : List ℕ = c.loop-scope.text.items in
    let around : ℕ = c.loop-scope.around in
    let rest : List Variable = c.loop-scope.rest.now in
    let whole : List ℕ = c.args.text.now.items ++ scope_lines 0 0 c.args.marks.now c.args.scopes.now c.args.variables.now in
    let own : List Variable = c.split_at.result.0.now in (
      n + length own,
      c.in_ok-put_written.ensures.names n name_is,
      scope_more text c.put_written.new.text.items whole around c.open_behind-around.result n c.is_written-written.result c.in-Some-split_first.mark.now
          c.in-Some-split_first.later_marks.now c.in-Some.scope.now c.in-Some.behind.now rest own c.split_at.result.1.now c.own_count.result (length own)
          c.own_count.ensures c.split_at.ensures.front_len c.split_at.ensures.front c.split_at.ensures.back c.is_written-written.ensures
          c.open_behind-around.ensures (c.in_ok-put_written.ensures.lines n name_is)
          (ap (λ (marks : List Bool). text ++ scope_lines around n marks (c.in-Some.scope.now ∷ c.in-Some.behind.now) rest)
          (sym c.in-Some-split_first.ensures.cases.0)
          ∙ ap (λ (scopes : List Scope). text ++ scope_lines around n c.loop-scope.left_marks.now scopes rest) (sym c.in-Some.ensures.cases.0)
          ∙ so_far),
    )
