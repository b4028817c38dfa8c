use Rattle.std.proofs.Common.{◌++◌, ◌==◌, ap, ◌∙◌, List, ℕ}
use Rattle.std.specs.List.{after_last}
use Rattle.vdesign.specs.Design.{Variable}
use Rattle.vcd_text.specs.DumpText.{identifier, named_variable_line}
use Rattle.vcd_text.proofs.HeaderLemmas.{variable_put}
use Rattle.vcd_text.proofs.header.put_variable.Goals as goal

pub returns : goal.returns
returns c =
    let variable : Variable = record {
      name = c.variable.inside.name.items;
      kind = c.variable.inside.kind;
      length = c.variable.inside.length;
      signed = c.variable.inside.signed;
      start = c.variable.inside.start;
      bounds = c.variable.inside.bounds;
    } in
    variable_put c.args.text.now.items c.extend_from_slice.new.self.items c.put_kind.new.text.items c.extend_from_slice-2.new.self.items c.put_number.new.text.items
    c.extend_from_slice-3.new.self.items c.extend_from_slice-4.new.self.items c.extend_from_slice-5.new.self.items c.put_identifier.new.text.items
    c.put_bounds.new.text.items c.extend_from_slice-6.new.self.items c.push.new.self.items
    c.args.name.now variable
    c.in_ok-extend_from_slice.ensures.items c.in_ok-put_kind.ensures c.in_ok-extend_from_slice-2.ensures.items c.in_ok-put_number.ensures
    c.in_ok-extend_from_slice-3.ensures.items c.in_ok-extend_from_slice-4.ensures.items c.in_ok-extend_from_slice-5.ensures.items
    (c.in_ok-put_identifier.ensures
    ∙ ap (λ (x : List ℕ). c.extend_from_slice-5.new.self.items ++ x)
    (ap identifier (c.own_name.ensures ∙ ap (after_last (λ (b : ℕ). b == 46)) c.deref.ensures.value)))
    c.in_ok-put_bounds.ensures c.in_ok-extend_from_slice-6.ensures.items c.in_ok-push.ensures.items
    ∙ ap (λ (v : Variable). c.args.text.now.items ++ named_variable_line c.args.name.now v) c.variable.view_is
