use Rattle.std.proofs.Common.{◌∙◌, ap, ◌++◌, ℕ}
use Rattle.std.specs.Prelude.{decimal}
use Rattle.vcd_text.proofs.HeaderLemmas.{precision_put}
use Rattle.vcd_text.proofs.header.put_precision.Goals as goal

pub returns : goal.returns
returns c =
    precision_put c.args.text.now.items c.extend_from_slice.new.self.items c.put_number.new.text.items c.extend_from_slice-2.new.self.items
    c.extend_from_slice-3.new.self.items c.extend_from_slice-4.new.self.items c.push.new.self.items c.as_bytes.result.now c.args.precision
    c.in_ok-extend_from_slice.ensures.items
    (c.in_ok-put_number.ensures ∙ ap (λ (n : ℕ). c.extend_from_slice.new.self.items ++ decimal n) (c.from.ensures ∙ c.number.ensures.value))
    c.in_ok-extend_from_slice-2.ensures.items c.in_ok-extend_from_slice-3.ensures.items (c.as_bytes.ensures.value ∙ c.name.ensures)
    c.in_ok-extend_from_slice-4.ensures.items c.in_ok-push.ensures.items
