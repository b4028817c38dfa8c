use Rattle.std.proofs.Common.{ap, sym, ◌∙◌}
use Rattle.format_text.specs.Formats.{front_of}
use Rattle.format_text.proofs.Ends.{end_after_front}
use Rattle.format_text.proofs.printer.Printer.value.Goals as goal

pub place_of-at-requires : goal.place_of-at-requires
place_of-at-requires c =
    let is_read = c.in_ok-front.ensures ∙ (λ i. front_of (c.deref.ensures.value i) (c.left_of.ensures i)) in
    end_after_front _ _ c.self.inside.at _ _ _ is_read c.in-Some.is (ap (λ front. front.rest) (sym c.front.view_is))
