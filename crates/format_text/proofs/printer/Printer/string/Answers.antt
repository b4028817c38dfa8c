use Rattle.std.proofs.Common.{◌≡◌, ◌∷◌, ◌++◌, ap, refl, sym, drop, Some, ◌∙◌}
use Rattle.vdesign.specs.declared.print.Notation.TheVariants.{Letters}
use Rattle.format_text.specs.Formats.{FormatFront, front_of, letters_in}
use Rattle.format_text.specs.Pieces.{PrintedText, pieces_with, string as string_argument, text_piece}
use Rattle.format_text.proofs.ArgumentLaws.{notation_is, shown_string}
use Rattle.format_text.proofs.Ends.{end_after_front}
use Rattle.format_text.proofs.printer.Printer.string.Goals as goal

pub place_of-at-requires : goal.place_of-at-requires
place_of-at-requires c =
    let is_read = c.in_ok-front.ensures ∙ (λ i. front_of (c.deref.ensures.value i) (c.left_of.ensures i)) in
    end_after_front _ _ c.self.inside.at _ _ _ is_read c.in-Some.is (ap (λ front. front.rest) (sym c.front.view_is))

pub returns-in_ok-put_text-in-Some-form-2 : goal.returns-in_ok-put_text-in-Some-form-2
returns-in_ok-put_text-in-Some-form-2 c = λ arguments.
    let is_read = c.in_ok-front.ensures ∙ (λ i. front_of (c.deref.ensures.value i) ((c.left_of.ensures ∙ ap (drop c.self.inside.at) c.as_slice-format.ensures.value) i)) in
    let old : PrintedText = record {
      pieces = c.self.inside.pieces.items;
      path = c.self.inside.path.items;
      format = drop c.self.inside.at c.self.inside.format.items;
      default = c.self.inside.default;
    } in
    let front : FormatFront = record {
      letters = c.front.inside.letters.items;
      form = c.front.inside.form;
      rest = c.front.inside.rest.now;
    } in
    let is_letters : c.in-Some-form.form.notation ≡ Letters = notation_is _ c.if-ne.ensures in
    shown_string old front c.in-Some-form.form c.args.path.now c.args.string.now _ _ c.put_text-in-Some-form.new.pieces.items _ arguments
    (sym is_read ∙ c.in-Some.is ∙ ap Some (sym c.front.view_is)) c.in-Some-form.is is_letters
    c.in_ok-put_text-in-Some-form.ensures
    (c.in_ok-put_text-in-Some-form-2.ensures ∙ ap (λ text. c.put_text-in-Some-form.new.pieces.items ++ text_piece text)
    (c.in_ok-letters_in-in-Some-form.ensures ∙ ap (letters_in c.in-Some-form.form.width) (c.deref-in-Some-form.ensures.value ∙ c.in_ok-string.ensures)))
    refl
    (ap (drop c.place_of-at.result) (sym c.as_slice-format.ensures.value) ∙ c.place_of-at.ensures)
    ∙ ap (λ text. pieces_with text (string_argument c.args.path.now c.args.string.now ∷ arguments)) c.self.view_is
