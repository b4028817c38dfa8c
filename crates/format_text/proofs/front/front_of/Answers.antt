use Rattle.std.proofs.Common.{ap, sym, Some, None, ◌∙◌}
use Rattle.format_text.specs.Formats.{form_by, front_by, front_with_form}
use Rattle.format_text.proofs.FrontLemmas.{form_begins, form_ends, path_in_width, without_letter}
use Rattle.format_text.proofs.front.front_of.Goals as goal

pub returns-in_default-split_first : goal.returns-in_default-split_first
returns-in_default-split_first c =
    let begins = form_begins c.args.path.now c.letters.letters.items c.in-Some.first.now c.in-Some.behind.now c.letters.rest.now _ _ _
    c.in-Some.ensures.cases.0 c.if-first-ne37.false c.digits_len.ensures.value c.split_at.ensures.front c.split_at.ensures.back in
    sym (without_letter c.args.path.now c.letters.letters.items c.split_at.result.0.now _ c.in_default-split_first.ensures.cases) ∙ sym begins ∙ c.letters.invariant

pub returns-in_default-width_of : goal.returns-in_default-width_of
returns-in_default-width_of c =
    let begins = form_begins c.args.path.now c.letters.letters.items c.in-Some.first.now c.in-Some.behind.now c.letters.rest.now _ _ _
    c.in-Some.ensures.cases.0 c.if-first-ne37.false c.digits_len.ensures.value c.split_at.ensures.front c.split_at.ensures.back in
    sym (path_in_width c.args.path.now c.letters.letters.items c.split_at.result.0.now c.in-Some-split_first.letter.now c.in-Some-split_first.after.now _
    c.in-Some-split_first.ensures.cases.0 None (sym c.if-is_letter.true ∙ c.is_letter.ensures) (sym c.width_of.ensures ∙ c.in_default-width_of.is))
    ∙ sym begins ∙ c.letters.invariant

pub letters-preserved-then-is_letter : goal.letters-preserved-then-is_letter
letters-preserved-then-is_letter c =
    let begins = form_begins c.args.path.now c.letters.letters.items c.in-Some.first.now c.in-Some.behind.now c.letters.rest.now _ _ _
    c.in-Some.ensures.cases.0 c.if-first-ne37.false c.digits_len.ensures.value c.split_at.ensures.front c.split_at.ensures.back in
    ap (λ letters. front_by c.args.path.now letters c.in-Some-split_first.after.now) c.in_ok-put_in.ensures
    ∙ sym (path_in_width c.args.path.now c.letters.letters.items c.split_at.result.0.now c.in-Some-split_first.letter.now c.in-Some-split_first.after.now _
    c.in-Some-split_first.ensures.cases.0 (Some c.in-Some-width_of.width) (sym c.if-is_letter.true ∙ c.is_letter.ensures) (sym c.width_of.ensures ∙ c.in-Some-width_of.is))
    ∙ sym begins ∙ c.letters.invariant

pub returns-then-not-is_percent : goal.returns-then-not-is_percent
returns-then-not-is_percent c =
    let begins = form_begins c.args.path.now c.letters.letters.items c.in-Some.first.now c.in-Some.behind.now c.letters.rest.now _ _ _
    c.in-Some.ensures.cases.0 c.if-first-ne37.false c.digits_len.ensures.value c.split_at.ensures.front c.split_at.ensures.back in
    c.front_with_form.ensures
    ∙ ap (λ form. front_with_form c.letters.letters.items form c.in-Some-split_first.after.now)
    (c.form_by-form.ensures ∙ λ i. form_by (c.width_of-then-not-is_percent.ensures i) (c.notation_of.ensures i))
    ∙ sym (form_ends c.args.path.now c.letters.letters.items c.split_at.result.0.now c.in-Some-split_first.letter.now c.in-Some-split_first.after.now _
    c.in-Some-split_first.ensures.cases.0 (sym c.if-is_letter.false ∙ c.is_letter.ensures) (sym c.if-not-is_percent.true ∙ c.is_percent.ensures))
    ∙ sym begins ∙ c.letters.invariant
