use Rattle.std.proofs.Common.{List, ℕ, length, ◌++◌, refl, sym, ap, ◌∙◌}
use Rattle.std.proofs.lemmas.Option.{slice_get_read}
use Rattle.vcd_text.specs.DumpText.{named_line}
use Rattle.vcd_text.proofs.ListedLemmas.{line_told, line_untold}
use Rattle.vcd_text.proofs.listed.put_change_at.Goals as goal

pub returns-in_ok-put_value : goal.returns-in_ok-put_value
returns-in_ok-put_value c =
    let n = c.args.variable in
    let marks = c.args.marks.now in
    let old = c.args.old.now in
    let new = c.args.new.now in
    let mark = c.in-Some-get.mark.now in
    let before = c.in-Some-get-2.before.now in
    let value = c.in-Some.value.now in
    let mark_at = slice_get_read marks (length marks) n mark refl c.in-Some-get.ensures.lookup.3.0 c.in-Some-get.ensures.lookup.1 in
    let old_at = slice_get_read old (length old) n before refl c.in-Some-get-2.ensures.lookup.3.0 c.in-Some-get-2.ensures.lookup.1 in
    let new_at = slice_get_read new (length new) n value refl c.in-Some.ensures.lookup.3.0 c.in-Some.ensures.lookup.1 in
    line_told n mark before value marks old new mark_at old_at new_at c.args.text.now.items c.put_value.new.text.items (sym c.if-is_news.true ∙ c.is_news.ensures)
    (c.in_ok-put_value.ensures
    ∙ ap (λ (name : List ℕ). c.args.text.now.items ++ named_line name value) (c.deref.ensures.value ∙ c.in_ok-put_name.ensures))

pub returns-else-is_news : goal.returns-else-is_news
returns-else-is_news c =
    let n = c.args.variable in
    let marks = c.args.marks.now in
    let old = c.args.old.now in
    let new = c.args.new.now in
    let mark = c.in-Some-get.mark.now in
    let before = c.in-Some-get-2.before.now in
    let value = c.in-Some.value.now in
    let mark_at = slice_get_read marks (length marks) n mark refl c.in-Some-get.ensures.lookup.3.0 c.in-Some-get.ensures.lookup.1 in
    let old_at = slice_get_read old (length old) n before refl c.in-Some-get-2.ensures.lookup.3.0 c.in-Some-get-2.ensures.lookup.1 in
    let new_at = slice_get_read new (length new) n value refl c.in-Some.ensures.lookup.3.0 c.in-Some.ensures.lookup.1 in
    line_untold n mark before value marks old new mark_at old_at new_at c.args.text.now.items (sym c.if-is_news.false ∙ c.is_news.ensures)
