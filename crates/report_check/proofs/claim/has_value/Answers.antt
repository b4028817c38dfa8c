use Rattle.std.proofs.Common.{◌≡◌, List, slice_get, Some, ap, sym, ◌∙◌}
use Rattle.std.specs.Cmp.Lexicographic.{bytes_decides}
use Rattle.std.proofs.lemmas.Option.{slice_get-get_or}
use Rattle.vbits.specs.Vectors.{Vector}
use Rattle.report_check.proofs.ClaimLemmas.{value_when}
use Rattle.report_check.proofs.claim.has_value.Goals as goal

pub returns : goal.returns
returns c = λ t st.
    let text_is = c.in_ok-text.ensures in
    let same = c.as_slice.ensures.value in
    let exact = bytes_decides c.as_slice.result.now c.args.digits.now in
    let looked = c.in-Some.ensures.lookup in
    let stands_there : slice_get t.values c.args.variable ≡ Some c.in-Some.value.now =
    ap (λ (xs : List Vector). slice_get xs c.args.variable) (sym (c.values.ensures.stands t st))
    ∙ slice_get-get_or c.values.result.now c.args.variable c.in-Some.value.now looked.3.0 ∙ ap Some (sym looked.1) in
    value_when t c.args.variable c.args.digits.now c.in-Some.value.now c.eq.result stands_there (
      λ h. (let e = exact.0 (sym c.eq.ensures ∙ h) in cc),
      λ e. c.eq.ensures ∙ exact.1 cc,
    )
