use Rattle.std.proofs.Common.{Bool, ap, sym, subst, ◌∙◌}
use Rattle.std.specs.Bool.{MatchBool}
use Rattle.race_groups.specs.Inner.{AreAlike, AreUnlike, compared_end}
use Rattle.race_groups.proofs.SumLemmas.{told_alike}
use Rattle.race_groups.proofs.ends.are_alike.Goals as goal

pub returns : goal.returns
returns c =
    let setting = c.args.machine.now in
    let s = c.args.one.now in
    let r = c.args.other.now in
    subst (λ (b : Bool). MatchBool b (AreAlike setting s r) (AreUnlike setting s r)) (sym c.both.ensures)
    (told_alike setting s r _ _ _ _ (λ t st. c.compared.ensures ∙ ap compared_end (c.end_of.ensures t st))
    (λ t st. c.compared-2.ensures ∙ ap compared_end (c.end_of-2.ensures t st))
    c.cut_lines.ensures c.cut_lines-2.ensures
    c.is_same_end-same_end.result c.is_same_print-same_print.result
    c.is_same_end-same_end.ensures c.is_same_print-same_print.ensures)
