use Rattle.std.proofs.Common.{ap, ◌∙◌, min, ◌+◌, ◌-◌}
use Rattle.value_text.proofs.LetterLemmas.{selected_group}
use Rattle.value_text.proofs.bits.group.Goals as goal

pub returns : goal.returns
returns c =
    ap (λ v. v.letters) c.select.ensures
    ∙ selected_group c.args.value c.args.size c.args.low c.min-high.result c.requires.within c.requires.some
    (c.min-high.ensures ∙ ap (λ count. min (c.args.low + (c.args.size - 1)) (count - 1)) c.len.ensures.letters)
