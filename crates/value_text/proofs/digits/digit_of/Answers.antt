use Rattle.std.proofs.Common.{sym, ◌∙◌}
use Rattle.value_text.proofs.LetterLemmas.{below_16}
use Rattle.value_text.proofs.digits.digit_of.Goals as goal

pub digit-requires : goal.digit-requires
digit-requires c = below_16 c.args.group.letters c.in-Some.n c.requires (sym c.to_u64.ensures ∙ c.in-Some.is)
