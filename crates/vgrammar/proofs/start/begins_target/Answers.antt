use Rattle.std.proofs.Common.{◌||◌, sym, ap, ◌∙◌, codes}
use Rattle.std.specs.Str.{bytes_eq}
use Rattle.basis.proofs.Bools.{or_first}
use Rattle.vgrammar.specs.Starts.{begins_target}
use Rattle.vgrammar.proofs.start.begins_target.Goals as goal

pub returns-then-is_name : goal.returns-then-is_name
unfolding begins_target
returns-then-is_name c = c.if-is_name.true ∙ sym (or_first _ _ (sym c.is_name.ensures ∙ c.if-is_name.true))

pub returns-else-is_name : goal.returns-else-is_name
unfolding begins_target
returns-else-is_name c =
    c.is.ensures ∙ sym (ap (λ b. b || bytes_eq (codes "{") c.args.word.now) (sym c.is_name.ensures ∙ c.if-is_name.false))
