use Rattle.std.proofs.Common.{sym, ◌∙◌, ap}
use Rattle.vlex.specs.Lexed.{after}
use Rattle.vlex.proofs.attributes.after.Goals as goal

pub returns-in-Named : goal.returns-in-Named
returns-in-Named c =
    c.after_name.ensures c.args.kind c.args.is_nested ∙ ap (λ part. after part c.args.kind c.args.word.now c.args.is_nested) (sym c.in-Named.is)
