use Rattle.std.proofs.Common.{◌≡◌, ◌++◌, drop}
use Rattle.vexpr_parse.specs.Texts.{words_of}
use Rattle.velab_declaration.specs.Inner.{variables_by}
use Rattle.velab_declaration.proofs.variable.put_all.Given as goal

abbrev pub invariant-loop-one : goal.invariant-loop-one
invariant-loop-one l =
    l.into.items ++ variables_by (words_of l.tokens) l.path l.form (drop l.one-index l.list)
    ≡ l.initial.into.items ++ variables_by (words_of l.tokens) l.path l.form l.list
