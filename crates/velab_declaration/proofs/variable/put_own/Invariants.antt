use Rattle.std.proofs.Common.{◌≡◌, ◌++◌, drop}
use Rattle.vexpr_parse.specs.Texts.{words_of}
use Rattle.velab_declaration.specs.Inner.{own_variables}
use Rattle.velab_declaration.proofs.variable.put_own.Given as goal

abbrev pub invariant-loop-one : goal.invariant-loop-one
invariant-loop-one l =
    l.into.items ++ own_variables (words_of l.tokens) l.made l.path l.form (drop l.one-index l.list)
    ≡ l.initial.into.items ++ own_variables (words_of l.tokens) l.made l.path l.form l.list
