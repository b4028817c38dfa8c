use Rattle.std.proofs.Common.{drop}
use Rattle.vexpr_parse.specs.Texts.{words_of}
use Rattle.velab_process.specs.Inner.{arguments_at}
use Rattle.velab_process.specs.Prints.{lower_arguments}
use Rattle.velab_process.proofs.LineLemmas.{Continues}
use Rattle.velab_process.proofs.elaborator.Elaborator.put_arguments.Given as goal

abbrev pub invariant-loop-one : goal.invariant-loop-one
invariant-loop-one l =
    Continues l.initial.printer (lower_arguments l.self.scope.now (arguments_at (words_of l.self.tokens.now) l.self.path.now l.arguments))
    (lower_arguments l.self.scope.now (arguments_at (words_of l.self.tokens.now) l.self.path.now (drop l.one-index l.arguments))) l.is_right l.printer
