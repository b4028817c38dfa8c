use Rattle.std.proofs.Common.{◌≡◌, drop}
use Rattle.vexpr_parse.specs.Texts.{words_of}
use Rattle.velab_process.specs.Inner.{statements_at, branches_at}
use Rattle.velab_process.specs.Statements.{with_places_before, with_branches_before, lower_all, lower_branches}
use Rattle.velab_process.proofs.elaborator.Elaborator.+statements.Given as goal

abbrev pub invariant-lower_all-loop-statement : goal.invariant-lower_all-loop-statement
invariant-lower_all-loop-statement l =
    with_places_before l.into.items (lower_all l.self.scope.now l.table (statements_at (words_of l.self.tokens.now) l.self.path.now (drop l.statement-index l.statements)))
    ≡ with_places_before l.initial.into.items (lower_all l.self.scope.now l.initial.table (statements_at (words_of l.self.tokens.now) l.self.path.now l.statements))

abbrev pub invariant-lower_branches-loop-branch : goal.invariant-lower_branches-loop-branch
invariant-lower_branches-loop-branch l =
    with_branches_before l.into.items l.otherwise.items (lower_branches l.self.scope.now l.table (branches_at (words_of l.self.tokens.now) l.self.path.now (drop l.branch-index l.branches)))
    ≡ with_branches_before l.initial.into.items l.initial.otherwise.items (lower_branches l.self.scope.now l.initial.table (branches_at (words_of l.self.tokens.now) l.self.path.now l.branches))
