use Rattle.std.proofs.Common.{refl}
use Rattle.vast.specs.Leaves.{net_assignment_leaves}
use Rattle.vast.specs.ModuleTrees.{net_assignment as net_assignment_tree}
use Rattle.vparse.specs.TextReaders.{net_assignment}
use Rattle.vparse.proofs.ListKinds.{net_assignment_eats}
use Rattle.vparse.proofs.KeptLists.{list_kept}
use Rattle.vparse.proofs.ListTurns.{list_given}
use Rattle.vparse.proofs.module_lists.net_assignments.Goals as goal

pub returns-clause-gives : goal.returns-clause-gives
returns-clause-gives c =
    list_given net_assignment_tree net_assignment net_assignment_eats c.args.tokens.now _ (λ old new result e. e.0)
    _ c.in_ok-first.first c.args.cursor.now c.net_assignment.new.cursor
    c.list_until.new.cursor c.list_until.result c.in_ok-first.ensures.gives c.list_until.ensures.lists

pub returns-clause-kept : goal.returns-clause-kept
returns-clause-kept c =
    list_kept net_assignment_leaves c.args.tokens.now _ (λ old new result e. e.1) c.in_ok-first.first c.args.cursor.now c.net_assignment.new.cursor
    c.list_until.new.cursor c.list_until.result c.in_ok-first.ensures.kept (c.list_until.ensures.kept refl)
