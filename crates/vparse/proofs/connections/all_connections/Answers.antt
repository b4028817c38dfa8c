use Rattle.std.proofs.Common.{refl}
use Rattle.vast.specs.Leaves.{connection_leaves}
use Rattle.vast.specs.ModuleTrees.{connection_tree}
use Rattle.vparse.specs.TextReaders.{connection}
use Rattle.vparse.proofs.ListKinds.{connection_eats}
use Rattle.vparse.proofs.KeptLists.{list_kept}
use Rattle.vparse.proofs.ListTurns.{list_given}
use Rattle.vparse.proofs.connections.all_connections.Goals as goal

pub returns-clause-gives : goal.returns-clause-gives
returns-clause-gives c =
    list_given connection_tree connection connection_eats c.args.tokens.now _ (λ old new result e. e.0)
    _ c.in_ok-first.first c.args.cursor.now c.connection.new.cursor
    c.list_until.new.cursor c.list_until.result c.in_ok-first.ensures.gives c.list_until.ensures.lists

pub returns-clause-kept : goal.returns-clause-kept
returns-clause-kept c =
    list_kept connection_leaves c.args.tokens.now _ (λ old new result e. e.1) c.in_ok-first.first c.args.cursor.now c.connection.new.cursor
    c.list_until.new.cursor c.list_until.result c.in_ok-first.ensures.kept (c.list_until.ensures.kept refl)
