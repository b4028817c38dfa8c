use Rattle.std.proofs.Common.{refl}
use Rattle.vast.specs.Leaves.{declared_leaves}
use Rattle.vast.specs.ModuleTrees.{declared_tree}
use Rattle.vparse.specs.TextReaders.{declarator}
use Rattle.vparse.proofs.ListKinds.{declared_eats}
use Rattle.vparse.proofs.KeptLists.{list_kept}
use Rattle.vparse.proofs.ListTurns.{list_given}
use Rattle.vparse.proofs.module_lists.declared_names.Goals as goal

pub returns-clause-gives : goal.returns-clause-gives
returns-clause-gives c =
    list_given declared_tree declarator declared_eats c.args.tokens.now _ (λ old new result e. e.0)
    _ c.in_ok-first.first c.args.cursor.now c.declared_name.new.cursor
    c.list_until.new.cursor c.list_until.result c.in_ok-first.ensures.gives c.list_until.ensures.lists

pub returns-clause-kept : goal.returns-clause-kept
returns-clause-kept c =
    list_kept declared_leaves c.args.tokens.now _ (λ old new result e. e.1) c.in_ok-first.first c.args.cursor.now c.declared_name.new.cursor
    c.list_until.new.cursor c.list_until.result c.in_ok-first.ensures.kept (c.list_until.ensures.kept refl)
