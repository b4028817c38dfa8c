use Rattle.std.proofs.Common.{refl}
use Rattle.vast.specs.Leaves.{head_leaves}
use Rattle.vast.specs.ModuleTrees.{head_parameter as head_tree}
use Rattle.vparse.specs.TextReaders.{head_parameter, first_parameter}
use Rattle.vparse.proofs.ListKinds.{head_eats}
use Rattle.vparse.proofs.KeptLists.{list_kept}
use Rattle.vparse.proofs.ListTurns.{behind_given}
use Rattle.vparse.proofs.heads.heads_in.Goals as goal

pub returns-clause-gives : goal.returns-clause-gives
returns-clause-gives c =
    behind_given head_tree head_parameter head_eats c.args.tokens.now _ (λ old new result e. e.0)
    first_parameter _ c.in_ok-first.first c.args.cursor.now c.first_parameter.new.cursor
    c.list_until.new.cursor c.list_until.result c.in_ok-first.ensures.gives c.list_until.ensures.lists

pub returns-clause-kept : goal.returns-clause-kept
returns-clause-kept c =
    list_kept head_leaves c.args.tokens.now _ (λ old new result e. e.1) c.in_ok-first.first c.args.cursor.now c.first_parameter.new.cursor
    c.list_until.new.cursor c.list_until.result c.in_ok-first.ensures.kept (c.list_until.ensures.kept refl)
