use Rattle.std.proofs.Common.{refl}
use Rattle.vast.specs.Leaves.{port_leaves}
use Rattle.vast.specs.ModuleTrees.{port_tree}
use Rattle.vgrammar.specs.Modules.{named_port}
use Rattle.vparse.proofs.ListKinds.{named_port_eats}
use Rattle.vparse.proofs.KeptLists.{list_kept}
use Rattle.vparse.proofs.ListTurns.{list_given}
use Rattle.vparse.proofs.ports.named_ports.Goals as goal

pub returns-clause-gives : goal.returns-clause-gives
returns-clause-gives c =
    list_given port_tree named_port named_port_eats c.args.tokens.now _ (λ old new result e. e.0)
    _ c.in_ok-first.first c.args.cursor.now c.named_port.new.cursor
    c.list_until.new.cursor c.list_until.result c.in_ok-first.ensures.gives c.list_until.ensures.lists

pub returns-clause-kept : goal.returns-clause-kept
returns-clause-kept c =
    list_kept port_leaves c.args.tokens.now _ (λ old new result e. e.1) c.in_ok-first.first c.args.cursor.now c.named_port.new.cursor
    c.list_until.new.cursor c.list_until.result c.in_ok-first.ensures.kept (c.list_until.ensures.kept refl)
