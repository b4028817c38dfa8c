-- *internal*: What is pending: given by a run, and not yet handed on.
use Rattle.std.specs.Prelude.{◌≡◌, false, List, [], ◌++◌}
use Rattle.vmodel.specs.declared.history.Item.{Item}
use Rattle.vmodel.specs.State.{State}
use Rattle.vmodel.specs.Touched.{end_due}
use Rattle.vmachine.specs.declared.run.Pending.{Pending}

-- the items, and then the end of the slot, where it is due
abbrev pub waiting_in : Pending → State → List Item
waiting_in pending s = pending.items.items ++ end_due pending.due s

-- nothing is pending
abbrev pub IsNothing : Pending → Type 0
IsNothing pending = (pending.items.items ≡ []) × (pending.due ≡ false)
