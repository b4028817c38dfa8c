-- *trusted*: What may be written (IEEE 1364-2005, 6.1, 6.2, table 6-1): variables by processes, nets by continuous assignments.
use Rattle.std.specs.Prelude.{if◌then◌else◌, Bool, true, false, not, List, Option, None, Some, slice_get}
use Rattle.std.specs.List.{list_all}
use Rattle.vdesign.specs.Design.{Variable}
use Rattle.vdesign.specs.declared.design.Kind.{Kind}
use Rattle.vdesign.specs.declared.design.Kind.TheVariants.{Reg, Integer, Wire, Time}
use Rattle.vdesign.specs.declared.action.Target.{Target}
use Rattle.velab_expr.specs.declared.fault.Rule.{Rule}
use Rattle.velab_expr.specs.declared.fault.Rule.TheVariants as rule
use Rattle.vdesign.specs.declared.action.Target.TheVariants.{Whole, Bit, Part}
use Rattle.vdesign.specs.declared.action.Action.{Action}
use Rattle.vdesign.specs.declared.action.Action.TheVariants.{Assign, Nonblocking, AssignDelayed, NonblockingDelayed, Trigger, Test, Case, While, Repeat, Forever, Delay, EventControl, Wait, ContinuousAssign, Print, DumpVars, Dump, NoOperation, Finish, Stop}

-- 4.2.1
abbrev pub is_net : Kind → Bool
is_net Reg = false
is_net Integer = false
is_net Time = false
is_net Wire = true

abbrev pub is_some_net : Option Variable → Bool
is_some_net None = false
is_some_net (Some variable) = is_net variable.kind

-- whether what is written is a net of the design, or a bit or a part of one
abbrev pub writes_net : List Variable → Target → Bool
writes_net variables (Whole number) = is_some_net (slice_get variables number)
writes_net variables (Bit number index) = is_some_net (slice_get variables number)
writes_net variables (Part number bounds) = is_some_net (slice_get variables number)

-- whether a process may write these
abbrev pub writes_variables : List Variable → List Target → Bool
writes_variables variables targets = list_all (λ target. not (writes_net variables target)) targets

-- whether a continuous assignment may drive these
abbrev pub writes_nets : List Variable → List Target → Bool
writes_nets variables targets = list_all (writes_net variables) targets

-- whether an action writes what it may
abbrev pub writes_rightly : List Variable → Action → Bool
writes_rightly variables (Assign targets value) = writes_variables variables targets
writes_rightly variables (Nonblocking targets value) = writes_variables variables targets
writes_rightly variables (AssignDelayed amount targets value) = writes_variables variables targets
writes_rightly variables (NonblockingDelayed amount targets value) = writes_variables variables targets
writes_rightly variables (Trigger event) = true
writes_rightly variables (Test condition when_true otherwise) = true
writes_rightly variables (Case kind value branches otherwise) = true
writes_rightly variables (While condition body) = true
writes_rightly variables (Repeat count body) = true
writes_rightly variables (Forever body) = true
writes_rightly variables (Delay amount body) = true
writes_rightly variables (EventControl terms body) = true
writes_rightly variables (Wait condition terms body) = true
writes_rightly variables (ContinuousAssign targets value terms) = writes_nets variables targets
writes_rightly variables (Print when pieces) = true
writes_rightly variables (DumpVars selection) = true
writes_rightly variables (Dump switch) = true
writes_rightly variables NoOperation = true
writes_rightly variables Finish = true
writes_rightly variables Stop = true

-- the rule that an action breaks by what it writes
abbrev pub kind_rule : List Variable → Action → Option Rule
kind_rule variables action = if writes_rightly variables action then None else Some rule.Kind
