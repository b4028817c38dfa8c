-- *product rule*: Statements whose words keep their numbers.
pub use Rattle.vast.specs.Statements.{whole, bit, part, joined, none, first, by_number, by_name, by_value, by_event, by_any, by_any_enclosed, by_terms, quoted, printed, left_out, print, idle, dump_file, dump_vars, dump, end_run, empty, block, assign, nonblocking, trigger, if_true, if_else, case_of, while_true, repeat_times, forever, for_loop, wait_for, delay, event, task, no_statement, first_statement, labelled, default, no_branch, first_branch}
use Rattle.vast.specs.Statements.{TargetOf, TargetsOf, DelayOf, TermOf, FurtherOf, EventOf, ArgumentOf, SelectionOf, TaskOf, StatementOf, StatementsOf, BranchOf, BranchesOf}
use Rattle.vast.specs.NumberedWords.{Word}

abbrev pub TargetTree : Type 0
TargetTree = TargetOf Word

abbrev pub TargetTrees : Type 0
TargetTrees = TargetsOf Word

abbrev pub DelayTree : Type 0
DelayTree = DelayOf Word

abbrev pub TermTree : Type 0
TermTree = TermOf Word

abbrev pub FurtherTerm : Type 0
FurtherTerm = FurtherOf Word

abbrev pub EventTree : Type 0
EventTree = EventOf Word

abbrev pub ArgumentTree : Type 0
ArgumentTree = ArgumentOf Word

abbrev pub SelectionTree : Type 0
SelectionTree = SelectionOf Word

abbrev pub TaskTree : Type 0
TaskTree = TaskOf Word

abbrev pub StatementTree : Type 0
StatementTree = StatementOf Word

abbrev pub StatementTrees : Type 0
StatementTrees = StatementsOf Word

abbrev pub BranchTree : Type 0
BranchTree = BranchOf Word

abbrev pub BranchTrees : Type 0
BranchTrees = BranchesOf Word
