-- What the action of a statement does is what its tree says.
use Rattle.std.proofs.Common.{◌≡◌, ℕ, zero, suc, ◌-◌, Bool, true, false, if◌then◌else◌, List, [], ◌∷◌, slice_get, Option, None, Some, refl, sym, ap, subst}
use Rattle.vbits.specs.Vectors.{Vector}
use Rattle.vast.specs.NumberedExpressions as text
use Rattle.vast.specs.NumberedStatements.{TaskTree, print, idle, dump_file, dump_vars, dump, end_run, StatementTree, empty, block, assign, nonblocking, trigger, if_true, if_else, case_of, while_true, repeat_times, forever, for_loop, wait_for, delay, event, task}
use Rattle.vast.specs.declared.statement.Dumping.{Dumping}
use Rattle.vast.specs.declared.statement.Dumping.TheVariants as dumps
use Rattle.vast.specs.declared.statement.Printing.{Printing}
use Rattle.vast.specs.declared.statement.Printing.TheVariants as printing
use Rattle.vdesign.specs.declared.action.Action.{Action}
use Rattle.vdesign.specs.declared.action.Action.TheVariants.{ContinuousAssign, Assign, Nonblocking, AssignDelayed, NonblockingDelayed, Trigger, Test, Case, While, Repeat, Forever, Delay, EventControl, Wait, Print}
use Rattle.vdesign.specs.declared.print.Piece.{Piece}
use Rattle.vvalue.specs.Value.{Environment, holds}
use Rattle.vvalue.specs.Cases.{turns_of}
use Rattle.velab_expr.specs.Answers.{value_or}
use Rattle.velab_expr.specs.Scopes.{Scope, event_of}
use Rattle.velab_expr.specs.Resolved.{no_parts, known_expression}
use Rattle.velab_expr.specs.Written.{row_of}
use Rattle.velab_process.specs.Prints.{when_of}
use Rattle.velab_process.specs.Waits.{any_of, names_in}
use Rattle.velab_process.specs.Statements.{dump_action}
use Rattle.vmodel.specs.Value.{assigned_parts}
use Rattle.vmodel.specs.declared.frame.Frame.{Frame}
use Rattle.vmodel.specs.declared.frame.Frame.TheVariants.{Executing, Repeating, Writing}
use Rattle.vmodel.specs.Step.{StepResult, frames, turns_left, execute, execute_at, place_of, pieces_of}
use Rattle.statement_law.specs.TreeSteps.{takes_step, Pending, executing, repeating, writing, driving, waits, line, monitor, selection, nothing, TreeStep, before, turns_before, amount_of, terms_of, line_for, execute_pending, calls, prints, dumps_by, IsStep, GoesOn}
use Rattle.statement_law.specs.Standing.{Stands, StandsAt, StandAt, terms_in, selection_in}
use Rattle.statement_law.specs.Laws.{Tells, HasTreeStep, HasPlaceStep}
use Rattle.statement_law.proofs.LayoutLemmas.{HasBody, Laid, task_action}
use Rattle.statement_law.proofs.StandingLemmas.{stands_at_places, laid_there}
use Rattle.statement_law.proofs.CaseLemmas.{chosen_stands}

module _ (scope : Scope) (now : Environment) (held : Option Vector) (actions : List Action) where
  -- by the action at the frame's place the process goes on as the tree says
  record Does (first : Pending) (rest : List Pending) (frame : Frame) (after : List Frame) : Type 0 where
    action : Action
    there : slice_get actions (place_of frame) ≡ Some action
    tells : Tells scope actions (execute_pending scope now held first rest) (execute_at frame action after held now)

  -- one of two
  chosen : (test : Bool) (one other : List Pending) (frames_one frames_other : List Frame) → StandAt scope actions one frames_one → StandAt scope actions other frames_other →
      StandAt scope actions (if test then one else other) (if test then frames_one else frames_other)
  chosen true one other frames_one frames_other first second = first
  chosen false one other frames_one frames_other first second = second

  chosen_places : (test : Bool) (one other : List Pending) (places others : List ℕ) (after : List Frame) → StandAt scope actions one (frames places after) → StandAt scope actions other (frames others after) →
      StandAt scope actions (if test then one else other) (frames (if test then places else others) after)
  chosen_places true one other places others after first second = first
  chosen_places false one other places others after first second = second

  chosen_step : (test : Bool) (one other : TreeStep) (result other_result : StepResult) → Tells scope actions one result → Tells scope actions other other_result →
      Tells scope actions (if test then one else other) (if test then result else other_result)
  chosen_step true one other result other_result first second = first
  chosen_step false one other result other_result first second = second

  module _ (rest : List Pending) (after : List Frame) (stand : StandAt scope actions rest after) where
    turns_stand : (n place : ℕ) (count : text.ExpressionTree) (body : StatementTree) → Stands scope actions (repeat_times count body) (place ∷ []) →
        StandAt scope actions (turns_before n count body rest) (turns_left place n after)
    turns_stand zero place count body here = stand
    turns_stand (suc n) place count body here = ((refl, here), stand)

    -- tasks

    does_print : (kind : Printing) (pieces : List Piece) (place : ℕ) → slice_get actions place ≡ Some (Print (when_of kind) pieces) →
        Tells scope actions (prints kind pieces rest) (execute place (Print (when_of kind) pieces) after now)
    does_print (printing.Display base) pieces place there = record { effect = ap (λ a. record nothing { shown = Some (line (pieces_of a)) }) there; stands = stand }
    does_print (printing.Write base) pieces place there = record { effect = ap (λ a. record nothing { shown = Some (line (pieces_of a)) }) there; stands = stand }
    does_print (printing.Strobe base) pieces place there = record { effect = ap (λ a. record nothing { strobed = Some (pieces_of a) }) there; stands = stand }
    does_print (printing.Monitor base) pieces place there = record { effect = ap (λ a. record nothing { shown = Some (monitor (pieces_of a)) }) there; stands = stand }

    does_dump : (kind : Dumping) (place : ℕ) → Tells scope actions (dumps_by kind rest) (execute place (dump_action kind) after now)
    does_dump dumps.On place = record { effect = refl; stands = stand }
    does_dump dumps.Off place = record { effect = refl; stands = stand }
    does_dump dumps.All place = record { effect = refl; stands = stand }
    does_dump dumps.Flush place = record { effect = refl; stands = stand }

    does_task : (call : TaskTree) (place : ℕ) → slice_get actions place ≡ Some (task_action scope call) →
        Tells scope actions (calls scope call rest) (execute place (task_action scope call) after now)
    does_task (print kind arguments) place there = does_print kind (line_for scope kind arguments) place there
    does_task (idle kind arguments) place there = record { effect = refl; stands = stand }
    does_task (dump_file letters) place there = record { effect = refl; stands = stand }
    does_task (dump_vars selected) place there = record { effect = ap (λ a. record nothing { shown = Some (selection (selection_in a)) }) there; stands = stand }
    does_task (dump kind) place there = does_dump kind place
    does_task (end_run true digits) place there = record { effect = refl; stands = stand }
    does_task (end_run false digits) place there = record { effect = refl; stands = stand }

    -- statements

    module _ (place : ℕ) where
      does_statement : (statement : StatementTree) → takes_step statement ≡ true → Stands scope actions statement (place ∷ []) → Laid scope actions statement place →
          Does (executing statement) rest (Executing place) after
      does_statement empty step here laid = absurd cc
      does_statement (block label statements) step here laid = absurd cc
      does_statement (for_loop target value condition next_target next_value body) step here laid = absurd cc
      does_statement (assign target None value) step here laid =
          record { action = Assign (row_of scope target) (known_expression scope value); there = laid; tells = record { effect = refl; stands = stand } }
      does_statement (assign target (Some amount) value) step here laid = record {
        action = AssignDelayed (amount_of scope amount) (row_of scope target) (known_expression scope value);
        there = laid;
        tells = record { effect = refl; stands = (here, stand) };
      }
      does_statement (nonblocking target None value) step here laid =
          record { action = Nonblocking (row_of scope target) (known_expression scope value); there = laid; tells = record { effect = refl; stands = stand } }
      does_statement (nonblocking target (Some amount) value) step here laid = record {
        action = NonblockingDelayed (amount_of scope amount) (row_of scope target) (known_expression scope value);
        there = laid;
        tells = record { effect = refl; stands = stand };
      }
      does_statement (trigger letters) step here laid = record { action = Trigger (event_of scope letters); there = laid; tells = record { effect = refl; stands = stand } }
      does_statement (if_true condition body) step here laid = record {
        action = Test (known_expression scope condition) laid.places [];
        there = laid.there;
        tells = record {
          effect = refl;
          stands = chosen_places (holds now (known_expression scope condition)) (before body rest) rest laid.places [] after (stands_at_places scope actions body laid.places rest after laid.stands stand) stand;
        };
      }
      does_statement (if_else condition body other) step here laid = record {
        action = Test (known_expression scope condition) laid.places laid.other_places;
        there = laid.there;
        tells = record {
          effect = refl;
          stands =
              chosen_places (holds now (known_expression scope condition)) (before body rest) (before other rest) laid.places laid.other_places after
              (stands_at_places scope actions body laid.places rest after laid.stands stand) (stands_at_places scope actions other laid.other_places rest after laid.other_stands stand);
        };
      }
      does_statement (case_of kind value branches) step here laid = record {
        action = Case kind (known_expression scope value) laid.list laid.otherwise;
        there = laid.there;
        tells = record {
          effect = refl;
          stands =
              chosen_stands scope actions now kind (known_expression scope value) branches laid.start (record { table = laid.table; branches = laid.list; otherwise = laid.otherwise }) rest after
              laid.lowered laid.front stand;
        };
      }
      does_statement (while_true condition body) step here laid = record {
        action = While (known_expression scope condition) laid.places;
        there = laid.there;
        tells = record {
          effect = refl;
          stands =
              chosen (holds now (known_expression scope condition)) (before body (executing (while_true condition body) ∷ rest)) rest (frames laid.places (Executing place ∷ after)) after
              (stands_at_places scope actions body laid.places (executing (while_true condition body) ∷ rest) (Executing place ∷ after) laid.stands ((step, here), stand)) stand;
        };
      }
      does_statement (repeat_times count body) step here laid = record {
        action = Repeat (known_expression scope count) laid.places;
        there = laid.there;
        tells = record { effect = refl; stands = turns_stand (turns_of now (known_expression scope count)) place count body here };
      }
      does_statement (forever body) step here laid = record {
        action = Forever laid.places;
        there = laid.there;
        tells = record {
          effect = refl;
          stands = stands_at_places scope actions body laid.places (executing (forever body) ∷ rest) (Executing place ∷ after) laid.stands ((step, here), stand);
        };
      }
      does_statement (wait_for condition body) step here laid = record {
        action = Wait (known_expression scope condition) (any_of scope (names_in condition)) laid.places;
        there = laid.there;
        tells = chosen_step (holds now (known_expression scope condition)) _ _ _ _
            (record { effect = refl; stands = stands_at_places scope actions body laid.places rest after laid.stands stand })
            (record { effect = ap (λ a. record nothing { suspension = waits (terms_in a) }) laid.there; stands = ((step, here), stand) });
      }
      does_statement (delay amount body) step here laid = record {
        action = Delay (amount_of scope amount) laid.places;
        there = laid.there;
        tells = record { effect = refl; stands = stands_at_places scope actions body laid.places rest after laid.stands stand };
      }
      does_statement (event control body) step here laid = record {
        action = EventControl (terms_of scope control body) laid.places;
        there = laid.there;
        tells = record {
          effect = ap (λ a. record nothing { suspension = waits (terms_in a) }) laid.there;
          stands = stands_at_places scope actions body laid.places rest after laid.stands stand;
        };
      }
      does_statement (task call) step here laid = record { action = task_action scope call; there = laid; tells = does_task call place laid }

      -- the start of a turn

      does_turn : (n : ℕ) (count : text.ExpressionTree) (body : StatementTree) → Stands scope actions (repeat_times count body) (place ∷ []) →
          HasBody scope actions body (Repeat (known_expression scope count)) place → Does (repeating n count body) rest (Repeating place n) after
      does_turn n count body here laid = record {
        action = Repeat (known_expression scope count) laid.places;
        there = laid.there;
        tells = record {
          effect = refl;
          stands =
              stands_at_places scope actions body laid.places (turns_before (n - 1) count body rest) (turns_left place (n - 1) after) laid.stands
              (turns_stand (n - 1) place count body here);
        };
      }

    is_step : (first : Pending) (frame : Frame) → StandsAt scope actions first frame → IsStep first
    is_step (executing statement) (Executing place) here = here.0
    is_step (executing statement) (Repeating place n) here = absurd here
    is_step (executing statement) (Writing place) here = absurd here
    is_step (repeating n count body) frame here = tt
    is_step (writing target amount value) frame here = tt
    is_step (driving outside target inside value) frame here = tt

    does_first : (first : Pending) (frame : Frame) → StandsAt scope actions first frame → Does first rest frame after
    does_first (executing statement) (Executing place) here = does_statement place statement here.0 here.1 (laid_there scope actions statement place here.0 here.1)
    does_first (executing statement) (Repeating place n) here = absurd here
    does_first (executing statement) (Writing place) here = absurd here
    does_first (repeating n count body) (Executing place) here = absurd here
    does_first (repeating n count body) (Repeating place m) here =
        subst (λ turns. Does (repeating n count body) rest (Repeating place turns) after) here.0
        (does_turn place n count body here.1 (laid_there scope actions (repeat_times count body) place refl here.1))
    does_first (repeating n count body) (Writing place) here = absurd here
    does_first (writing target amount value) (Executing place) here = absurd here
    does_first (writing target amount value) (Repeating place m) here = absurd here
    does_first (writing target amount value) (Writing place) here = record {
      action = AssignDelayed (amount_of scope amount) (row_of scope target) (known_expression scope value);
      there = laid_there scope actions (assign target (Some amount) value) place refl here;
      tells = record { effect = refl; stands = stand };
    }
    does_first (driving outside target inside value) (Executing place) here = record {
      action = ContinuousAssign here.targets here.e (any_of inside (names_in value));
      there = here.there;
      tells = record {
        effect = λ i. record nothing {
          wrote = assigned_parts now (sym (ap (value_or []) here.driven) i) (sym (ap (value_or no_parts) here.lowered) i);
          suspension = waits (terms_in (here.there i));
        };
        stands = (here, stand);
      };
    }
    does_first (driving outside target inside value) (Repeating place m) here = absurd here
    does_first (driving outside target inside value) (Writing place) here = absurd here

  -- ---- the laws

  pub follows_trees : (pending : List Pending) (frame : Frame) (after : List Frame) → StandAt scope actions pending (frame ∷ after) → HasTreeStep scope now held actions pending frame after
  follows_trees [] frame after stand = absurd stand
  follows_trees (first ∷ rest) frame after stand =
      let made : Does first rest frame after = does_first rest after stand.1 first frame stand.0 in
      record { action = made.action; there = made.there; step = execute_pending scope now held first rest; goes_on = (is_step rest after stand.1 first frame stand.0, refl); tells = made.tells }

  pub follows_places : (pending : List Pending) (left : List Frame) (step : TreeStep) → StandAt scope actions pending left → GoesOn scope now held pending step →
      HasPlaceStep scope now held actions step left
  follows_places [] left step stand goes = absurd goes
  follows_places (first ∷ rest) [] step stand goes = absurd stand
  follows_places (first ∷ rest) (frame ∷ after) step stand goes =
      let made : Does first rest frame after = does_first rest after stand.1 first frame stand.0 in
      record {
        frame = frame;
        after = after;
        begins = refl;
        action = made.action;
        there = made.there;
        tells = subst (λ told. Tells scope actions told (execute_at frame made.action after held now)) goes.1 made.tells;
      }

pub begins_before : (scope : Scope) (actions : List Action) (statement : StatementTree) (places : List ℕ) → Stands scope actions statement places →
    StandAt scope actions (before statement []) (frames places [])
begins_before scope actions statement places here = stands_at_places scope actions statement places [] [] here tt
