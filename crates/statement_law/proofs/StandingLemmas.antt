-- Statements stand before what they leave, at the frames of their places.
use Rattle.std.proofs.Common.{◌≡◌, ℕ, true, List, [], ◌∷◌, ◌++◌, map, None, Result, Ok, Err, refl, sym, ap, subst, ◌∙◌, append_assoc, append-nil}
use Rattle.std.proofs.lemmas.List.{map-append}
use Rattle.vast.specs.NumberedExpressions as text
use Rattle.vast.specs.NumberedStatements.{TargetTree, StatementTree, StatementTrees, empty, block, assign, nonblocking, trigger, if_true, if_else, case_of, while_true, repeat_times, forever, for_loop, wait_for, delay, event, task, no_statement, first_statement}
use Rattle.vdesign.specs.declared.action.Action.{Action}
use Rattle.vdesign.specs.declared.action.Action.TheVariants.{While}
use Rattle.velab_expr.specs.declared.fault.ElabFault.{ElabFault}
use Rattle.velab_expr.specs.Answers.{◌>>=◌}
use Rattle.velab_expr.specs.FirstWords.{first_in}
use Rattle.velab_expr.specs.Scopes.{Scope}
use Rattle.velab_expr.specs.Resolved.{lower_expression}
use Rattle.velab_process.specs.Statements.{Table, Lowered, with_places_before, lowered_action, lower_assignment, lower_statement, lower_all}
use Rattle.vmodel.specs.declared.frame.Frame.{Frame}
use Rattle.vmodel.specs.declared.frame.Frame.TheVariants.{Executing}
use Rattle.vmodel.specs.Step.{frames}
use Rattle.statement_law.specs.TreeSteps.{takes_step, Pending, executing, in_order, before, before_all}
use Rattle.statement_law.specs.Standing.{IsFront, Stands, StandAt}
use Rattle.statement_law.proofs.AnswerLemmas.{Told, told_of, told_next, told_by, told_places}
use Rattle.statement_law.proofs.GrowthLemmas.{front_of_front, Grown, grown_all}
use Rattle.statement_law.proofs.LayoutLemmas.{Laid, IsOne, Puts, puts}

-- ---- a `for` is a block of its first assignment and a `while`

-- nothing stands behind
alone : (answer : Result Lowered ElabFault) → (answer >>= λ l. with_places_before l.places (Ok (record { table = l.table; places = [] }))) ≡ answer
alone (Ok l) = ap (λ places. Ok (record { table = l.table; places = places })) (append-nil l.places)
alone (Err fault) = refl

joined : {A B C : Type 0} (answer : Result A ElabFault) (next : A → Result B ElabFault) (last : B → Result C ElabFault) →
    ((answer >>= next) >>= last) ≡ (answer >>= λ x. next x >>= last)
joined (Ok x) next last = refl
joined (Err fault) next last = refl

module _ (scope : Scope) (target : TargetTree) (value condition : text.ExpressionTree) (next_target : TargetTree) (next_value : text.ExpressionTree) (body : StatementTree) where
  abbrev pub turn : StatementTree
  turn = while_true condition (in_order body (assign next_target None next_value))

  abbrev loop : Table → Result Lowered ElabFault
  loop table =
      lower_expression scope condition >>= λ test.
      lower_statement scope table body >>= λ inner.
      with_places_before inner.places (lower_assignment true scope inner.table next_target None next_value) >>= λ last.
      Ok (lowered_action last.table (first_in condition) (While test last.places))

  loop_is : (table : Table) → lower_all scope table (first_statement turn no_statement) ≡ loop table
  loop_is table =
      alone (lower_statement scope table turn)
      ∙ (λ i. lower_expression scope condition >>= λ test.
      joined (lower_statement scope table body)
      (λ inner. with_places_before inner.places (alone (lower_assignment true scope inner.table next_target None next_value) i))
      (λ last. Ok (lowered_action last.table (first_in condition) (While test last.places))) i)

  pub for_is : (table : Table) →
      lower_all scope table (first_statement (assign target None value) (first_statement turn no_statement))
      ≡ lower_statement scope table (for_loop target value condition next_target next_value body)
  for_is table = λ i. lower_assignment true scope table target None value >>= λ first. with_places_before first.places (loop_is first.table i)

-- ---- statements, before what is left

pub frames_behind : (places others : List ℕ) (after : List Frame) → frames places (frames others after) ≡ frames (places ++ others) after
frames_behind places others after =
    sym (append_assoc (map Executing places) (map Executing others) after) ∙ ap (λ list. list ++ after) (sym (map-append Executing places others))

module _ (scope : Scope) (actions : List Action) where
  -- what is left, and before it what was lowered
  abbrev Standing : List Pending → List Frame → Lowered → Type 0
  Standing pending after lowered = IsFront lowered.table.actions actions → StandAt scope actions pending (frames lowered.places after)

  one_stands : (table : Table) (statement : StatementTree) (rest : List Pending) (after : List Frame) → takes_step statement ≡ true → StandAt scope actions rest after →
      Told (Standing (executing statement ∷ rest) after) (lower_statement scope table statement)
  one_stands table statement rest after step stand =
      told_by (Puts actions (Laid scope actions statement)) (Standing (executing statement ∷ rest) after) (lower_statement scope table statement)
      (puts scope actions table statement step) (λ l is put front.
      let one : IsOne (Laid scope actions statement) l = put front in
      let here : Stands scope actions statement (one.place ∷ []) =
      record { start = table; table = l.table; lowered = is ∙ ap (λ places. Ok (record { table = l.table; places = places })) one.one; front = front } in
      subst (λ (places : List ℕ). StandAt scope actions (executing statement ∷ rest) (frames places after)) (sym one.one) ((step, here), stand))

  -- one statement, and behind it more
  first_stands : (table : Table) (statement : StatementTree) (more : StatementTrees) (first rest : List Pending) (after : List Frame) →
      ((inner : Table) → Told (Standing rest after) (lower_all scope inner more)) →
      ((behind : List Frame) → StandAt scope actions rest behind → Told (Standing first behind) (lower_statement scope table statement)) →
      Told (Standing first after) (lower_all scope table (first_statement statement more))
  first_stands table statement more first rest after others one =
      told_next (Standing first after) (lower_statement scope table statement) _ (λ front is.
      told_places (Standing first after) front.places (lower_all scope front.table more)
      (told_by (Standing rest after) (λ l. Standing first after (record { table = l.table; places = front.places ++ l.places })) (lower_all scope front.table more) (others front.table) (λ l same stand whole.
      let between : IsFront front.table.actions l.table.actions = told_of (Grown front.table) (lower_all scope front.table more) l same (grown_all scope front.table more) in
      subst (StandAt scope actions first) (frames_behind front.places l.places after)
      (told_of (Standing first (frames l.places after)) (lower_statement scope table statement) front is (one (frames l.places after) (stand whole))
      (front_of_front front.table.actions l.table.actions actions between whole)))))

  mutual
    pub stands_before : (table : Table) (statement : StatementTree) (rest : List Pending) (after : List Frame) → StandAt scope actions rest after →
        Told (Standing (before statement rest) after) (lower_statement scope table statement)
    stands_before table empty rest after stand = λ front. stand
    stands_before table (block label statements) rest after stand = stands_before_all table statements rest after stand
    stands_before table (for_loop target value condition next_target next_value body) rest after stand =
        let turn : StatementTree = while_true condition (in_order body (assign next_target None next_value)) in
        let next : List Pending = executing turn ∷ rest in
        let all : List Pending = executing (assign target None value) ∷ next in
        subst (Told (Standing all after)) (for_is scope target value condition next_target next_value body table)
        (first_stands table (assign target None value) (first_statement turn no_statement) all next after
        (λ inner. first_stands inner turn no_statement next rest after (λ last front. stand) (λ behind standing. one_stands inner turn rest behind refl standing))
        (λ behind standing. one_stands table (assign target None value) next behind refl standing))
    stands_before table (assign target amount value) rest after stand = one_stands table (assign target amount value) rest after refl stand
    stands_before table (nonblocking target amount value) rest after stand = one_stands table (nonblocking target amount value) rest after refl stand
    stands_before table (trigger letters) rest after stand = one_stands table (trigger letters) rest after refl stand
    stands_before table (if_true condition body) rest after stand = one_stands table (if_true condition body) rest after refl stand
    stands_before table (if_else condition body other) rest after stand = one_stands table (if_else condition body other) rest after refl stand
    stands_before table (case_of kind value branches) rest after stand = one_stands table (case_of kind value branches) rest after refl stand
    stands_before table (while_true condition body) rest after stand = one_stands table (while_true condition body) rest after refl stand
    stands_before table (repeat_times count body) rest after stand = one_stands table (repeat_times count body) rest after refl stand
    stands_before table (forever body) rest after stand = one_stands table (forever body) rest after refl stand
    stands_before table (wait_for condition body) rest after stand = one_stands table (wait_for condition body) rest after refl stand
    stands_before table (delay amount body) rest after stand = one_stands table (delay amount body) rest after refl stand
    stands_before table (event control body) rest after stand = one_stands table (event control body) rest after refl stand
    stands_before table (task call) rest after stand = one_stands table (task call) rest after refl stand

    stands_before_all : (table : Table) (statements : StatementTrees) (rest : List Pending) (after : List Frame) → StandAt scope actions rest after →
        Told (Standing (before_all statements rest) after) (lower_all scope table statements)
    stands_before_all table no_statement rest after stand = λ front. stand
    stands_before_all table (first_statement statement more) rest after stand =
        first_stands table statement more (before statement (before_all more rest)) (before_all more rest) after
        (λ inner. stands_before_all inner more rest after stand)
        (λ behind standing. stands_before table statement (before_all more rest) behind standing)

  -- where a statement stands at places
  pub stands_at_places : (statement : StatementTree) (places : List ℕ) (rest : List Pending) (after : List Frame) → Stands scope actions statement places →
      StandAt scope actions rest after → StandAt scope actions (before statement rest) (frames places after)
  stands_at_places statement places rest after here stand =
      told_of (Standing (before statement rest) after) (lower_statement scope here.start statement) (record { table = here.table; places = places }) here.lowered
      (stands_before here.start statement rest after stand) here.front

  -- a statement that takes a step stands at one place, where its action is
  pub laid_there : (statement : StatementTree) (place : ℕ) → takes_step statement ≡ true → Stands scope actions statement (place ∷ []) → Laid scope actions statement place
  laid_there statement place step here =
      let one : IsOne (Laid scope actions statement) (record { table = here.table; places = place ∷ [] }) =
      told_of (Puts actions (Laid scope actions statement)) (lower_statement scope here.start statement) (record { table = here.table; places = place ∷ [] }) here.lowered
      (puts scope actions here.start statement step) here.front in
      let same : one.place ≡ place = cc in
      subst (Laid scope actions statement) same one.holds
