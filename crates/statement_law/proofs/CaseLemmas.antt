-- The branches of a `case`, and the statements behind its items.
use Rattle.std.proofs.Common.{◌≡◌, ℕ, Bool, true, false, if◌then◌else◌, List, [], ◌∷◌, ◌++◌, Ok, refl, sym, ap, subst, ◌∙◌}
use Rattle.vbits.specs.Vectors.{Vector}
use Rattle.vast.specs.NumberedExpressions as text
use Rattle.vast.specs.NumberedStatements.{StatementTree, BranchTree, BranchTrees, labelled, default, no_branch, first_branch}
use Rattle.vwords.specs.declared.cases.CaseKind.{CaseKind}
use Rattle.vdesign.specs.Expressions.{ExpressionTree}
use Rattle.vdesign.specs.declared.action.Action.{Action}
use Rattle.vdesign.specs.declared.action.Branch.{Branch}
use Rattle.vvalue.specs.declared.size_and_sign.SizeAndSign.{SizeAndSign}
use Rattle.vvalue.specs.Value.{Environment, self_determined, common, value_of}
use Rattle.vvalue.specs.Cases.{matches, widest, places_at, places_of_case}
use Rattle.velab_expr.specs.Scopes.{Scope}
use Rattle.velab_expr.specs.Resolved.{no_parts, lower_expression}
use Rattle.velab_process.specs.Statements.{Table, LoweredBranches, lower_labels, lower_statement, lower_branch, lower_branches}
use Rattle.vmodel.specs.declared.frame.Frame.{Frame}
use Rattle.vmodel.specs.Step.{frames}
use Rattle.statement_law.specs.TreeSteps.{Pending, before, Choice, labels_of, choices_of_branch, choices_of, default_of_branch, default_before, widest_of, first_match, chosen_before}
use Rattle.statement_law.specs.Standing.{IsFront, Stands, StandAt}
use Rattle.statement_law.proofs.AnswerLemmas.{Told, told_of, told_made, told_next, told_by, told_branches}
use Rattle.statement_law.proofs.GrowthLemmas.{front_of_front, GrownBranches, grown_branches}
use Rattle.statement_law.proofs.StandingLemmas.{frames_behind, stands_at_places}

module _ (scope : Scope) (actions : List Action) where
  -- ---- branches stand for items

  record IsBranch (choice : Choice) (branch : Branch) : Type 0 where
    item : branch.item ≡ choice.item
    body : Stands scope actions choice.body branch.body

  abbrev AreBranches : List Choice → List Branch → Type 0
  AreBranches [] [] = Unit {0}
  AreBranches (choice ∷ more) (branch ∷ others) = IsBranch choice branch × AreBranches more others
  AreBranches _ _ = ⊥

  both : (cs ds : List Choice) (bs es : List Branch) → AreBranches cs bs → AreBranches ds es → AreBranches (cs ++ ds) (bs ++ es)
  both [] ds [] es one other = other
  both [] ds (b ∷ bs) es one other = absurd one
  both (c ∷ cs) ds [] es one other = absurd one
  both (c ∷ cs) ds (b ∷ bs) es one other = (one.0, both cs ds bs es one.1 other)

  -- what comes where no item matches stands at these places
  abbrev Defaults : (List Pending → List Pending) → List ℕ → Type 0
  Defaults otherwise places = (rest : List Pending) (after : List Frame) → StandAt scope actions rest after → StandAt scope actions (otherwise rest) (frames places after)

  record AreLaid (choices : List Choice) (otherwise : List Pending → List Pending) (lowered : LoweredBranches) : Type 0 where
    branches : AreBranches choices lowered.branches
    defaults : Defaults otherwise lowered.otherwise

  abbrev Laying : List Choice → (List Pending → List Pending) → LoweredBranches → Type 0
  Laying choices otherwise lowered = IsFront lowered.table.actions actions → AreLaid choices otherwise lowered

  labels_stand : (places : List ℕ) (items : text.ExpressionTrees) (body : StatementTree) → Stands scope actions body places →
      Told (AreBranches (labels_of scope items body)) (lower_labels scope places items)
  labels_stand places text.none body here = tt
  labels_stand places (text.first item more) body here =
      told_made (AreBranches (labels_of scope (text.first item more) body)) (λ e. record { item = e; body = places } ∷ []) no_parts (lower_expression scope item) _
      (told_next (AreBranches (labels_of scope (text.first item more) body)) (lower_labels scope places more) _ (λ others is.
      (record { item = refl; body = here }, told_of (AreBranches (labels_of scope more body)) (lower_labels scope places more) others is (labels_stand places more body here))))

  branch_stands : (table : Table) (branch : BranchTree) → Told (Laying (choices_of_branch scope branch) (default_of_branch branch)) (lower_branch scope table branch)
  branch_stands table (labelled items body) =
      told_next (Laying (labels_of scope items body) (λ rest. rest)) (lower_statement scope table body) _ (λ inner is.
      told_next (Laying (labels_of scope items body) (λ rest. rest)) (lower_labels scope inner.places items) _ (λ branches same front.
      let here : Stands scope actions body inner.places = record { start = table; table = inner.table; lowered = is; front = front } in
      record {
        branches = told_of (AreBranches (labels_of scope items body)) (lower_labels scope inner.places items) branches same (labels_stand inner.places items body here);
        defaults = (λ rest after stand. stand);
      }))
  branch_stands table (default colon body) =
      told_next (Laying [] (before body)) (lower_statement scope table body) _ (λ inner is front. record {
        branches = tt;
        defaults = (λ rest after stand. stands_at_places scope actions body inner.places rest after (record { start = table; table = inner.table; lowered = is; front = front }) stand);
      })

  branches_stand : (table : Table) (branches : BranchTrees) → Told (Laying (choices_of scope branches) (default_before branches)) (lower_branches scope table branches)
  branches_stand table no_branch = λ front. record { branches = tt; defaults = (λ rest after stand. stand) }
  branches_stand table (first_branch branch more) =
      told_next (Laying (choices_of scope (first_branch branch more)) (default_before (first_branch branch more))) (lower_branch scope table branch) _ (λ first is.
      told_branches (Laying (choices_of scope (first_branch branch more)) (default_before (first_branch branch more))) first.branches first.otherwise (lower_branches scope first.table more)
      (told_by (Laying (choices_of scope more) (default_before more)) _ (lower_branches scope first.table more) (branches_stand first.table more) (λ l same laid whole.
      let between : IsFront first.table.actions l.table.actions =
      told_of (GrownBranches first.table) (lower_branches scope first.table more) l same (grown_branches scope first.table more) in
      let one : AreLaid (choices_of_branch scope branch) (default_of_branch branch) first =
      told_of (Laying (choices_of_branch scope branch) (default_of_branch branch)) (lower_branch scope table branch) first is (branch_stands table branch)
      (front_of_front first.table.actions l.table.actions actions between whole) in
      let others : AreLaid (choices_of scope more) (default_before more) l = laid whole in
      record {
        branches = both (choices_of_branch scope branch) (choices_of scope more) first.branches l.branches one.branches others.branches;
        defaults = (λ rest after stand.
            subst (StandAt scope actions (default_of_branch branch (default_before more rest))) (frames_behind first.otherwise l.otherwise after)
            (one.defaults (default_before more rest) (frames l.otherwise after) (others.defaults rest after stand)));
      })))

  -- ---- the first that matches

  module _ (now : Environment) where
    widest_is : (here : SizeAndSign) (choices : List Choice) (list : List Branch) → AreBranches choices list → widest_of now here choices ≡ widest now here list
    widest_is here [] [] are = refl
    widest_is here [] (b ∷ bs) are = absurd are
    widest_is here (c ∷ cs) [] are = absurd are
    widest_is here (c ∷ cs) (b ∷ bs) are =
        ap (λ item. widest_of now (common here (self_determined now item)) cs) (sym are.0.item) ∙ widest_is (common here (self_determined now b.item)) cs bs are.1

    module _ (kind : CaseKind) (here : SizeAndSign) (value : Vector) (rest : List Pending) (after : List Frame) (stand : StandAt scope actions rest after) where
      either : (test : Bool) (one other : List Pending) (places others : List ℕ) → StandAt scope actions one (frames places after) → StandAt scope actions other (frames others after) →
          StandAt scope actions (if test then one else other) (frames (if test then places else others) after)
      either true one other places others first second = first
      either false one other places others first second = second

      first_stands : (choices : List Choice) (list : List Branch) (otherwise : List Pending) (places : List ℕ) → AreBranches choices list → StandAt scope actions otherwise (frames places after) →
          StandAt scope actions (first_match now kind here value choices rest otherwise) (frames (places_at now kind here value list places) after)
      first_stands [] [] otherwise places are other = other
      first_stands [] (b ∷ bs) otherwise places are other = absurd are
      first_stands (c ∷ cs) [] otherwise places are other = absurd are
      first_stands (c ∷ cs) (b ∷ bs) otherwise places are other =
          subst (λ item. StandAt scope actions
          (if matches kind value (value_of now item here) then before c.body rest else first_match now kind here value cs rest otherwise)
          (frames (if matches kind value (value_of now b.item here) then b.body else places_at now kind here value bs places) after)) are.0.item
          (either (matches kind value (value_of now b.item here)) (before c.body rest) (first_match now kind here value cs rest otherwise) b.body (places_at now kind here value bs places)
          (stands_at_places scope actions c.body b.body rest after are.0.body stand) (first_stands cs bs otherwise places are.1 other))

    -- the chosen statement stands at the places that come next
    pub chosen_stands : (kind : CaseKind) (value : ExpressionTree) (branches : BranchTrees) (start : Table) (lowered : LoweredBranches) (rest : List Pending) (after : List Frame) →
        lower_branches scope start branches ≡ Ok lowered → IsFront lowered.table.actions actions → StandAt scope actions rest after →
        StandAt scope actions (chosen_before now kind value (choices_of scope branches) rest (default_before branches rest))
        (frames (places_of_case now kind value lowered.branches lowered.otherwise) after)
    unfolding places_of_case
    chosen_stands kind value branches start lowered rest after is front stand =
        let laid : AreLaid (choices_of scope branches) (default_before branches) lowered =
        told_of (Laying (choices_of scope branches) (default_before branches)) (lower_branches scope start branches) lowered is (branches_stand start branches) front in
        let here : SizeAndSign = widest now (self_determined now value) lowered.branches in
        subst (λ size. StandAt scope actions (first_match now kind size (value_of now value size) (choices_of scope branches) rest (default_before branches rest))
        (frames (places_at now kind here (value_of now value here) lowered.branches lowered.otherwise) after))
        (sym (widest_is (self_determined now value) (choices_of scope branches) lowered.branches laid.branches))
        (first_stands kind here (value_of now value here) rest after stand (choices_of scope branches) lowered.branches (default_before branches rest) lowered.otherwise laid.branches (laid.defaults rest after stand))
