-- *internal*: What the program's functions answer that read by the definitions.
use Rattle.std.specs.Prelude.{◌≡◌, ℕ, Bool, not, List, [], ◌∷◌, ◌++◌, Option, Some, Box, Vec, map, option_map, codes, Result, Ok, Err, IfOk}
use Rattle.std.specs.List.{flat_map}
use Rattle.vwords.specs.Words.{Text, is_string}
use Rattle.vast.specs.Expressions.{ExpressionTree}
use Rattle.std.specs.Borrow.{MutBor}
use Rattle.vast.specs.ExpressionTrees.{boxed_tree}
use Rattle.vast.specs.StatementTrees.{target_tree, statement_tree, path_tree, argument_tree, delay_tree, selection_tree, term_tree, further_term as further_tree}
use Rattle.vast.specs.Leaves.{target_leaves, pair_leaves, term_leaves, further_leaves, argument_leaves, path_leaves, statement_leaves}
use Rattle.vast.specs.declared.statement.Statement.{Statement}
use Rattle.vast.specs.declared.statement.Target.{Target}
use Rattle.vast.specs.declared.expression.Expression.{Expression}
use Rattle.basis.specs.declared.memory.OrMemory.{OrMemory}
use Rattle.vexpr_parse.specs.declared.stop.Stop.{Stop}
use Rattle.vexpr_parse.specs.Readers.{Answer, Reader, got, and_then, by_word, past, is_front, turns}
use Rattle.vexpr_parse.specs.Answers.{Stops, Keeps, ahead}
use Rattle.vexpr_parse.specs.Texts.{words_of}
use Rattle.vexpr_parse.specs.declared.cursor.Cursor.{Cursor}
use Rattle.vlex.specs.Tokenized.{Tokenized}
use Rattle.vast.specs.Statements.{TargetTree, joined, StatementTree, task, dump, forever, TermTree, FurtherTerm, DelayTree, EventTree, SelectionTree, ArgumentTree}
use Rattle.vgrammar.specs.Parts.{Both, both, Either, other_way, either, map_tree, maybe, pair, word_as, one_behind, many}
use Rattle.vgrammar.specs.Starts.{is_meant, is_word, meant_if, edge_of, comma_of}
use Rattle.vast.specs.declared.statement.Edge.{Edge}
use Rattle.vast.specs.declared.statement.Path.{Path}
use Rattle.vast.specs.declared.statement.FurtherTerm.{FurtherTerm as FurtherWords}
use Rattle.vgrammar.specs.Statements.{select, target_of, target, targets_in, target_lead, name_word, word_only, trigger_of, number_word, end_of, end_parts, dump_file_of, dump_file_parts, statement, guarded_of, guard_then, delayed_of, amount, term, further_term, event_of, enclosed_event, event_body_of, control, block_of, block_parts, path, selection, dump_vars_of, value, argument_of, argument}
use Rattle.vgrammar.specs.declared.start.Guard.{Guard}
use Rattle.vast.specs.declared.token.Token.{Token}
use Rattle.vast.specs.TokenTexts.{token_text}
use Rattle.vast.specs.declared.statement.Dumping.{Dumping}
use Rattle.vstatement_parse.specs.declared.settings.Setting.{Setting}
use Rattle.vstatement_parse.specs.declared.events.Names.{Names}
use Rattle.vast.specs.declared.statement.Argument.{Argument}
use Rattle.vast.specs.declared.statement.Delay.{Delay}
use Rattle.vast.specs.declared.statement.Selection.{Selection}
use Rattle.vgrammar.specs.Lists.{all_until}

-- what the definition reads is given, and what is behind it is left; or it stops there
abbrev pub Answered : {A T : Type 0} → (T → A) → Answer A → List Text → Result T (OrMemory Stop) → Type 0
Answered view answer left (Ok value) = answer ≡ got (view value) left
Answered view answer left (Err e) = Stops answer left e

-- so of the words that are left of a text's tokens, and of trees that keep tokens by number
abbrev pub Gives : {A T : Type 0} → (List Text → T → A) → Reader A → Tokenized → Cursor → Cursor →
    Result T (OrMemory Stop) → Type 0
Gives view read tokens old new result =
    Answered (view (words_of tokens)) (read (ahead tokens old)) (ahead tokens new) result

-- the tree of an expression behind a pointer
abbrev pub value_tree : {T : Type 0} → List Text → Box Expression T → ExpressionTree
value_tree words value = boxed_tree words value

-- the same, and that a word ended it
abbrev pub ended_tree : {T : Type 0} → List Text → Box Expression T → Both ExpressionTree (Unit {0})
ended_tree words value = both (boxed_tree words value) tt

-- a target with a select, behind its bracket
abbrev pub selected_tree : Text → ℕ → Reader TargetTree
selected_tree letters below = map_tree (λ selected. target_of letters (Some selected)) (select below)

-- each call reads as the definition does with so many levels
abbrev pub ReadsTargets : Tokenized → ℕ → (MutBor Cursor → Result Target (OrMemory Stop) → MutBor Cursor → Type 0) →
    Type 0
ReadsTargets tokens below call =
    (old new : MutBor Cursor) (result : Result Target (OrMemory Stop)) → call old result new →
    Gives target_tree (target below) tokens old.now new.now result

-- each call keeps the tokens that it passes
abbrev pub KeepsTargets : Tokenized → (MutBor Cursor → Result Target (OrMemory Stop) → MutBor Cursor → Type 0) → Type 0
KeepsTargets tokens call =
    (old new : MutBor Cursor) (result : Result Target (OrMemory Stop)) → call old result new →
    IfOk result (Keeps target_leaves tokens old.now new.now)

-- the trees of targets
abbrev pub all_targets : {T : Type 0} → List Text → Vec Target T → List TargetTree
all_targets words targets = map (target_tree words) targets.items

-- the targets behind those that were read
abbrev pub targets_from : ℕ → List TargetTree → Reader (List TargetTree)
targets_from below = turns (one_behind (λ list. past (codes ",") (target below))) (is_front (codes ","))

-- the targets with the first one
abbrev pub targets_behind : ℕ → TargetTree → Reader (List TargetTree)
targets_behind below first = targets_from below (first ∷ [])

abbrev pub targets_within : ℕ → Reader (List TargetTree)
targets_within below = all_until (codes "}") (target below)

abbrev pub in_braces : List TargetTree → TargetTree
in_braces all = joined (targets_in all)

-- with so many levels below it
abbrev pub target_at : ℕ → Reader TargetTree
target_at below = by_word (target_lead below (target below))

-- what is read is what is given
abbrev pub itself : {A : Type 0} → List Text → A → A
itself words tree = tree

-- behind ->
abbrev pub trigger_at : Reader StatementTree
trigger_at = map_tree trigger_of (pair name_word (word_only (codes ";")))

-- each call reads as the definition does with so many levels
abbrev pub ReadsStatements : Tokenized → ℕ →
    (MutBor Cursor → Result Statement (OrMemory Stop) → MutBor Cursor → Type 0) → Type 0
ReadsStatements tokens below call =
    (old new : MutBor Cursor) (result : Result Statement (OrMemory Stop)) → call old result new →
    Gives statement_tree (statement below) tokens old.now new.now result

-- each call keeps the tokens that it passes
abbrev pub KeepsStatements : Tokenized → (MutBor Cursor → Result Statement (OrMemory Stop) → MutBor Cursor → Type 0) → Type 0
KeepsStatements tokens call =
    (old new : MutBor Cursor) (result : Result Statement (OrMemory Stop)) → call old result new →
    IfOk result (Keeps statement_leaves tokens old.now new.now)

-- what a for writes
abbrev pub setting_tree : List Text → Setting → Both TargetTree ExpressionTree
setting_tree words setting = both (target_tree words setting.target) (boxed_tree words setting.value)

-- behind $dumpon, and the like
abbrev pub dump_at : Dumping → Reader StatementTree
dump_at kind = past (codes ";") (got (task (dump kind)))

-- behind $dumpfile
abbrev pub dump_file_at : Reader StatementTree
dump_file_at = map_tree dump_file_of dump_file_parts

-- a number between parentheses, or none
abbrev pub ended_number : List Text → Token → Both Text (Unit {0})
ended_number words word = both (token_text words word) tt

abbrev pub numbers_tree : List Text → Option Token → Option (Both Text (Unit {0}))
numbers_tree words number = option_map (ended_number words) number

abbrev pub optional_number_at : Reader (Option (Both Text (Unit {0})))
optional_number_at = maybe (is_front (codes "(")) (past (codes "(") (pair number_word (word_only (codes ")"))))

-- behind $stop, or $finish
abbrev pub end_at : Bool → Reader StatementTree
end_at stops = map_tree (end_of stops) end_parts

-- which change of a name is waited for
abbrev pub optional_edge : Reader (Option Edge)
optional_edge = maybe (is_meant edge_of) (word_as edge_of)

-- what stands behind while, and the like
abbrev pub guarded_at : ℕ → Guard → Reader StatementTree
guarded_at below kind = map_tree (guarded_of kind) (guard_then below (statement below))

-- behind forever
abbrev pub forever_at : ℕ → Reader StatementTree
forever_at below = map_tree forever (statement below)

-- behind #
abbrev pub delayed_at : ℕ → Reader StatementTree
delayed_at below = map_tree delayed_of (pair (amount below) (statement below))

-- the further names whose changes are waited for
abbrev pub all_further : {T : Type 0} → List Text → Vec FurtherWords T → List FurtherTerm
all_further words further = map (further_tree words) further.items

abbrev pub further_terms : Reader (List FurtherTerm)
further_terms = many (is_meant comma_of) (λ list. further_term)

-- all of them
abbrev pub names_tree : List Text → Names → Both TermTree (List FurtherTerm)
names_tree words names = both (term_tree words names.term) (all_further words names.further)

-- behind @ (
abbrev pub terms_at : Reader EventTree
terms_at =
    map_tree (λ terms. event_of (other_way (other_way (other_way terms))))
    (pair (pair term further_terms) (word_only (codes ")")))

abbrev pub enclosed_at : Reader EventTree
enclosed_at = map_tree (λ inner. event_of (other_way (other_way inner))) enclosed_event

-- behind @
abbrev pub event_at : ℕ → Reader StatementTree
event_at below = map_tree event_body_of (pair control (statement below))

-- the statements of a block
abbrev pub all_statements : {T : Type 0} → List Text → Vec Statement T → List StatementTree
all_statements words statements = map (statement_tree words) statements.items

abbrev pub block_list : ℕ → Reader (List StatementTree)
block_list below = many (λ next. not (is_front (codes "end") next)) (λ list. statement below)

abbrev pub ended_list : {T : Type 0} → List Text → Vec Statement T → Both (List StatementTree) (Unit {0})
ended_list words statements = both (all_statements words statements) tt

-- the name of a block
abbrev pub block_name_text : List Text → Option Token → Option Text
block_name_text words label = option_map (token_text words) label

-- behind begin
abbrev pub block_at : ℕ → Reader StatementTree
block_at below = map_tree block_of (block_parts (statement below))

-- the names of a path
abbrev pub all_names : {T : Type 0} → List Text → Vec Token T → List Text
all_names words names = map (token_text words) names.items

-- the names with the first one
abbrev pub names_behind : Text → Reader (List Text)
names_behind one = turns (one_behind (λ list. past (codes ".") name_word)) (is_front (codes ".")) (one ∷ [])

abbrev pub path_at : Reader (List Text)
path_at words = and_then (name_word words) names_behind

abbrev pub all_paths : {T : Type 0} → List Text → Vec Path T → List (List Text)
all_paths words paths = map (path_tree words) paths.items

abbrev pub paths_at : Reader (List (List Text))
paths_at = many (is_front (codes ",")) (λ list. past (codes ",") path)

abbrev pub ended_paths : {T : Type 0} → List Text → Vec Path T → Both (List (List Text)) (Unit {0})
ended_paths words paths = both (all_paths words paths) tt

abbrev pub optional_selection : Reader (Option SelectionTree)
optional_selection = maybe (is_front (codes "(")) selection

-- behind $dumpvars
abbrev pub dump_vars_at : Reader StatementTree
dump_vars_at = map_tree dump_vars_of (pair optional_selection (word_only (codes ";")))

-- what is printed
abbrev pub all_arguments : {T : Type 0} → List Text → Vec Argument T → List ArgumentTree
all_arguments words arguments = map (argument_tree words) arguments.items

-- an argument that isn't left out
abbrev pub argument_kind : Either Text ExpressionTree → ArgumentTree
argument_kind parts = argument_of (Some parts)

abbrev pub some_argument : ℕ → Reader ArgumentTree
some_argument below = map_tree argument_kind (either (is_word is_string) (word_as (meant_if is_string)) (value below))

-- the arguments with the first one
abbrev pub arguments_behind : ℕ → ArgumentTree → Reader (List ArgumentTree)
arguments_behind below one =
    turns (one_behind (λ list. past (codes ",") (argument below))) (is_front (codes ",")) (one ∷ [])

-- behind the parenthesis
abbrev pub arguments_within : ℕ → Reader (List ArgumentTree)
arguments_within below = all_until (codes ")") (argument below)

-- what may be left out
abbrev pub optional_delay_tree : List Text → Option Delay → Option DelayTree
optional_delay_tree words amount = option_map (delay_tree words) amount

abbrev pub optional_selection_tree : List Text → Option Selection → Option SelectionTree
optional_selection_tree words selected = option_map (selection_tree words) selected

-- The tokens that are kept of what is read

-- of a word that is kept, and of one that is told by what it means
abbrev pub word_leaves : Token → List Token
word_leaves word = word ∷ []

abbrev pub no_leaves : {A : Type 0} → A → List Token
no_leaves meant = []

-- of lists
abbrev pub all_target_leaves : {T : Type 0} → Vec Target T → List Token
all_target_leaves targets = flat_map target_leaves targets.items

abbrev pub all_further_leaves : {T : Type 0} → Vec FurtherWords T → List Token
all_further_leaves further = flat_map further_leaves further.items

abbrev pub all_statement_leaves : {T : Type 0} → Vec Statement T → List Token
all_statement_leaves statements = flat_map statement_leaves statements.items

abbrev pub all_name_leaves : {T : Type 0} → Vec Token T → List Token
all_name_leaves names = names.items

abbrev pub all_path_leaves : {T : Type 0} → Vec Path T → List Token
all_path_leaves paths = flat_map path_leaves paths.items

abbrev pub all_argument_leaves : {T : Type 0} → Vec Argument T → List Token
all_argument_leaves arguments = flat_map argument_leaves arguments.items

-- of what a for writes, and of the names whose changes are waited for
abbrev pub setting_leaves : Setting → List Token
setting_leaves setting = pair_leaves setting.target setting.value

abbrev pub names_leaves : Names → List Token
names_leaves names = term_leaves names.term ++ all_further_leaves names.further
