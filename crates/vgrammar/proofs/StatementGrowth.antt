-- With three levels more: what was read as a statement or refused for good stays so, and a word that was refused for
-- want of levels is passed.
use Rattle.std.proofs.Common.{◌≡◌, ℕ, zero, suc, ◌<◌, ◌≤◌, Bool, true, false, ◌||◌, not, nat_le, if◌then◌else◌, List, [], ◌∷◌, Option, None, Some, length, refl, arith, codes}
use Rattle.basis.proofs.Numbers.{one_within}
use Rattle.vwords.specs.Words.{Text, is_name, is_number, is_string}
use Rattle.vast.specs.Expressions.{ExpressionTree}
use Rattle.vast.specs.Statements.{StatementTree, BranchTree, DelayTree, forever}
use Rattle.vast.specs.declared.statement.Printing.TheVariants as printing
use Rattle.vexpr_parse.specs.Readers.{got, Reader, front, is_front, goes, refused, lower, follow, by_word, room, choose}
use Rattle.vexpr_parse.specs.Lawful.{rest_of}
use Rattle.vexpr_parse.proofs.ReaderRules.{IsLead}
use Rattle.vexpr_parse.proofs.Grows.{Keeps, got_keep, LeadKeeps, led_keep, Grows, LeadGrows, led_grows}
use Rattle.vgrammar.specs.declared.start.StatementStart.{StatementStart}
use Rattle.vgrammar.specs.declared.start.StatementStart.TheVariants as start
use Rattle.vgrammar.specs.Parts.{Both, both, map_tree, pair, word_as, maybe, roomy}
use Rattle.vgrammar.specs.Starts.{start_of, begins_target, is_target, is_some_meaning, meant_if, sign_of}
use Rattle.vgrammar.specs.Statements.{value, word_only, optional_delay, assignment_of, assignment_parts, assignment, target_lead, target, guard_then, if_of, guarded_of, setting, for_of, delayed_of, event_body_of, block_of, has_default, branch_of, default_branch, branch, case_parts_of, case_parts, arguments, print_of, optional_print_of, idle_of, dump_file_of, dump_vars_of, dump_of, end_of, trigger_of, statement_by, lead_by, statement, ends_statement, block_name}
use Rattle.vgrammar.proofs.PartPhrases.{arguments_inner_phrase, arguments_phrase}
use Rattle.vgrammar.proofs.StatementPhrases.{signed_phrase, assignment_phrase}
use Rattle.vgrammar.proofs.StatementLevels.{statement_phrase, statement_leads}
use Rattle.vgrammar.proofs.Growth.{up, some_left, made_keep, Growth, phrase_keep, past_growth, made_growth, linked_growth, paired_growth, worded_growth, RisesWhere, choose_growth, either_growth, maybe_growth, maybe_growth_where, many_growth, OpenLead, open_keeps, lead_open, room_open, room_rises, room_keep, roomy_rises, roomy_keep, past_passes, then_passes, open_passes}
use Rattle.vgrammar.proofs.PartGrowth.{value_growth, only_growth, comma_growth, target_open, target_growth, amount_growth, optional_delay_growth, control_growth, arguments_growth, selection_growth}

-- the lead of a word that begins a statement is open where a level is left
statement_open : (n : ℕ) → nat_le 1 n ≡ true → (kind : StatementStart) → OpenLead (statement_by n (statement n) kind)
statement_open n level start.Empty = lead_open ends_statement _ (statement_leads n start.Empty)
statement_open n level start.Begin = lead_open ends_statement _ (statement_leads n start.Begin)
statement_open n level start.Trigger = room_open ends_statement n _ level (statement_leads n start.Trigger)
statement_open n level start.If = room_open ends_statement n _ level (statement_leads n start.If)
statement_open n level (start.Case kind) = room_open ends_statement n _ level (statement_leads n (start.Case kind))
statement_open n level (start.Guarded kind) = room_open ends_statement n _ level (statement_leads n (start.Guarded kind))
statement_open n level start.Forever = room_open ends_statement n _ level (statement_leads n start.Forever)
statement_open n level start.For = room_open ends_statement n _ level (statement_leads n start.For)
statement_open n level start.Delay = room_open ends_statement n _ level (statement_leads n start.Delay)
statement_open n level start.Event = room_open ends_statement n _ level (statement_leads n start.Event)
statement_open n level (start.Print (printing.Display base)) = lead_open ends_statement _
    (statement_leads n (start.Print (printing.Display base)))
statement_open n level (start.Print (printing.Write base)) = lead_open ends_statement _
    (statement_leads n (start.Print (printing.Write base)))
statement_open n level (start.Print (printing.Strobe base)) = lead_open ends_statement _
    (statement_leads n (start.Print (printing.Strobe base)))
statement_open n level (start.Idle kind) = lead_open ends_statement _ (statement_leads n (start.Idle kind))
statement_open n level (start.Print (printing.Monitor base)) = room_open ends_statement n _ level
    (statement_leads n (start.Print (printing.Monitor base)))
statement_open n level start.DumpFile = room_open ends_statement n _ level (statement_leads n start.DumpFile)
statement_open n level start.DumpVars = lead_open ends_statement _ (statement_leads n start.DumpVars)
statement_open n level (start.Dump kind) = lead_open ends_statement _ (statement_leads n (start.Dump kind))
statement_open n level (start.End kind) = lead_open ends_statement _ (statement_leads n (start.End kind))

-- an assignment passes the word that begins its target

target_passes : (below : ℕ) → nat_le 1 below ≡ true → (words : List Text) → is_target (front words) ≡ true →
    length (rest_of (target (suc below) words)) < length words
unfolding target
target_passes below level [] is = let no : false ≡ true = is in absurd cc
target_passes below level (word ∷ words) is = open_passes (target_lead below (target below) word)
    (target_open below level word is) word words

assignment_passes : (below : ℕ) → nat_le 1 below ≡ true → (words : List Text) → is_target (front words) ≡ true →
    length (rest_of (assignment (suc below) words)) < length words
assignment_passes below level words is =
    then_passes (assignment_parts (suc below) words) (λ t. got (assignment_of t)) (length words)
    (then_passes (target (suc below) words) (λ t. map_tree (both t) (signed_part (suc below))) (length words)
    (target_passes below level words is)
    (λ t. made_keep (both t) (signed_part (suc below)) (phrase_keep (signed_phrase (suc below) (one_within below)))))
    (λ t. got_keep (assignment_of t))
  where
    signed_part : (n : ℕ) → Reader (Both Bool (Both (Option DelayTree) (Both ExpressionTree (Unit {0}))))
    signed_part n = pair (word_as sign_of) (pair (optional_delay n) (pair (value n) (word_only (codes ";"))))

assignment_keep : (below : ℕ) → Keeps (assignment (suc below))
assignment_keep below =
    made_keep assignment_of (assignment_parts (suc below)) (phrase_keep (assignment_phrase (suc below) (one_within below)))

assignment_growth : (below : ℕ) → nat_le 1 below ≡ true → Growth (assignment below) (assignment (up below))
assignment_growth below level =
    made_growth assignment_of (paired_growth (target_growth below) (paired_growth (worded_growth sign_of)
    (paired_growth (optional_delay_growth below level) (paired_growth (value_growth below level) (only_growth (codes ";"))))))

-- With a statement of a level less, and one of three levels more

module _ (below : ℕ) (g : Growth (statement below) (statement (up below))) where
  abbrev read : Reader StatementTree
  read = statement below

  abbrev more : Reader StatementTree
  more = statement (up below)

  guarded_growth : {A : Type 0} → nat_le 1 below ≡ true → {r m : Reader A} → Growth r m →
      Growth (guard_then below r) (guard_then (up below) m)
  guarded_growth level h = past_growth (codes "(") (paired_growth (value_growth below level) (past_growth (codes ")") h))

  setting_growth : nat_le 1 below ≡ true → Growth (setting below) (setting (up below))
  setting_growth level = paired_growth (target_growth below) (past_growth (codes "=") (value_growth below level))

  default_growth : (seen : Bool) → Growth (default_branch read seen) (default_branch more seen)
  default_growth true = record { rises = λ words. refl; keep = λ words. no_more (length words) }
    where
      no_more : (n : ℕ) → n ≤ n
      no_more n = omega arith
  default_growth false =
      past_growth (codes "default") (paired_growth (maybe_growth (is_front (codes ":")) (only_growth (codes ":"))) g)

  branch_growth : nat_le 1 below ≡ true → (list : List BranchTree) → Growth (branch below read list) (branch (up below) more list)
  branch_growth level list =
      made_growth branch_of (either_growth (is_front (codes "default")) (default_growth (has_default list))
      (paired_growth (comma_growth (value_growth below level)) (past_growth (codes ":") g)))

  case_growth : nat_le 1 below ≡ true → Growth (case_parts below read) (case_parts (up below) more)
  case_growth level =
      guarded_growth level
      (paired_growth (linked_growth (branch_growth level [])
      (λ one. many_growth (λ next. not (is_front (codes "endcase") next))
      (λ list. branch_growth level (one ∷ list)))) (only_growth (codes "endcase")))

  optional_growth : {A : Type 0} {r m : Reader (Option A)} → Growth r m →
      Growth (pair r (word_only (codes ";"))) (pair m (word_only (codes ";")))
  optional_growth h = paired_growth h (only_growth (codes ";"))

  arguments_rise : RisesWhere (is_front (codes "(")) (roomy below 1 (arguments below)) (roomy (up below) 1 (arguments (up below)))
  arguments_rise =
      roomy_rises (is_front (codes "(")) below (arguments below) (arguments (up below))
      (λ level. (arguments_growth below level).rises)
      (past_passes (codes "(") _ (phrase_keep (arguments_inner_phrase (up below) (some_left below))))

  optional_arguments : Growth (maybe (is_front (codes "(")) (roomy below 1 (arguments below)))
      (maybe (is_front (codes "(")) (roomy (up below) 1 (arguments (up below))))
  optional_arguments =
      maybe_growth_where (is_front (codes "(")) (roomy below 1 (arguments below))
      (roomy (up below) 1 (arguments (up below))) arguments_rise
      (roomy_keep (up below) (arguments (up below)) (phrase_keep (arguments_phrase (up below) (some_left below))))

  -- what a word begins that stands round others
  rising : {r m : Reader StatementTree} → IsLead ends_statement (room (up below) 1 (goes m)) →
      (nat_le 1 below ≡ true → Growth r m) →
      LeadGrows (room below 1 (goes r)) (room (up below) 1 (goes m))
  rising {r = r} {m = m} l h = room_rises below r m (λ level. (h level).rises)
      (room_keep ends_statement (up below) m (some_left below) l)

  block_name_growth : Growth block_name block_name
  block_name_growth = maybe_growth (is_front (codes ":")) (past_growth (codes ":") (worded_growth (meant_if is_name)))

  leads_rise : (kind : StatementStart) → LeadGrows (statement_by below read kind) (statement_by (up below) more kind)
  leads_rise start.Empty = λ words. refl
  leads_rise start.Begin =
      (made_growth block_of (paired_growth block_name_growth
      (paired_growth (many_growth (λ next. not (is_front (codes "end") next)) (λ list. g)) (only_growth (codes "end"))))).rises
  leads_rise start.Trigger = rising (statement_leads (up below) start.Trigger)
      (λ level. made_growth trigger_of (paired_growth (worded_growth (meant_if is_name))
      (only_growth (codes ";"))))
  leads_rise start.If = rising (statement_leads (up below) start.If)
      (λ level. made_growth if_of (guarded_growth level (paired_growth g (maybe_growth (is_front (codes "else"))
      (past_growth (codes "else") g)))))
  leads_rise (start.Case kind) = rising (statement_leads (up below) (start.Case kind))
      (λ level. made_growth (case_parts_of kind) (case_growth level))
  leads_rise (start.Guarded kind) = rising (statement_leads (up below) (start.Guarded kind))
      (λ level. made_growth (guarded_of kind) (guarded_growth level g))
  leads_rise start.Forever = rising (statement_leads (up below) start.Forever) (λ level. made_growth forever g)
  leads_rise start.For = rising (statement_leads (up below) start.For)
      (λ level. made_growth for_of (past_growth (codes "(") (paired_growth (setting_growth level)
      (past_growth (codes ";")
      (paired_growth (value_growth below level) (past_growth (codes ";") (paired_growth (setting_growth level)
      (past_growth (codes ")") g))))))))
  leads_rise start.Delay = rising (statement_leads (up below) start.Delay)
      (λ level. made_growth delayed_of (paired_growth (amount_growth below level) g))
  leads_rise start.Event = rising (statement_leads (up below) start.Event)
      (λ level. made_growth event_body_of (paired_growth control_growth g))
  leads_rise (start.Print (printing.Display base)) =
      (made_growth (optional_print_of (printing.Display base)) (optional_growth optional_arguments)).rises
  leads_rise (start.Print (printing.Write base)) =
      (made_growth (optional_print_of (printing.Write base)) (optional_growth optional_arguments)).rises
  leads_rise (start.Print (printing.Strobe base)) =
      (made_growth (optional_print_of (printing.Strobe base)) (optional_growth optional_arguments)).rises
  leads_rise (start.Idle kind) = (made_growth (idle_of kind) (optional_growth optional_arguments)).rises
  leads_rise (start.Print (printing.Monitor base)) = rising (statement_leads (up below) (start.Print (printing.Monitor base)))
      (λ level. made_growth (print_of (printing.Monitor base))
      (paired_growth (arguments_growth below level) (only_growth (codes ";"))))
  leads_rise start.DumpFile = rising (statement_leads (up below) start.DumpFile)
      (λ level. made_growth dump_file_of (past_growth (codes "(")
      (paired_growth (worded_growth (meant_if is_string)) (past_growth (codes ")") (only_growth (codes ";"))))))
  leads_rise start.DumpVars =
      (made_growth dump_vars_of (optional_growth (maybe_growth (is_front (codes "(")) selection_growth))).rises
  leads_rise (start.Dump kind) = (made_growth (dump_of kind) (only_growth (codes ";"))).rises
  leads_rise (start.End kind) =
      (made_growth (end_of kind) (optional_growth (maybe_growth (is_front (codes "(")) (past_growth (codes "(")
      (paired_growth (worded_growth (meant_if is_number)) (only_growth (codes ")"))))))).rises

  starts_rise : (o : Option StatementStart) → LeadGrows (lead_by below read o) (lead_by (up below) more o)
  starts_rise None = tt
  starts_rise (Some kind) = leads_rise kind

  starts_keep : (o : Option StatementStart) → LeadKeeps (lead_by (up below) more o)
  starts_keep None = tt
  starts_keep (Some kind) = open_keeps (statement_by (up below) more kind) (statement_open (up below) (some_left below) kind)

  assignment_rises : RisesWhere is_target (roomy below 1 (assignment below)) (roomy (up below) 1 (assignment (up below)))
  assignment_rises =
      roomy_rises is_target below (assignment below) (assignment (up below)) (λ level. (assignment_growth below level).rises)
      (assignment_passes (suc (suc below)) (one_within (suc below)))

  reading_growth : Growth (choose is_target (roomy below 1 (assignment below)) (by_word (λ word. lead_by below read (start_of word))))
      (choose is_target (roomy (up below) 1 (assignment (up below))) (by_word (λ word. lead_by (up below) more (start_of word))))
  reading_growth =
      choose_growth is_target (roomy below 1 (assignment below)) (roomy (up below) 1 (assignment (up below))) assignment_rises
      (roomy_keep (up below) (assignment (up below)) (assignment_keep (suc (suc below))))
      (record {
        rises = led_grows (λ word. lead_by below read (start_of word)) (λ word. lead_by (up below) more (start_of word))
            (λ word. starts_rise (start_of word));
        keep = led_keep (λ word. lead_by (up below) more (start_of word)) (λ word. starts_keep (start_of word));
      })

-- where no level is left
none_rise : (words : List Text) → Grows (statement 0 words) (statement (up 0) words)
unfolding statement
none_rise [] = refl
none_rise (word ∷ words) = by_tests (begins_target word) refl (start_of word)
  where
    by_tests : (a : Bool) → begins_target word ≡ a → (o : Option StatementStart) →
        Grows (follow (if a || is_some_meaning o then lower else refused) word words)
        (if a then roomy 2 1 (assignment 2) (word ∷ words) else follow (lead_by 2 (statement 2) o) word words)
    by_tests true is o = assignment_passes 1 refl (word ∷ words) is
    by_tests false is None = refl
    by_tests false is (Some kind) = open_passes (statement_by 2 (statement 2) kind) (statement_open 2 refl kind) word words

rising_growth : (n : ℕ) → ((words : List Text) → Grows (statement n words) (statement (up n) words)) →
    Growth (statement n) (statement (up n))
rising_growth n rises = record { rises = rises; keep = phrase_keep (statement_phrase (up n)) }

pub statement_grows : (n : ℕ) (words : List Text) → Grows (statement n words) (statement (up n) words)
unfolding statement
statement_grows zero words = none_rise words
statement_grows (suc below) words = (reading_growth below (rising_growth below (statement_grows below))).rises words

pub statement_growth : (n : ℕ) → Growth (statement n) (statement (up n))
statement_growth n = rising_growth n (statement_grows n)
