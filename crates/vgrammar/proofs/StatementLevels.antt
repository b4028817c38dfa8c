-- Statements of one level and of more: what is read is what its words say.
use Rattle.std.proofs.Common.{◌≡◌, ℕ, zero, suc, ◌+◌, ◌<◌, Bool, true, false, ◌&&◌, max, nat_le, if◌then◌else◌, List, [], ◌∷◌, ◌++◌, Option, None, Some, length, refl, sym, ap, ◌∙◌, arith, inl, inr, subst, append_assoc, codes}
use Rattle.std.proofs.lemmas.Bool.{cases_Bool}
use Rattle.std.proofs.lemmas.Bool.Decides.{nat_tests}
use Rattle.basis.proofs.Bools.{and_left, and_right, or_left, or_right, or_first, clash}
use Rattle.basis.proofs.Numbers.{one_within}
use Rattle.vwords.specs.Words.{Text, is_name, is_string, reserved_words}
use Rattle.vast.specs.Expressions.{ExpressionTree, fits_expression, depth}
use Rattle.vast.specs.Statements.{TargetTree, whole, bit, part, joined, TaskTree, print, idle, dump_file, dump_vars, dump, end_run, StatementTree, empty, block, assign, nonblocking, trigger, if_true, if_else, case_of, while_true, repeat_times, forever, for_loop, wait_for, delay, event, task, StatementTrees, no_statement, first_statement, BranchTree, BranchTrees, no_branch, first_branch, spell_target, spell_statement, target_depth, statement_depth, fits_target, fits_statement}
use Rattle.vwords.specs.declared.cases.CaseKind.TheVariants as case_kind
use Rattle.vast.specs.declared.statement.Base.TheVariants as bases
use Rattle.vast.specs.declared.statement.Printing.TheVariants as printing
use Rattle.vast.specs.declared.statement.Idle.TheVariants as idles
use Rattle.vast.specs.declared.statement.Dumping.TheVariants as dumping
use Rattle.vast.proofs.ExpressionLemmas.{depth_positive}
use Rattle.vexpr_parse.specs.declared.stop.Stop.TheVariants.{NoTree, TooDeep}
use Rattle.vexpr_parse.specs.Readers.{got, stop, Reader, front, is_front, Lead, goes, refused, lower, follow, by_word, room, choose}
use Rattle.vexpr_parse.specs.Lawful.{Lawful}
use Rattle.vexpr_parse.proofs.ReaderRules.{chosen, passed_over, same_text, stop_got, got_rule, IsLead, led_sees}
use Rattle.vexpr_parse.proofs.ReaderLoops.{lead_if, lead_room, choose_sees}
use Rattle.vgrammar.specs.declared.start.Guard.{Guard}
use Rattle.vgrammar.specs.declared.start.Guard.TheVariants as guard
use Rattle.vgrammar.specs.declared.start.StatementStart.{StatementStart}
use Rattle.vgrammar.specs.declared.start.StatementStart.TheVariants as start
use Rattle.vgrammar.specs.Parts.{both, map_tree, roomy}
use Rattle.vgrammar.specs.Starts.{start_word, statement_starts, start_of, begins_target, is_target, is_some_meaning}
use Rattle.vgrammar.specs.Statements.{Assignment, assignment_of, assignment_parts, assignment, if_of, guarded_of, for_of, delayed_of, event_body_of, statements_in, block_of, block_parts, branches_in, case_parts_of, case_parts, print_of, optional_print_of, idle_of, dump_file_of, dump_vars_of, dump_of, end_of, trigger_of, statement_by, lead_by, begins_statement, statement, ends_statement}
use Rattle.vgrammar.proofs.Phrases.{Shape, Sound, Phrase, Makes, always, sound_eats, phrase_within, made_lawful, made_sound, made_complete, same_got}
use Rattle.vgrammar.proofs.PhraseChoices.{Tested}
use Rattle.vgrammar.proofs.PhraseLeads.{LeadSound, led_sound, if_sound, room_sound, made_lead_sound, made_lead, roomy_lead}
use Rattle.vgrammar.proofs.LevelFacts.{one_up, larger_two, two_up, some_level}
use Rattle.vgrammar.proofs.ValuePhrases.{only_phrase, only_example}
use Rattle.vgrammar.proofs.TargetPhrases.{target_deep}
use Rattle.vgrammar.proofs.WordPhrases.{as_written, refused_first}
use Rattle.vgrammar.proofs.PartPhrases.{selection_shape}
use Rattle.vgrammar.proofs.StatementShapes.{closes_statement, statement_shape, statement_closed, statement_worded, statement_deep}
use Rattle.vgrammar.proofs.StatementPhrases as parts
use Rattle.vgrammar.proofs.CasePhrases as cases
use Rattle.vgrammar.proofs.TaskPhrases as tasks

-- What words begin

pub start_told : (word : Text) (kind : StatementStart) → start_of word ≡ Some kind → start_word kind ≡ word
unfolding start_of
start_told word kind e = as_written start_word statement_starts word kind e

pub start_found : (kind : StatementStart) → start_of (start_word kind) ≡ Some kind
unfolding start_of
start_found start.Empty = refl
start_found start.Begin = refl
start_found start.Trigger = refl
start_found start.If = refl
start_found (start.Case case_kind.Exact) = refl
start_found (start.Case case_kind.Z) = refl
start_found (start.Case case_kind.X) = refl
start_found (start.Guarded guard.While) = refl
start_found (start.Guarded guard.Repeat) = refl
start_found (start.Guarded guard.Wait) = refl
start_found start.Forever = refl
start_found start.For = refl
start_found start.Delay = refl
start_found start.Event = refl
start_found (start.Print (printing.Display bases.Decimal)) = refl
start_found (start.Print (printing.Display bases.Binary)) = refl
start_found (start.Print (printing.Display bases.Octal)) = refl
start_found (start.Print (printing.Display bases.Hexadecimal)) = refl
start_found (start.Print (printing.Write bases.Decimal)) = refl
start_found (start.Print (printing.Write bases.Binary)) = refl
start_found (start.Print (printing.Write bases.Octal)) = refl
start_found (start.Print (printing.Write bases.Hexadecimal)) = refl
start_found (start.Print (printing.Strobe bases.Decimal)) = refl
start_found (start.Print (printing.Strobe bases.Binary)) = refl
start_found (start.Print (printing.Strobe bases.Octal)) = refl
start_found (start.Print (printing.Strobe bases.Hexadecimal)) = refl
start_found (start.Print (printing.Monitor bases.Decimal)) = refl
start_found (start.Print (printing.Monitor bases.Binary)) = refl
start_found (start.Print (printing.Monitor bases.Octal)) = refl
start_found (start.Print (printing.Monitor bases.Hexadecimal)) = refl
start_found (start.Idle (idles.File (printing.Display bases.Decimal))) = refl
start_found (start.Idle (idles.File (printing.Display bases.Binary))) = refl
start_found (start.Idle (idles.File (printing.Display bases.Octal))) = refl
start_found (start.Idle (idles.File (printing.Display bases.Hexadecimal))) = refl
start_found (start.Idle (idles.File (printing.Write bases.Decimal))) = refl
start_found (start.Idle (idles.File (printing.Write bases.Binary))) = refl
start_found (start.Idle (idles.File (printing.Write bases.Octal))) = refl
start_found (start.Idle (idles.File (printing.Write bases.Hexadecimal))) = refl
start_found (start.Idle (idles.File (printing.Strobe bases.Decimal))) = refl
start_found (start.Idle (idles.File (printing.Strobe bases.Binary))) = refl
start_found (start.Idle (idles.File (printing.Strobe bases.Octal))) = refl
start_found (start.Idle (idles.File (printing.Strobe bases.Hexadecimal))) = refl
start_found (start.Idle (idles.File (printing.Monitor bases.Decimal))) = refl
start_found (start.Idle (idles.File (printing.Monitor bases.Binary))) = refl
start_found (start.Idle (idles.File (printing.Monitor bases.Octal))) = refl
start_found (start.Idle (idles.File (printing.Monitor bases.Hexadecimal))) = refl
start_found (start.Idle idles.Open) = refl
start_found (start.Idle idles.Close) = refl
start_found (start.Idle idles.Flush) = refl
start_found (start.Idle idles.TimeFormat) = refl
start_found (start.Idle idles.PrintTimescale) = refl
start_found start.DumpFile = refl
start_found start.DumpVars = refl
start_found (start.Dump dumping.On) = refl
start_found (start.Dump dumping.Off) = refl
start_found (start.Dump dumping.All) = refl
start_found (start.Dump dumping.Flush) = refl
start_found (start.End true) = refl
start_found (start.End false) = refl

no_target : (kind : StatementStart) → begins_target (start_word kind) ≡ false
unfolding begins_target reserved_words
no_target start.Empty = refl
no_target start.Begin = refl
no_target start.Trigger = refl
no_target start.If = refl
no_target (start.Case case_kind.Exact) = refl
no_target (start.Case case_kind.Z) = refl
no_target (start.Case case_kind.X) = refl
no_target (start.Guarded guard.While) = refl
no_target (start.Guarded guard.Repeat) = refl
no_target (start.Guarded guard.Wait) = refl
no_target start.Forever = refl
no_target start.For = refl
no_target start.Delay = refl
no_target start.Event = refl
no_target (start.Print (printing.Display bases.Decimal)) = refl
no_target (start.Print (printing.Display bases.Binary)) = refl
no_target (start.Print (printing.Display bases.Octal)) = refl
no_target (start.Print (printing.Display bases.Hexadecimal)) = refl
no_target (start.Print (printing.Write bases.Decimal)) = refl
no_target (start.Print (printing.Write bases.Binary)) = refl
no_target (start.Print (printing.Write bases.Octal)) = refl
no_target (start.Print (printing.Write bases.Hexadecimal)) = refl
no_target (start.Print (printing.Strobe bases.Decimal)) = refl
no_target (start.Print (printing.Strobe bases.Binary)) = refl
no_target (start.Print (printing.Strobe bases.Octal)) = refl
no_target (start.Print (printing.Strobe bases.Hexadecimal)) = refl
no_target (start.Print (printing.Monitor bases.Decimal)) = refl
no_target (start.Print (printing.Monitor bases.Binary)) = refl
no_target (start.Print (printing.Monitor bases.Octal)) = refl
no_target (start.Print (printing.Monitor bases.Hexadecimal)) = refl
no_target (start.Idle (idles.File (printing.Display bases.Decimal))) = refl
no_target (start.Idle (idles.File (printing.Display bases.Binary))) = refl
no_target (start.Idle (idles.File (printing.Display bases.Octal))) = refl
no_target (start.Idle (idles.File (printing.Display bases.Hexadecimal))) = refl
no_target (start.Idle (idles.File (printing.Write bases.Decimal))) = refl
no_target (start.Idle (idles.File (printing.Write bases.Binary))) = refl
no_target (start.Idle (idles.File (printing.Write bases.Octal))) = refl
no_target (start.Idle (idles.File (printing.Write bases.Hexadecimal))) = refl
no_target (start.Idle (idles.File (printing.Strobe bases.Decimal))) = refl
no_target (start.Idle (idles.File (printing.Strobe bases.Binary))) = refl
no_target (start.Idle (idles.File (printing.Strobe bases.Octal))) = refl
no_target (start.Idle (idles.File (printing.Strobe bases.Hexadecimal))) = refl
no_target (start.Idle (idles.File (printing.Monitor bases.Decimal))) = refl
no_target (start.Idle (idles.File (printing.Monitor bases.Binary))) = refl
no_target (start.Idle (idles.File (printing.Monitor bases.Octal))) = refl
no_target (start.Idle (idles.File (printing.Monitor bases.Hexadecimal))) = refl
no_target (start.Idle idles.Open) = refl
no_target (start.Idle idles.Close) = refl
no_target (start.Idle idles.Flush) = refl
no_target (start.Idle idles.TimeFormat) = refl
no_target (start.Idle idles.PrintTimescale) = refl
no_target start.DumpFile = refl
no_target start.DumpVars = refl
no_target (start.Dump dumping.On) = refl
no_target (start.Dump dumping.Off) = refl
no_target (start.Dump dumping.All) = refl
no_target (start.Dump dumping.Flush) = refl
no_target (start.End true) = refl
no_target (start.End false) = refl

target_begins : (tree : TargetTree) → fits_target tree ≡ true → (rest : List Text) →
    is_target (front (spell_target tree ++ rest)) ≡ true
unfolding begins_target
target_begins (whole letters) v rest = or_first (is_name letters) _ v
target_begins (bit letters index) v rest = or_first (is_name letters) _ (and_left (is_name letters) _ v)
target_begins (part letters left right) v rest = or_first (is_name letters) _
    (and_left (is_name letters) _ (and_left _ (fits_expression right) v))
target_begins (joined targets) v rest = refl

-- lists of trees

statements_of : StatementTrees → List StatementTree
statements_of no_statement = []
statements_of (first_statement tree more) = tree ∷ statements_of more

statements_back : (trees : StatementTrees) → statements_in (statements_of trees) ≡ trees
unfolding statements_of
statements_back no_statement = refl
statements_back (first_statement tree more) = ap (first_statement tree) (statements_back more)

branches_of : BranchTrees → List BranchTree
branches_of no_branch = []
branches_of (first_branch tree more) = tree ∷ branches_of more

branches_back : (trees : BranchTrees) → branches_in (branches_of trees) ≡ trees
unfolding branches_of
branches_back no_branch = refl
branches_back (first_branch tree more) = ap (first_branch tree) (branches_back more)

-- With a statement of a level less

module _ (below : ℕ) (read : Reader StatementTree) (p : Phrase read ends_statement (statement_shape below))
    (no_end : Tested (is_front (codes "end")) false (statement_shape below))
    (no_else : Tested (is_front (codes "else")) false (statement_shape below))
    (no_colon : Tested (is_front (codes ":")) false (statement_shape below)) where
  abbrev Out : Shape StatementTree
  Out = statement_shape (suc below)

  abbrev lead : Text → Lead StatementTree
  lead word = lead_by below read (start_of word)

  abbrev reading : Reader StatementTree
  reading = choose is_target (roomy below 1 (assignment below)) (by_word lead)

  loose : {A : Type 0} {r : Reader A} {s : Shape A} → Phrase r always s → Phrase r ends_statement s
  loose q = phrase_within ends_statement q (λ next e. refl)

  worded : (tree : StatementTree) → (statement_shape below).valid tree ≡ true → 0 < length (spell_statement tree)
  worded tree v = statement_worded tree

  block_phrase : Phrase (block_parts read) ends_statement (parts.block_shape below read p)
  block_phrase = loose (parts.block_phrase below read p worded no_end no_else no_colon)

  case_phrase : (level : nat_le 1 below ≡ true) →
      Phrase (case_parts below read) ends_statement (cases.case_shape below level read p worded no_colon)
  case_phrase level = loose (cases.case_phrase below level read p worded no_colon)

  pub leads_by : (kind : StatementStart) → IsLead ends_statement (statement_by below read kind)
  leads_by start.Empty = ((got_rule empty ends_statement).lawful, ([], (empty, λ rest e. refl)))
  leads_by start.Begin = made_lead block_of block_phrase (parts.block_example below read p)
  leads_by start.Trigger = lead_room ends_statement below 1 _
      (λ level. made_lead trigger_of (loose (parts.trigger_phrase below level))
      (parts.trigger_example below level))
  leads_by start.If = lead_room ends_statement below 1 _ (λ level. made_lead if_of (parts.if_phrase below read p level)
      (parts.if_example below read p level))
  leads_by (start.Case kind) = lead_room ends_statement below 1 _ (λ level. made_lead (case_parts_of kind) (case_phrase level)
      (cases.case_example below level read p worded no_colon))
  leads_by (start.Guarded kind) = lead_room ends_statement below 1 _
      (λ level. made_lead (guarded_of kind) (parts.loop_phrase below read p level)
      (parts.loop_example below read p level))
  leads_by start.Forever = lead_room ends_statement below 1 _
      (λ level. made_lead forever p (parts.inner_example below read p level))
  leads_by start.For = lead_room ends_statement below 1 _ (λ level. made_lead for_of (parts.for_phrase below read p level)
      (parts.for_example below read p level))
  leads_by start.Delay = lead_room ends_statement below 1 _
      (λ level. made_lead delayed_of (parts.delayed_phrase below read p level)
      (parts.delayed_example below read p level))
  leads_by start.Event = lead_room ends_statement below 1 _
      (λ level. made_lead event_body_of (parts.event_phrase below read p level)
      (parts.event_example below read p level))
  leads_by (start.Print (printing.Display base)) = made_lead (optional_print_of (printing.Display base))
      (loose (tasks.optional_print_phrase below))
      (tasks.optional_example (tasks.Arg below))
  leads_by (start.Print (printing.Write base)) = made_lead (optional_print_of (printing.Write base))
      (loose (tasks.optional_print_phrase below))
      (tasks.optional_example (tasks.Arg below))
  leads_by (start.Print (printing.Strobe base)) = made_lead (optional_print_of (printing.Strobe base))
      (loose (tasks.optional_print_phrase below))
      (tasks.optional_example (tasks.Arg below))
  leads_by (start.Print (printing.Monitor base)) = lead_room ends_statement below 1 _ (λ level. made_lead (print_of (printing.Monitor base))
      (loose (tasks.print_phrase below level)) (tasks.print_example below level))
  leads_by (start.Idle kind) = made_lead (idle_of kind) (loose (tasks.optional_print_phrase below)) (tasks.optional_example (tasks.Arg below))
  leads_by start.DumpFile = lead_room ends_statement below 1 _
      (λ level. made_lead dump_file_of (loose (tasks.dump_file_phrase below))
      (tasks.dump_file_example below))
  leads_by start.DumpVars = made_lead dump_vars_of (loose (tasks.dump_vars_phrase below)) (tasks.optional_example selection_shape)
  leads_by (start.Dump kind) = made_lead (dump_of kind) (loose (only_phrase (codes ";"))) (only_example (codes ";"))
  leads_by (start.End kind) = made_lead (end_of kind) (loose (tasks.end_phrase below))
      (tasks.optional_example (tasks.number_shape below))

  leads : (word : Text) → IsLead ends_statement (lead word)
  leads word = by_start (start_of word)
    where
      by_start : (o : Option StatementStart) → IsLead ends_statement (lead_by below read o)
      by_start None = tt
      by_start (Some kind) = leads_by kind

  abbrev Sounds : StatementStart → Type 0
  Sounds kind = LeadSound Out (start_word kind) (statement_by below read kind)

  sound_by : (kind : StatementStart) → Sounds kind
  sound_by start.Empty = λ words tree left e. same_got Out (codes ";" ∷ words) empty tree words left e
      (record { whole = refl; valid = one_within below; stopped = refl })
  sound_by start.Begin = made_lead_sound block_of (codes "begin") Out (parts.block_makes below read p) block_phrase
  sound_by start.Trigger = room_sound Out (codes "->") below 1 _
      (λ level. made_lead_sound trigger_of (codes "->") Out (parts.trigger_makes below level) (parts.trigger_phrase below level))
  sound_by start.If = room_sound Out (codes "if") below 1 _
      (λ level. made_lead_sound if_of (codes "if") Out (parts.if_makes below read p) (parts.if_phrase below read p level))
  sound_by (start.Case kind) = room_sound Out (start_word (start.Case kind)) below 1 _
      (λ level. made_lead_sound (case_parts_of kind) (start_word (start.Case kind)) Out
      (cases.case_makes below level read p worded no_colon kind) (case_phrase level))
  sound_by (start.Guarded kind) = room_sound Out (start_word (start.Guarded kind)) below 1 _
      (λ level. made_lead_sound (guarded_of kind) (start_word (start.Guarded kind)) Out (parts.loop_makes below read p kind)
      (parts.loop_phrase below read p level))
  sound_by start.Forever = room_sound Out (codes "forever") below 1 _
      (λ level. made_lead_sound forever (codes "forever") Out (parts.forever_makes below read p) p)
  sound_by start.For = room_sound Out (codes "for") below 1 _
      (λ level. made_lead_sound for_of (codes "for") Out (parts.for_makes below read p) (parts.for_phrase below read p level))
  sound_by start.Delay = room_sound Out (codes "#") below 1 _
      (λ level. made_lead_sound delayed_of (codes "#") Out (parts.delayed_makes below read p)
      (parts.delayed_phrase below read p level))
  sound_by start.Event = room_sound Out (codes "@") below 1 _
      (λ level. made_lead_sound event_body_of (codes "@") Out (parts.event_makes below read p level)
      (parts.event_phrase below read p level))
  sound_by (start.Print (printing.Display base)) = made_lead_sound (optional_print_of (printing.Display base)) (start_word (start.Print (printing.Display base))) Out
      (tasks.optional_print_makes below (printing.Display base) refl) (tasks.optional_print_phrase below)
  sound_by (start.Print (printing.Write base)) = made_lead_sound (optional_print_of (printing.Write base)) (start_word (start.Print (printing.Write base))) Out
      (tasks.optional_print_makes below (printing.Write base) refl) (tasks.optional_print_phrase below)
  sound_by (start.Print (printing.Strobe base)) = made_lead_sound (optional_print_of (printing.Strobe base)) (start_word (start.Print (printing.Strobe base))) Out
      (tasks.optional_print_makes below (printing.Strobe base) refl) (tasks.optional_print_phrase below)
  sound_by (start.Print (printing.Monitor base)) = room_sound Out (start_word (start.Print (printing.Monitor base))) below 1 _
      (λ level. made_lead_sound (print_of (printing.Monitor base)) (start_word (start.Print (printing.Monitor base))) Out (tasks.print_makes below (printing.Monitor base))
      (tasks.print_phrase below level))
  sound_by (start.Idle kind) = made_lead_sound (idle_of kind) (start_word (start.Idle kind)) Out (tasks.idle_makes below kind)
      (tasks.optional_print_phrase below)
  sound_by start.DumpFile = room_sound Out (codes "$dumpfile") below 1 _
      (λ level. made_lead_sound dump_file_of (codes "$dumpfile") Out (tasks.dump_file_makes below level)
      (tasks.dump_file_phrase below))
  sound_by start.DumpVars = made_lead_sound dump_vars_of (codes "$dumpvars") Out (tasks.dump_vars_makes below)
      (tasks.dump_vars_phrase below)
  sound_by (start.Dump kind) = made_lead_sound (dump_of kind) (start_word (start.Dump kind)) Out (tasks.dump_makes below kind)
      (only_phrase (codes ";"))
  sound_by (start.End kind) = made_lead_sound (end_of kind) (start_word (start.End kind)) Out (tasks.end_makes below kind)
      (tasks.end_phrase below)

  leads_sound : (word : Text) → LeadSound Out word (lead word)
  leads_sound word = by_start (start_of word) (start_told word)
    where
      by_start : (o : Option StatementStart) → ((kind : StatementStart) → o ≡ Some kind → start_word kind ≡ word) →
          LeadSound Out word (lead_by below read o)
      by_start None told = tt
      by_start (Some kind) told = subst (λ w. LeadSound Out w (statement_by below read kind)) (told kind refl) (sound_by kind)

  -- assignments

  roomy_by : (b : Bool) → nat_le 1 below ≡ b → (Lawful (roomy below 1 (assignment below)) ends_statement)
      × (Sound (roomy below 1 (assignment below)) Out)
  roomy_by b is =
      let P : Bool → Type 0 = λ c.
      (Lawful {A = StatementTree} (λ words. if c then assignment below words else stop TooDeep words) ends_statement)
      × (Sound {A = StatementTree} (λ words. if c then assignment below words else stop TooDeep words) Out) in
      subst P (sym is) (by_room b is)
    where
      below_zero : (n : ℕ) → n < n → ⊥
      below_zero n e = omega (arith, e)

      by_room : (c : Bool) → nat_le 1 below ≡ c →
          (Lawful {A = StatementTree} (λ words. if c then assignment below words else stop TooDeep words) ends_statement)
          × (Sound {A = StatementTree} (λ words. if c then assignment below words else stop TooDeep words) Out)
      by_room true level = (
        made_lawful assignment_of (assignment_parts below) ends_statement (loose (parts.assignment_phrase below level)).lawful,
        made_sound assignment_of (assignment_parts below) _ Out [] (parts.assignment_makes below)
            (parts.assignment_phrase below level).sound,
      )
      by_room false e = (
        λ words. record { before = []; whole = refl; near = λ other f. refl; more = λ f. absurd (below_zero 0 f) },
        λ words tree left f. absurd (stop_got f),
      )

  assignment_laws : (Lawful (roomy below 1 (assignment below)) ends_statement) × (Sound (roomy below 1 (assignment below)) Out)
  assignment_laws = roomy_by (nat_le 1 below) refl

  reading_lawful : Lawful reading ends_statement
  reading_lawful words =
      choose_sees is_target (roomy below 1 (assignment below)) (by_word lead) ends_statement
      (λ tree ws is e. absurd
      (below_zero (length ws) (sound_eats (roomy below 1 (assignment below)) Out assignment_laws.1 all_worded ws tree ws is)))
      (λ tree ws is e. absurd
      (below_zero (length ws) (sound_eats (by_word lead) Out (led_sound lead Out leads_sound) all_worded ws tree ws is)))
      words (λ e. assignment_laws.0 words) (λ e. led_sees lead ends_statement leads words)
    where
      below_zero : (n : ℕ) → n < n → ⊥
      below_zero n e = omega (arith, e)

      all_worded : (tree : StatementTree) → Out.valid tree ≡ true → 0 < length (spell_statement tree)
      all_worded tree v = statement_worded tree

  reading_sound : Sound reading Out
  reading_sound words tree left e =
      elim (cases_Bool (is_target (front words))) [
        | inl holds ↦ assignment_laws.1 words tree left (sym (chosen (is_target (front words)) _ (by_word lead words) holds) ∙ e)
        | inr fails ↦ led_sound lead Out leads_sound words tree left
            (sym (passed_over (is_target (front words)) (roomy below 1 (assignment below) words) _ fails) ∙ e)
      ]

  -- Each tree is read

  abbrev Reads : StatementTree → List Text → Type 0
  Reads tree rest = Out.valid tree ≡ true → closes_statement tree (front rest) ≡ true → reading (spell_statement tree ++ rest)
      ≡ got tree rest

  read_by : {A : Type 0} {r : Reader A} {s : Shape A} {e : _} (kind : StatementStart) (make : A → StatementTree) →
      Makes make s Out (start_word kind ∷ []) → Phrase r e s → statement_by below read kind ≡ goes (map_tree make r) →
      (tree : A) (rest : List Text) → Reads (make tree) rest
  read_by {r = r} {s = s} kind make m q is tree rest v c =
      let behind : List Text = s.spell tree ++ rest in
      ap (λ ws. reading (ws ++ rest)) (m.spelled tree)
      ∙ passed_over (is_target (Some (start_word kind))) (roomy below 1 (assignment below) (start_word kind ∷ behind)) _
      (no_target kind)
      ∙ ap (λ o. follow (lead_by below read o) (start_word kind) behind) (start_found kind)
      ∙ ap (λ l. follow l (start_word kind) behind) is
      ∙ made_complete make r s Out (start_word kind ∷ []) m q.complete tree rest v c

  -- behind its word, where a level is left
  room_read : {A : Type 0} {r : Reader A} {s : Shape A} {e : _} (kind : StatementStart) (make : A → StatementTree) →
      Makes make s Out (start_word kind ∷ []) → Phrase r e s → statement_by below read kind ≡ room below 1 (goes (map_tree make r)) →
      nat_le 1 below ≡ true → (tree : A) (rest : List Text) → Reads (make tree) rest
  room_read {r = r} kind make m q is level tree rest = read_by kind make m q
      (is ∙ roomy_lead below 1 (map_tree make r) level) tree rest

  assigned : (tree : Assignment) (rest : List Text) → (target : TargetTree) → fits_target target ≡ true →
      (later : List Text) → spell_statement (assignment_of tree) ≡ spell_target target ++ later →
      nat_le 1 below ≡ true → Reads (assignment_of tree) rest
  assigned tree rest target fits later begins level v c =
      chosen (is_target (front (spell_statement (assignment_of tree) ++ rest))) _ _
      (ap (λ ws. is_target (front (ws ++ rest))) begins
      ∙ ap (λ ws. is_target (front ws)) (append_assoc (spell_target target) later rest)
      ∙ target_begins target fits (later ++ rest))
      ∙ chosen (nat_le 1 below) (assignment below (spell_statement (assignment_of tree) ++ rest)) _ level
      ∙ ap (λ ws. assignment below (ws ++ rest)) ((parts.assignment_makes below).spelled tree)
      ∙ made_complete assignment_of (assignment_parts below) _ Out [] (parts.assignment_makes below)
      (parts.assignment_phrase below level).complete
      tree rest v c

  assignment_level : (tree : TargetTree) (other : ℕ) (fits : Bool) →
      (fits && nat_le (1 + max (target_depth tree) other) (suc below)) ≡ true →
      nat_le 1 below ≡ true
  assignment_level tree other fits v =
      some_level (target_depth tree) below (target_deep tree)
      (and_left (nat_le (target_depth tree) below) (nat_le other below)
      (sym (two_up (target_depth tree) other below) ∙ and_right fits _ v))

  body_level : (body : StatementTree) (fits : Bool) → (fits && nat_le (1 + statement_depth body) (suc below)) ≡ true →
      nat_le 1 below ≡ true
  body_level body fits v =
      some_level (statement_depth body) below (statement_deep body)
      (sym (one_up (statement_depth body) below) ∙ and_right fits _ v)

  last_level : (body : StatementTree) (other : ℕ) (fits : Bool) →
      (fits && nat_le (1 + max other (statement_depth body)) (suc below)) ≡ true →
      nat_le 1 below ≡ true
  last_level body other fits v =
      some_level (statement_depth body) below (statement_deep body)
      (and_right (nat_le other below) (nat_le (statement_depth body) below)
      (sym (two_up other (statement_depth body) below) ∙ and_right fits _ v))

  first_level : (tree : ExpressionTree) (other : ℕ) (fits : Bool) → (fits && nat_le (1 + max (depth tree) other) (suc below))
      ≡ true →
      nat_le 1 below ≡ true
  first_level tree other fits v =
      some_level (depth tree) below (depth_positive tree)
      (and_left (nat_le (depth tree) below) (nat_le other below) (sym (two_up (depth tree) other below) ∙ and_right fits _ v))

  for_level : (tree : TargetTree) (right other : ℕ) (fits : Bool) →
      (fits && nat_le (1 + max (max (target_depth tree) right) other) (suc below)) ≡ true → nat_le 1 below ≡ true
  for_level tree right other fits v =
      some_level (target_depth tree) below (target_deep tree)
      (and_left (nat_le (target_depth tree) below) (nat_le right below)
      (sym (larger_two (target_depth tree) right below)
      ∙ and_left (nat_le (max (target_depth tree) right) below) (nat_le other below)
      (sym (two_up (max (target_depth tree) right) other below) ∙ and_right fits _ v)))

  two_level : (fits : Bool) → (fits && nat_le 2 (suc below)) ≡ true → nat_le 1 below ≡ true
  two_level fits v = sym (one_up 1 below) ∙ and_right fits _ v

  block_read : (label : Option Text) (trees : StatementTrees) (rest : List Text) → Reads (block label trees) rest
  block_read label trees rest =
      subst (λ ts. Reads (block label ts) rest) (statements_back trees)
      (read_by start.Begin block_of (parts.block_makes below read p) block_phrase refl (both label (both (statements_of trees) tt)) rest)

  case_read : (kind : _) (tree : ExpressionTree) (one : BranchTree) (more : BranchTrees) (rest : List Text) → nat_le 1 below
      ≡ true →
      Reads (case_of kind tree (first_branch one more)) rest
  case_read kind tree one more rest level =
      subst (λ bs. Reads (case_of kind tree (first_branch one bs)) rest) (branches_back more)
      (room_read (start.Case kind) (case_parts_of kind) (cases.case_makes below level read p worded no_colon kind)
      (case_phrase level) refl level
      (both tree (both (both one (branches_of more)) tt)) rest)

  false_true : false ≡ true → ⊥
  false_true e = cc

  no_branches : (a b c d : Bool) → ((((a && false) && b) && c) && d) ≡ true → ⊥
  no_branches a b c d e = false_true (and_right a false (and_left (a && false) b (and_left _ c (and_left _ d e))))

  task_read : (call : TaskTree) (rest : List Text) → Reads (task call) rest
  task_read (print (printing.Display base) []) rest =
      read_by (start.Print (printing.Display base)) (optional_print_of (printing.Display base))
      (tasks.optional_print_makes below (printing.Display base) refl)
      (tasks.optional_print_phrase below) refl (both None tt) rest
  task_read (print (printing.Write base) []) rest =
      read_by (start.Print (printing.Write base)) (optional_print_of (printing.Write base))
      (tasks.optional_print_makes below (printing.Write base) refl)
      (tasks.optional_print_phrase below) refl (both None tt) rest
  task_read (print (printing.Strobe base) []) rest =
      read_by (start.Print (printing.Strobe base)) (optional_print_of (printing.Strobe base))
      (tasks.optional_print_makes below (printing.Strobe base) refl)
      (tasks.optional_print_phrase below) refl (both None tt) rest
  task_read (print (printing.Monitor base) []) rest = λ v c. absurd
      (false_true (and_left false true (and_left _ (nat_le (1 + 0) (suc below)) v)))
  task_read (print (printing.Display base) (one ∷ more)) rest =
      read_by (start.Print (printing.Display base)) (optional_print_of (printing.Display base))
      (tasks.optional_print_makes below (printing.Display base) refl)
      (tasks.optional_print_phrase below) refl (both (Some (both (both one more) tt)) tt) rest
  task_read (print (printing.Write base) (one ∷ more)) rest =
      read_by (start.Print (printing.Write base)) (optional_print_of (printing.Write base))
      (tasks.optional_print_makes below (printing.Write base) refl)
      (tasks.optional_print_phrase below) refl (both (Some (both (both one more) tt)) tt) rest
  task_read (print (printing.Strobe base) (one ∷ more)) rest =
      read_by (start.Print (printing.Strobe base)) (optional_print_of (printing.Strobe base))
      (tasks.optional_print_makes below (printing.Strobe base) refl)
      (tasks.optional_print_phrase below) refl (both (Some (both (both one more) tt)) tt) rest
  task_read (print (printing.Monitor base) (one ∷ more)) rest = λ v c.
      let level = tasks.arguments_level below (both (both one more) tt)
      (and_left _ true (sym ((tasks.print_makes below (printing.Monitor base)).valid (both (both (both one more) tt) tt)) ∙ v)) in
      room_read (start.Print (printing.Monitor base)) (print_of (printing.Monitor base)) (tasks.print_makes below (printing.Monitor base))
      (tasks.print_phrase below level) refl level (both (both (both one more) tt) tt) rest v c
  task_read (idle kind []) rest =
      read_by (start.Idle kind) (idle_of kind) (tasks.idle_makes below kind) (tasks.optional_print_phrase below) refl (both None tt) rest
  task_read (idle kind (one ∷ more)) rest =
      read_by (start.Idle kind) (idle_of kind) (tasks.idle_makes below kind) (tasks.optional_print_phrase below) refl
      (both (Some (both (both one more) tt)) tt) rest
  task_read (dump_file letters) rest = λ v c.
      let level = two_level (is_string letters) v in
      room_read start.DumpFile dump_file_of (tasks.dump_file_makes below level) (tasks.dump_file_phrase below) refl level
      (both letters tt) rest v c
  task_read (dump_vars selected) rest =
      read_by start.DumpVars dump_vars_of (tasks.dump_vars_makes below) (tasks.dump_vars_phrase below) refl
      (both selected tt) rest
  task_read (dump kind) rest =
      read_by (start.Dump kind) (dump_of kind) (tasks.dump_makes below kind) (only_phrase (codes ";")) refl tt rest
  task_read (end_run kind None) rest =
      read_by (start.End kind) (end_of kind) (tasks.end_makes below kind) (tasks.end_phrase below) refl (both None tt) rest
  task_read (end_run kind (Some digits)) rest =
      read_by (start.End kind) (end_of kind) (tasks.end_makes below kind) (tasks.end_phrase below) refl
      (both (Some (both digits tt)) tt) rest

  loop_read : (kind : Guard) (tree : ExpressionTree) (body : StatementTree) (rest : List Text) → nat_le 1 below ≡ true →
      Reads (guarded_of kind (both tree body)) rest
  loop_read kind tree body rest level =
      room_read (start.Guarded kind) (guarded_of kind) (parts.loop_makes below read p kind)
      (parts.loop_phrase below read p level) refl level
      (both tree body) rest

  reading_complete : (tree : StatementTree) (rest : List Text) → Reads tree rest
  reading_complete empty rest v c =
      passed_over (is_target (Some (codes ";"))) (roomy below 1 (assignment below) (codes ";" ∷ rest)) _ (no_target start.Empty)
      ∙ ap (λ o. follow (lead_by below read o) (codes ";") rest) (start_found start.Empty)
  reading_complete (block label trees) rest v c = block_read label trees rest v c
  reading_complete (assign target wait right) rest v c =
      assigned (both target (both false (both wait (both right tt)))) rest target
      (and_left (fits_target target) _ (and_left _ (fits_expression right) (and_left _ _ v))) _ refl
      (assignment_level target _ _ v) v c
  reading_complete (nonblocking target wait right) rest v c =
      assigned (both target (both true (both wait (both right tt)))) rest target
      (and_left (fits_target target) _ (and_left _ (fits_expression right) (and_left _ _ v))) _ refl
      (assignment_level target _ _ v) v c
  reading_complete (trigger letters) rest v c =
      let level = two_level (is_name letters) v in
      room_read start.Trigger trigger_of (parts.trigger_makes below level) (parts.trigger_phrase below level) refl level
      (both letters tt) rest v c
  reading_complete (if_true condition body) rest v c =
      let level = first_level condition (statement_depth body) (fits_expression condition && fits_statement body) v in
      room_read start.If if_of (parts.if_makes below read p) (parts.if_phrase below read p level) refl level
      (both condition (both body None)) rest v c
  reading_complete (if_else condition body otherwise) rest v c =
      let level = first_level condition (max (statement_depth body) (statement_depth otherwise)) _ v in
      room_read start.If if_of (parts.if_makes below read p) (parts.if_phrase below read p level) refl level
      (both condition (both body (Some otherwise))) rest v c
  reading_complete (case_of kind tree no_branch) rest v c =
      absurd (no_branches (fits_expression tree) _ _ _ v)
  reading_complete (case_of kind tree (first_branch one more)) rest v c =
      case_read kind tree one more rest (first_level tree _ _ v) v c
  reading_complete (while_true tree body) rest v c =
      loop_read guard.While tree body rest
      (first_level tree (statement_depth body) (fits_expression tree && fits_statement body) v) v c
  reading_complete (repeat_times tree body) rest v c =
      loop_read guard.Repeat tree body rest
      (first_level tree (statement_depth body) (fits_expression tree && fits_statement body) v) v c
  reading_complete (wait_for tree body) rest v c =
      loop_read guard.Wait tree body rest
      (first_level tree (statement_depth body) (fits_expression tree && fits_statement body) v) v c
  reading_complete (forever body) rest v c =
      let level = body_level body (fits_statement body) v in
      room_read start.Forever forever (parts.forever_makes below read p) p refl level body rest v c
  reading_complete (for_loop target right condition next next_right body) rest v c =
      let level = for_level target (depth right) _ _ v in
      room_read start.For for_of (parts.for_makes below read p) (parts.for_phrase below read p level) refl level
      (both (both target right) (both condition (both (both next next_right) body))) rest v c
  reading_complete (delay wait body) rest v c =
      let level = last_level body _ _ v in
      room_read start.Delay delayed_of (parts.delayed_makes below read p) (parts.delayed_phrase below read p level) refl level
      (both wait body)
      rest v c
  reading_complete (event kind body) rest v c =
      let level = last_level body _ _ v in
      room_read start.Event event_body_of (parts.event_makes below read p level)
      (parts.event_phrase below read p level) refl level
      (both kind body) rest v c
  reading_complete (task call) rest v c = task_read call rest v c

  reading_phrase : Phrase reading ends_statement Out
  reading_phrase = record {
    lawful = reading_lawful;
    sound = reading_sound;
    complete = reading_complete;
    closed = statement_closed;
  }

-- With no level left

statement_zero : Phrase (statement 0) ends_statement (statement_shape 0)
unfolding statement
statement_zero = record {
  lawful = led_sees (λ word. if begins_statement word then lower else refused) ends_statement
      (λ word. lead_if ends_statement (begins_statement word) lower refused tt tt);
  sound = led_sound (λ word. if begins_statement word then lower else refused) (statement_shape 0)
      (λ word. if_sound (statement_shape 0) word (begins_statement word) lower refused (λ e. tt) tt);
  complete = λ tree rest v c. absurd
      (no_level (statement_depth tree) (statement_deep tree) (and_right (fits_statement tree) _ v));
  closed = statement_closed;
}
  where
    no_level : (d : ℕ) → 0 < d → nat_le d 0 ≡ true → ⊥
    no_level d p e = clash (nat_le d 0) e (none d p)
      where
        none : (d : ℕ) → 0 < d → nat_le d 0 ≡ false
        none d p = grind (arith, nat_tests)

-- a word that begins no statement is refused
pub statement_refuses : (n : ℕ) (word : Text) → begins_statement word ≡ false →
    (words : List Text) (tree : StatementTree) (left : List Text) →
    statement n (word ∷ words) ≡ got tree left → ⊥
unfolding statement
statement_refuses zero word none words tree left e =
    stop_got (sym (ap (λ (b : Bool). follow (if b then lower else refused) word words) none) ∙ e)
statement_refuses (suc below) word none words tree left e =
    stop_got (sym (passed_over (begins_target word) (roomy below 1 (assignment below) (word ∷ words)) _
    (or_left (begins_target word) _ none)
    ∙ by_start (start_of word) (or_right (begins_target word) _ none)) ∙ e)
  where
    by_start : (o : Option StatementStart) → is_some_meaning o ≡ false →
        follow (lead_by below (statement below) o) word words ≡ stop NoTree (word ∷ words)
    by_start None f = refl
    by_start (Some kind) f = let absent : true ≡ false = f in absurd cc

no_words : (begins_statement (codes "end") ≡ false) × (begins_statement (codes "else") ≡ false) ×
    (begins_statement (codes ":") ≡ false)
unfolding begins_target start_of reserved_words
no_words = (refl, refl, refl)

unbegun : (n : ℕ) → Phrase (statement n) ends_statement (statement_shape n) → (text : Text) → begins_statement text ≡ false →
    Tested (is_front text) false (statement_shape n)
unbegun n p text none =
    refused_first (is_front text) p (λ tree v. statement_worded tree) refl
    (λ word words tree left is e. statement_refuses n word (subst (λ w. begins_statement w ≡ false) (same_text text word is) none)
    words tree left e)

-- a statement of so many levels at most
pub statement_phrase : (n : ℕ) → Phrase (statement n) ends_statement (statement_shape n)
unfolding statement
statement_phrase zero = statement_zero
statement_phrase (suc below) =
    reading_phrase below (statement below) (statement_phrase below)
    (unbegun below (statement_phrase below) (codes "end") no_words.0)
    (unbegun below (statement_phrase below) (codes "else") no_words.1)
    (unbegun below (statement_phrase below) (codes ":") no_words.2)

pub statement_leads : (n : ℕ) (kind : StatementStart) → IsLead ends_statement (statement_by n (statement n) kind)
statement_leads n =
    leads_by n (statement n) (statement_phrase n) (unbegun n (statement_phrase n) (codes "end") no_words.0)
    (unbegun n (statement_phrase n) (codes "else") no_words.1) (unbegun n (statement_phrase n) (codes ":") no_words.2)
