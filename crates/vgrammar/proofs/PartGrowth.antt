-- With three levels more: targets, delays, event controls, arguments and what is dumped.
use Rattle.std.proofs.Common.{◌≡◌, ℕ, zero, suc, Bool, true, false, ◌||◌, nat_le, if◌then◌else◌, List, refl, codes}
use Rattle.std.specs.Str.{bytes_eq}
use Rattle.vwords.specs.Words.{Text, is_name, is_number, is_string}
use Rattle.vast.specs.Statements.{TargetTree}
use Rattle.vexpr_parse.specs.Readers.{Reader, is_front, goes, refused, lower, room, past}
use Rattle.vexpr_parse.specs.Words.{ends_primary}
use Rattle.vexpr_parse.proofs.ReaderRules.{IsLead}
use Rattle.vexpr_parse.proofs.Grows.{Keeps, past_keep, Grows, LeadGrows, led_grows, if_grows, expression_keep, expression_grows}
use Rattle.vgrammar.specs.Parts.{roomy}
use Rattle.vgrammar.specs.Starts.{begins_target, meant_if, is_word, edge_of, comma_of, is_meant}
use Rattle.vgrammar.specs.Statements.{value, name_word, comma_list, word_only, select, target_of, named_target, joined_of, joined_targets, target_lead, target, delay_of, amount, optional_delay, term_of, term, further_of, event_of, control, begins_argument, argument_of, arguments, path_of, selection_of, selection}
use Rattle.vgrammar.proofs.TargetPhrases.{select_phrase, target_phrase, target_leads}
use Rattle.vgrammar.proofs.Growth.{up, some_left, grows_further, Growth, phrase_keep, got_growth, past_growth, made_growth, paired_growth, worded_growth, either_growth, maybe_growth, maybe_growth_where, many_growth, OpenLead, lead_open, room_open, room_rises, roomy_rises, roomy_keep, past_passes}

pub value_growth : (n : ℕ) → nat_le 1 n ≡ true → Growth (value n) (value (up n))
value_growth zero e = let no : false ≡ true = e in absurd cc
value_growth (suc below) e = record {
  rises = λ words. grows_further (value (suc below) words) (value (suc (suc below)) words) (value (up (suc below)) words)
      (expression_grows below 0 words)
      (grows_further (value (suc (suc below)) words) (value (up below) words) (value (up (suc below)) words)
      (expression_grows (suc below) 0 words) (expression_grows (suc (suc below)) 0 words));
  keep = expression_keep (up (suc below)) 0;
}

pub only_growth : (text : Text) → Growth (word_only text) (word_only text)
only_growth text = past_growth text (got_growth tt)

pub comma_growth : {A : Type 0} {read more : Reader A} → Growth read more → Growth (comma_list read) (comma_list more)
comma_growth g = paired_growth g (many_growth (is_front (codes ",")) (λ list. past_growth (codes ",") g))

-- Targets

select_growth : (below : ℕ) → nat_le 1 below ≡ true → Growth (select below) (select (up below))
select_growth below level =
    paired_growth (value_growth below level)
    (either_growth (is_front (codes ":"))
    (past_growth (codes ":") (paired_growth (value_growth below level) (only_growth (codes "]"))))
    (only_growth (codes "]")))

select_keep : (below : ℕ) → Keeps (select (up below))
select_keep below = phrase_keep (select_phrase (up below) (some_left below))

named_growth : (below : ℕ) (letters : Text) → Growth (named_target below letters) (named_target (up below) letters)
named_growth below letters =
    made_growth (target_of letters)
    (maybe_growth_where (is_front (codes "[")) (roomy below 1 (past (codes "[") (select below)))
    (roomy (up below) 1 (past (codes "[") (select (up below))))
    (roomy_rises (is_front (codes "[")) below (past (codes "[") (select below)) (past (codes "[") (select (up below)))
    (λ level. (past_growth (codes "[") (select_growth below level)).rises)
    (past_passes (codes "[") (select (up below)) (select_keep below)))
    (roomy_keep (up below) _ (past_keep (codes "[") (select (up below)) (select_keep below))))

joined_growth : {read more : Reader TargetTree} → Growth read more → Growth (joined_targets read) (joined_targets more)
joined_growth g = made_growth joined_of (paired_growth (comma_growth g) (only_growth (codes "}")))

-- the lead of a word that begins a target is open where a level is left
pub target_open : (below : ℕ) → nat_le 1 below ≡ true → (word : Text) → begins_target word ≡ true →
    OpenLead (target_lead below (target below) word)
unfolding begins_target
target_open below level word is =
    by_tests (is_name word) (bytes_eq (codes "{") word) is (target_leads below (target below) (target_phrase below) word)
  where
    by_tests : (a b : Bool) → (a || b) ≡ true →
        IsLead ends_primary (if a then goes (named_target below word)
        else if b then room below 1 (goes (joined_targets (target below))) else refused) →
        OpenLead (if a then goes (named_target below word) else if b then room below 1
        (goes (joined_targets (target below))) else refused)
    by_tests true b e l = lead_open ends_primary (named_target below word) l
    by_tests false true e l = room_open ends_primary below (joined_targets (target below)) level l
    by_tests false false e l = let no : false ≡ true = e in absurd cc

target_rising : (n : ℕ) → ((words : List Text) → Grows (target n words) (target (up n) words)) → Growth (target n) (target (up n))
target_rising n rises = record { rises = rises; keep = phrase_keep (target_phrase (up n)) }

target_rises : (n : ℕ) (words : List Text) → Grows (target n words) (target (up n) words)
unfolding target begins_target
target_rises zero words =
    led_grows (λ word. if begins_target word then lower else refused) (target_lead 2 (target 2))
    (λ word. by_tests word (is_name word) (bytes_eq (codes "{") word) (target_open 2 refl word)) words
  where
    by_tests : (word : Text) (a b : Bool) →
        ((a || b) ≡ true →
        OpenLead (if a then goes (named_target 2 word) else if b then room 2 1 (goes (joined_targets (target 2))) else refused)) →
        LeadGrows (if (a || b) then lower else refused)
        (if a then goes (named_target 2 word) else if b then room 2 1 (goes (joined_targets (target 2))) else refused)
    by_tests word true b k = k refl
    by_tests word false true k = k refl
    by_tests word false false k = tt
target_rises (suc below) words =
    led_grows (target_lead below (target below)) (target_lead (up below) (target (up below)))
    (λ word. if_grows (is_name word) _ _ _ _ (λ e. (named_growth below word).rises)
    (if_grows (bytes_eq (codes "{") word) _ _ _ _
    (λ e. room_rises below (joined_targets (target below)) (joined_targets (target (up below)))
    (λ level. (joined_growth (target_rising below (target_rises below))).rises)
    (joined_growth (target_rising below (target_rises below))).keep) tt)) words

pub target_growth : (n : ℕ) → Growth (target n) (target (up n))
target_growth n = target_rising n (target_rises n)

-- Delays

pub amount_growth : (below : ℕ) → nat_le 1 below ≡ true → Growth (amount below) (amount (up below))
amount_growth below level =
    made_growth delay_of (either_growth (is_word is_number) (worded_growth (meant_if is_number))
    (either_growth (is_word is_name) (worded_growth (meant_if is_name))
    (past_growth (codes "(") (paired_growth (value_growth below level) (only_growth (codes ")"))))))

pub optional_delay_growth : (below : ℕ) → nat_le 1 below ≡ true → Growth (optional_delay below) (optional_delay (up below))
optional_delay_growth below level = maybe_growth (is_front (codes "#")) (past_growth (codes "#") (amount_growth below level))

-- Event controls

pub named_word : Growth name_word name_word
named_word = worded_growth (meant_if is_name)

term_growth : Growth term term
term_growth = made_growth term_of (paired_growth (maybe_growth (is_meant edge_of) (worded_growth edge_of)) named_word)

pub control_growth : Growth control control
control_growth =
    made_growth event_of (either_growth (is_word is_name) named_word
    (either_growth (is_front (codes "*")) (only_growth (codes "*"))
    (past_growth (codes "(")
    (either_growth (is_front (codes "*")) (past_growth (codes "*") (only_growth (codes ")")))
    (paired_growth (paired_growth term_growth (many_growth (is_meant comma_of)
    (λ list. made_growth further_of (paired_growth (worded_growth comma_of) term_growth)))) (only_growth (codes ")")))))))

-- Arguments and selections

pub arguments_growth : (below : ℕ) → nat_le 1 below ≡ true → Growth (arguments below) (arguments (up below))
arguments_growth below level =
    past_growth (codes "(")
    (paired_growth (comma_growth (made_growth argument_of (maybe_growth begins_argument
    (either_growth (is_word is_string) (worded_growth (meant_if is_string)) (value_growth below level))))) (only_growth (codes ")")))

pub selection_growth : Growth selection selection
selection_growth =
    made_growth selection_of (past_growth (codes "(")
    (paired_growth (worded_growth (meant_if is_number))
    (paired_growth (many_growth (is_front (codes ",")) (λ list. past_growth (codes ",")
    (made_growth path_of
    (paired_growth named_word (many_growth (is_front (codes ".")) (λ names. past_growth (codes ".") named_word))))))
    (only_growth (codes ")")))))
