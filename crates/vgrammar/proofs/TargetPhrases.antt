-- What assignments write to, and delays.
use Rattle.std.proofs.Common.{◌≡◌, ℕ, zero, suc, ◌+◌, ◌<◌, Bool, true, false, ◌&&◌, max, nat_le, if◌then◌else◌, List, [], ◌∷◌, ◌++◌, Option, None, Some, flat_map, refl, sym, ap, ◌∙◌, arith, subst, codes, zero-lt-suc}
use Rattle.std.specs.List.{list_all}
use Rattle.std.specs.Str.{bytes_eq}
use Rattle.std.proofs.lemmas.Bool.Decides.{nat_tests}
use Rattle.basis.proofs.Bools.{and_left, and_right, and_both}
use Rattle.basis.proofs.Numbers.{one_within}
use Rattle.vwords.specs.Words.{Text, is_name, reserved_words}
use Rattle.vast.specs.Expressions.{ExpressionTree, fits_expression, depth}
use Rattle.vast.specs.Statements.{TargetTree, whole, bit, part, joined, TargetTrees, none, first as first_target, spell_target, spell_more_targets, target_depth, greatest_target_depth, fits_target, fits_targets}
use Rattle.vexpr_parse.specs.Readers.{got, Reader, front, is_front, goes, refused, lower, by_word, room, past}
use Rattle.vexpr_parse.specs.Words.{binary_of, ends, ends_primary}
use Rattle.vexpr_parse.proofs.ReaderRules.{chosen, same_text, IsLead, led_sees}
use Rattle.vexpr_parse.proofs.ReaderLoops.{lead_if, lead_room}
use Rattle.vgrammar.specs.Parts.{Both, both, Either, one_way, other_way, pair, maybe, roomy}
use Rattle.vgrammar.specs.Starts.{begins_target}
use Rattle.vgrammar.specs.Statements.{value, List_of, comma_list, word_only, Select, select, target_of, targets_in, joined_of, joined_targets, target_lead, target}
use Rattle.vgrammar.proofs.Phrases.{Shape, Complete, Phrase, Example, Opens, Makes, always, phrase_within, past_shape, past_phrase, nothing_phrase, paired_shape, paired_phrase, before_phrase, paired_example}
use Rattle.vgrammar.proofs.PhraseChoices.{ends_maybe, maybe_shape, maybe_phrase, either_shape, either_phrase, roomy_phrase}
use Rattle.vgrammar.proofs.PhraseLeads.{LeadSound, led_sound, if_sound, room_sound, made_lead_sound, made_lead, led_complete, roomy_lead}
use Rattle.vgrammar.proofs.LevelFacts.{one_up, two_up, larger_two, none_within, and_true, pair_valid, some_level}
use Rattle.vgrammar.proofs.ValuePhrases.{value_shape, value_phrase, value_example, value_level, nothing_example, only_shape, only_phrase, only_example, comma_shape, comma_phrase, allows_each}

no_truth : false ≡ true → ⊥
no_truth e = cc

-- Selects

abbrev pub right_shape : ℕ → Shape (Both ExpressionTree (Unit {0}))
right_shape below = past_shape (codes ":") (paired_shape (value_shape below) (only_shape (codes "]")))

abbrev pub select_shape : ℕ → Shape Select
select_shape below = paired_shape (value_shape below) (either_shape (right_shape below) (only_shape (codes "]")))

module _ (below : ℕ) (level : nat_le 1 below ≡ true) where
  right_phrase : Phrase (past (codes ":") (pair (value below) (word_only (codes "]")))) always (right_shape below)
  unfolding binary_of
  right_phrase =
      past_phrase (codes ":")
      (paired_phrase (value_phrase below) (only_phrase (codes "]")) (only_example (codes "]")) (λ y v rest c. refl)
      (λ y v clash. absurd (no_word (codes "]") clash)))
      (paired_example (value_example below level) (only_example (codes "]")))
    where
      no_word : (text : Text) {words : List Text} → text ∷ words ≡ [] → ⊥
      no_word text e = cc

  pub select_phrase : Phrase (select below) always (select_shape below)
  unfolding binary_of
  select_phrase =
      paired_phrase (value_phrase below)
      (either_phrase (is_front (codes ":")) right_phrase (only_phrase (codes "]")) (λ tree v. zero-lt-suc _) (λ tree v. zero-lt-suc _)
      (λ tree v rest. refl) (λ tree v rest. refl))
      (record { tree = other_way tt; valid = refl }) opens links
    where
      opens : Opens (ends 0) (either_shape (right_shape below) (only_shape (codes "]")))
      opens (one_way y) v rest c = refl
      opens (other_way y) v rest c = refl

      no_word : {text : Text} {words : List Text} → text ∷ words ≡ [] → ⊥
      no_word e = cc

      links : (y : Either (Both ExpressionTree (Unit {0})) (Unit {0})) →
          (either_shape (right_shape below) (only_shape (codes "]"))).valid y ≡ true →
          (either_shape (right_shape below) (only_shape (codes "]"))).spell y ≡ [] →
          (next : Option Text) → always next ≡ true → ends 0 next ≡ true
      links (one_way (both right end)) v clash = absurd (no_word clash)
      links (other_way y) v clash = absurd (no_word clash)

  select_example : Example (select_shape below)
  select_example = record {
    tree = both (value_example below level).tree (other_way tt);
    valid = and_both _ true (value_example below level).valid refl;
  }

-- A name, and what may be selected of it

abbrev pub opened_shape : ℕ → Shape Select
opened_shape below = past_shape (codes "[") (select_shape below)

abbrev bracket : Option Text → Bool
bracket = is_front (codes "[")

abbrev named_shape : ℕ → Shape (Option Select)
named_shape below = maybe_shape bracket always (opened_shape below)

opened_phrase : (below : ℕ) →
    Phrase (maybe bracket (roomy below 1 (past (codes "[") (select below)))) (ends_maybe bracket always) (named_shape below)
opened_phrase below =
    maybe_phrase bracket
    (roomy_phrase below 1 (λ level. past_phrase (codes "[") (select_phrase below level) (select_example below level)) deep closed)
    (λ tree v. zero-lt-suc _) (λ tree v rest. refl)
  where
    deep : (tree : Select) → (opened_shape below).valid tree ≡ true → nat_le 1 below ≡ true
    deep (both tree behind) v = value_level below tree (and_left _ _ v)

    closed : (tree : Select) (next : Option Text) → always next ≡ true → (opened_shape below).closes tree next ≡ true
    closed (both tree (one_way (both right end))) next e = refl
    closed (both tree (other_way end)) next e = refl

-- What an assignment writes to

abbrev pub target_shape : ℕ → Shape TargetTree
target_shape n = record {
  spell = spell_target;
  valid = λ tree. fits_target tree && nat_le (target_depth tree) n;
  closes = λ tree. ends_primary;
  stops = λ tree next. true;
}

named_makes : (below : ℕ) (letters : Text) → is_name letters ≡ true →
    Makes (target_of letters) (named_shape below) (target_shape (suc below)) (letters ∷ [])
named_makes below letters is = record { spelled = spelled; valid = valid; closes = closes; stops = λ tree next e. refl }
  where
    spelled : (tree : Option Select) → spell_target (target_of letters tree) ≡ letters ∷ (named_shape below).spell tree
    spelled None = refl
    spelled (Some (both left (one_way (both right end)))) = refl
    spelled (Some (both index (other_way end))) = refl

    valid : (tree : Option Select) →
        (fits_target (target_of letters tree) && nat_le (target_depth (target_of letters tree)) (suc below))
        ≡ (named_shape below).valid tree
    valid None = ap (λ b. b && nat_le 1 (suc below)) is ∙ one_within below
    valid (Some (both left (one_way (both right end)))) =
        ap (λ b. ((b && fits_expression left) && fits_expression right) && nat_le (1 + max (depth left) (depth right))
        (suc below)) is
        ∙ ap (λ b. (fits_expression left && fits_expression right) && b) (two_up (depth left) (depth right) below)
        ∙ pair_valid (fits_expression left) (fits_expression right) (nat_le (depth left) below) (nat_le (depth right) below)
        ∙ ap (λ b. (fits_expression left && nat_le (depth left) below) && b)
        (sym (and_true (fits_expression right && nat_le (depth right) below)))
    valid (Some (both index (other_way end))) =
        ap (λ b. (b && fits_expression index) && nat_le (1 + depth index) (suc below)) is
        ∙ ap (λ b. fits_expression index && b) (one_up (depth index) below)
        ∙ sym (and_true (fits_expression index && nat_le (depth index) below))

    closes : (tree : Option Select) (next : Option Text) → ends_primary next ≡ true → (named_shape below).closes tree next ≡ true
    closes None next e = e
    closes (Some (both left (one_way (both right end)))) next e = refl
    closes (Some (both index (other_way end))) next e = refl

-- a list of them

abbrev pub targets_shape : ℕ → Shape (Both (List_of TargetTree) (Unit {0}))
targets_shape below = paired_shape (comma_shape ends_primary (target_shape below)) (only_shape (codes "}"))

pub targets_of : TargetTrees → List TargetTree
targets_of none = []
targets_of (first_target tree more) = tree ∷ targets_of more

targets_back : (trees : TargetTrees) → targets_in (targets_of trees) ≡ trees
unfolding targets_of
targets_back none = refl
targets_back (first_target tree more) = ap (first_target tree) (targets_back more)

joined_makes : (below : ℕ) → Makes joined_of (targets_shape below) (target_shape (suc below)) (codes "{" ∷ [])
joined_makes below = record {
  spelled = spelled;
  valid = valid;
  closes = λ tree next e. closes tree next;
  stops = λ tree next e. refl;
}
  where
    closes : (tree : Both (List_of TargetTree) (Unit {0})) (next : Option Text) → (targets_shape below).closes tree next ≡ true
    closes (both list end) next = refl

    more_spelled : (list : List TargetTree) → spell_more_targets (targets_in list)
        ≡ flat_map (λ tree. codes "," ∷ spell_target tree) list
    more_spelled [] = refl
    more_spelled (tree ∷ more) = ap (λ ws. codes "," ∷ (spell_target tree ++ ws)) (more_spelled more)

    spelled : (tree : Both (List_of TargetTree) (Unit {0})) → spell_target (joined_of tree)
        ≡ codes "{" ∷ (targets_shape below).spell tree
    spelled (both (both tree more) end) = ap (λ ws. codes "{" ∷ ((spell_target tree ++ ws) ++ codes "}" ∷ [])) (more_spelled more)

    fits : TargetTree → Bool
    fits tree = fits_target tree && nat_le (target_depth tree) below

    no_deeper : (n : ℕ) → nat_le 0 n ≡ true
    no_deeper n = grind (arith, nat_tests)

    more_valid : (list : List TargetTree) →
        (fits_targets (targets_in list) && nat_le (greatest_target_depth (targets_in list)) below)
        ≡ list_all (λ tree. fits_target tree && nat_le (target_depth tree) below) list
    more_valid [] = no_deeper below
    more_valid (tree ∷ more) =
        ap (λ b. (fits_target tree && fits_targets (targets_in more)) && b)
        (larger_two (target_depth tree) (greatest_target_depth (targets_in more)) below)
        ∙ pair_valid (fits_target tree) (fits_targets (targets_in more)) (nat_le (target_depth tree) below)
        (nat_le (greatest_target_depth (targets_in more)) below)
        ∙ ap (λ b. (fits_target tree && nat_le (target_depth tree) below) && b) (more_valid more)

    valid : (tree : Both (List_of TargetTree) (Unit {0})) →
        (fits_target (joined_of tree) && nat_le (target_depth (joined_of tree)) (suc below))
        ≡ (targets_shape below).valid tree
    valid (both (both tree more) end) =
        ap (λ b. fits_targets (targets_in (tree ∷ more)) && b) (one_up (greatest_target_depth (targets_in (tree ∷ more))) below)
        ∙ more_valid (tree ∷ more)
        ∙ ap (λ b. (fits_target tree && nat_le (target_depth tree) below) && b)
        (sym (allows_each (λ tree. fits_target tree && nat_le (target_depth tree) below) [] more))
        ∙ sym (and_true _)

pub target_deep : (tree : TargetTree) → 0 < target_depth tree
target_deep (whole letters) = omega arith
target_deep (bit letters index) = omega arith
target_deep (part letters left right) = omega arith
target_deep (joined targets) = omega arith

-- with a level less

target_zero : Phrase (target 0) ends_primary (target_shape 0)
unfolding target
target_zero = record {
  lawful = led_sees (λ word. if begins_target word then lower else refused) ends_primary
      (λ word. lead_if ends_primary (begins_target word) lower refused tt tt);
  sound = led_sound (λ word. if begins_target word then lower else refused) (target_shape 0)
      (λ word. if_sound (target_shape 0) word (begins_target word) lower refused (λ e. tt) tt);
  complete = λ tree rest v c. absurd (deep tree v);
  closed = λ tree next e. e;
}
  where
    deep : (tree : TargetTree) → (fits_target tree && nat_le (target_depth tree) 0) ≡ true → ⊥
    deep (whole letters) v = none_within 0 (and_right (is_name letters) _ v)
    deep (bit letters index) v = none_within (depth index) (and_right _ _ v)
    deep (part letters left right) v = none_within (max (depth left) (depth right)) (and_right _ _ v)
    deep (joined targets) v = none_within (greatest_target_depth targets) (and_right _ _ v)

target_example_suc : (below : ℕ) → Example (target_shape (suc below))
unfolding reserved_words
target_example_suc below = record { tree = whole (codes "a"); valid = one_within below }

pub target_example : (n : ℕ) → nat_le 1 n ≡ true → Example (target_shape n)
target_example zero e = let no : false ≡ true = e in absurd cc
target_example (suc below) e = target_example_suc below

module _ (below : ℕ) (read : Reader TargetTree) (p : Phrase read ends_primary (target_shape below)) where
  abbrev Out : Shape TargetTree
  Out = target_shape (suc below)

  named_tight : Phrase (maybe bracket (roomy below 1 (past (codes "[") (select below)))) ends_primary (named_shape below)
  named_tight = opened_phrase below

  targets_phrase : nat_le 1 below ≡ true → Phrase (pair (comma_list read) (word_only (codes "}"))) always (targets_shape below)
  targets_phrase level =
      before_phrase (codes "}") (comma_phrase p (target_example below level) refl) (nothing_phrase always) nothing_example refl

  targets_example : nat_le 1 below ≡ true → Example (targets_shape below)
  targets_example level = record {
    tree = both (both (target_example below level).tree []) tt;
    valid = and_both _ true (and_both _ true (target_example below level).valid refl) refl;
  }

  pub target_leads : (word : Text) → IsLead ends_primary (target_lead below read word)
  target_leads word =
      lead_if ends_primary (is_name word) _ _ (made_lead (target_of word) named_tight (record { tree = None; valid = refl }))
      (lead_if ends_primary (bytes_eq (codes "{") word) _ _
      (lead_room ends_primary below 1 (goes (joined_targets read))
      (λ level. made_lead joined_of (phrase_within ends_primary (targets_phrase level) (λ next e. refl))
      (targets_example level))) tt)

  target_leads_sound : (word : Text) → LeadSound Out word (target_lead below read word)
  target_leads_sound word =
      if_sound Out word (is_name word) _ _
      (λ is. made_lead_sound (target_of word) word Out (named_makes below word is) named_tight)
      (if_sound Out word (bytes_eq (codes "{") word) _ _
      (λ is. subst (λ w. LeadSound Out w (room below 1 (goes (joined_targets read)))) (same_text (codes "{") word is)
      (room_sound Out (codes "{") below 1 (joined_targets read)
      (λ level. made_lead_sound joined_of (codes "{") Out (joined_makes below) (targets_phrase level)))) tt)

  complete_named : (letters : Text) (tree : Option Select) (rest : List Text) → is_name letters ≡ true →
      Out.valid (target_of letters tree) ≡ true → ends_primary (front rest) ≡ true →
      by_word (target_lead below read) (spell_target (target_of letters tree) ++ rest) ≡ got (target_of letters tree) rest
  complete_named letters tree rest is v c =
      led_complete (target_lead below read) (target_of letters) letters Out (named_makes below letters is) named_tight
      (chosen (is_name letters) _ _ is) tree rest v c

  target_complete : Complete (by_word (target_lead below read)) Out
  unfolding reserved_words
  target_complete (whole letters) rest v c = complete_named letters None rest (and_left (is_name letters) _ v) v c
  target_complete (bit letters index) rest v c =
      complete_named letters (Some (both index (other_way tt))) rest (and_left (is_name letters) _ (and_left _ _ v)) v c
  target_complete (part letters left right) rest v c =
      complete_named letters (Some (both left (one_way (both right tt)))) rest
      (and_left (is_name letters) _ (and_left _ (fits_expression right) (and_left _ _ v))) v c
  target_complete (joined none) rest v c = absurd (no_truth (and_left false (nat_le (1 + 0) (suc below)) v))
  target_complete (joined (first_target tree more)) rest v c =
      subst P (targets_back more)
      (λ w. led_complete (target_lead below read) joined_of
      (codes "{") Out (joined_makes below) (targets_phrase (level (targets_in (targets_of more)) w))
      (roomy_lead below 1 (joined_targets read) (level (targets_in (targets_of more)) w))
      (both (both tree (targets_of more)) tt) rest w c) v
    where
      P : TargetTrees → Type 0
      P ts = Out.valid (joined (first_target tree ts)) ≡ true →
          by_word (target_lead below read) (spell_target (joined (first_target tree ts)) ++ rest)
          ≡ got (joined (first_target tree ts)) rest

      level : (ts : TargetTrees) → Out.valid (joined (first_target tree ts)) ≡ true → nat_le 1 below ≡ true
      level ts w =
          some_level (target_depth tree) below (target_deep tree)
          (and_left (nat_le (target_depth tree) below) (nat_le (greatest_target_depth ts) below)
          (sym (two_up (target_depth tree) (greatest_target_depth ts) below)
          ∙ and_right (fits_target (joined (first_target tree ts))) _ w))

  target_by_phrase : Phrase (by_word (target_lead below read)) ends_primary Out
  target_by_phrase = record {
    lawful = led_sees (target_lead below read) ends_primary target_leads;
    sound = led_sound (target_lead below read) Out target_leads_sound;
    complete = target_complete;
    closed = λ tree next e. e;
  }

pub target_phrase : (n : ℕ) → Phrase (target n) ends_primary (target_shape n)
unfolding target
target_phrase zero = target_zero
target_phrase (suc below) = target_by_phrase below (target below) (target_phrase below)
