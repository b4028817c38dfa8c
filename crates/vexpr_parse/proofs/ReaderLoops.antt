-- The rules of readers, continued: one after another, one or another, turn after turn.
use Rattle.std.proofs.Common.{◌≡◌, ℕ, zero, suc, ◌<◌, ◌≤◌, Bool, true, false, nat_le, if◌then◌else◌, List, [], ◌∷◌, ◌++◌, Option, Some, length, refl, sym, ap, ◌∙◌, arith, inl, inr, subst, append_assoc}
use Rattle.std.specs.Str.{bytes_eq}
use Rattle.std.proofs.lemmas.Bool.{cases_Bool}
use Rattle.std.proofs.lemmas.List.{append-nil}
use Rattle.vwords.specs.Words.{Text}
use Rattle.vexpr_parse.specs.Readers.{Answer, got, stop, Reader, front, and_then, Lead, goes, refused, lower, follow, by_word, room, past, choose, rounds, turns}
use Rattle.vexpr_parse.specs.Lawful.{rest_of, Ends, IsWhole, Begins, GoesOn, Sees, Lawful, Rule}
use Rattle.vexpr_parse.proofs.ReaderRules.{chosen, passed_over, text_same, front_same, stop_got, then_got, parts_of, got_left, keeps, Eats, sees_same, got_rule, IsLead, rule_lead, led_sees, led_eats}

-- A first word that goes on

pub led_rule : {A : Type 0} (lead : Text → Lead A) (ends : Ends) (word : Text) (text : List Text) (read : Reader A) →
    ((word : Text) → IsLead ends (lead word)) →
    lead word ≡ goes read → IsWhole read ends text → Rule (by_word lead) ends (word ∷ text)
led_rule lead ends word text read leads is starts = record {
  lawful = led_sees lead ends leads;
  starts = (starts.0, λ rest e. ap (λ l. follow l word (text ++ rest)) is ∙ starts.1 rest e);
}

pub lead_if : {A : Type 0} (ends : Ends) (test : Bool) (one other : Lead A) → IsLead ends one → IsLead ends other →
    IsLead ends (if test then one else other)
lead_if ends true one other p q = p
lead_if ends false one other p q = q

pub lead_room : {A : Type 0} (ends : Ends) (below levels : ℕ) (lead : Lead A) → (nat_le levels below ≡ true → IsLead ends lead) →
    IsLead ends (room below levels lead)
lead_room ends below levels lead enough = by_test (nat_le levels below) refl
  where
    by_test : (test : Bool) → nat_le levels below ≡ test → IsLead ends (if test then lead else lower)
    by_test true e = enough e
    by_test false e = tt

pub past_leads : {A : Type 0} (text : Text) (read : Reader A) (ends : Ends) (starts : List Text) → Rule read ends starts → (word : Text) →
    IsLead ends (if bytes_eq text word then goes read else refused)
past_leads text read ends starts r word = lead_if ends (bytes_eq text word) (goes read) refused (rule_lead read ends starts r) tt

pub past_rule : {A : Type 0} (text : Text) (read : Reader A) (ends : Ends) (starts : List Text) → Rule read ends starts →
    Rule (past text read) ends (text ∷ starts)
past_rule text read ends starts r =
    led_rule (λ word. if bytes_eq text word then goes read else refused) ends text starts read (past_leads text read ends starts r)
    (chosen (bytes_eq text text) _ _ (text_same text)) r.starts

pub past_eats : {A : Type 0} (text : Text) (read : Reader A) (ends : Ends) (starts : List Text) → Rule read ends starts →
    Eats (past text read)
past_eats text read ends starts r = led_eats (λ word. if bytes_eq text word then goes read else refused) ends
    (past_leads text read ends starts r)

-- One after another. Where the second one reads nothing, the first one has ended.

abbrev pub Links : {A B : Type 0} → (A → Reader B) → Ends → Ends → Type 0
Links {A = A} {B = B} next ends ends_next =
    (one : A) (tree : B) (other : List Text) → next one other ≡ got tree other → ends_next (front other) ≡ true → ends (front other) ≡ true

pub links_eats : {A B : Type 0} (next : A → Reader B) (ends ends_next : Ends) → ((one : A) → Eats (next one)) → Links next ends ends_next
links_eats next ends ends_next eats one tree other e f = absurd (below (length other) (eats one other tree other e))
  where
    below : (n : ℕ) → n < n → ⊥
    below n e = omega (arith, e)

pub links_ends : {A B : Type 0} (next : A → Reader B) (ends ends_next : Ends) →
    ((first : Option Text) → ends_next first ≡ true → ends first ≡ true) → Links next ends ends_next
links_ends next ends ends_next enough one tree other e f = enough (front other) f

-- where the second one begins with these words, the first one ends
abbrev pub Meets : Ends → Ends → List Text → Type 0
Meets ends ends_next text = (rest : List Text) → ends_next (front rest) ≡ true → ends (front (text ++ rest)) ≡ true

module _ {A B : Type 0} (read : Reader A) (next : A → Reader B) (ends ends_next : Ends) (text : List Text)
    (links : Links next ends ends_next)
    (meets : Meets ends ends_next text) (starts : (one : A) → IsWhole (next one) ends_next text) where
  abbrev pub both : Reader B
  both words = and_then (read words) next

  -- what is whole after what was read at the front is whole
  joined : (before after : List Text) (one : A) → ((rest : List Text) → ends_next (front rest) ≡ true →
      read (before ++ (after ++ rest)) ≡ got one (after ++ rest)) →
      IsWhole (next one) ends_next after → IsWhole both ends_next (before ++ after)
  joined before after one is w = (
    w.0,
    λ rest e. ap both (append_assoc before after rest)
        ∙ then_got (read (before ++ (after ++ rest))) next one (after ++ rest) (is rest e) ∙ w.1 rest e,
  )

  refused_first : (before : List Text) → Begins read ends before → Begins both ends_next before
  refused_first before b = (
    b.0 ++ text,
    subst (IsWhole both ends_next) (append_assoc before b.0 text)
        (joined (before ++ b.0) text b.1.0 (λ rest e. b.1.1 (text ++ rest) (meets rest e)) (starts b.1.0)),
  )

  got_then : (words : List Text) (one : A) (left : List Text) → Sees read ends words (got one left) →
      Sees (next one) ends_next left (next one left) →
      Sees both ends_next words (next one left)
  got_then words one left s t = record {
    before = s.before ++ t.before;
    whole = s.whole ∙ ap (λ ws. s.before ++ ws) t.whole ∙ sym (append_assoc s.before t.before (rest_of (next one left)));
    near = λ other e.
        ap both (append_assoc s.before t.before other)
        ∙ then_got (read (s.before ++ (t.before ++ other))) next one (t.before ++ other)
        (s.near (t.before ++ other) (front_same t.before other (rest_of (next one left)) e ∙ sym (ap front t.whole)))
        ∙ t.near other e;
    more = onward (next one left) t.before t.more (ap front t.whole);
  }
    where
      -- the second one passed a word: then the first one sees the same word
      seen : (word : Text) (ws other : List Text) → front left ≡ Some word →
          read (s.before ++ ((word ∷ ws) ++ other)) ≡ got one ((word ∷ ws) ++ other)
      seen word ws other e = s.near ((word ∷ ws) ++ other) (sym e)

      ended : (b : List Text) (tree : B) (r other : List Text) → front left ≡ front (b ++ r) → next one (b ++ other) ≡ got tree other →
          ends_next (front other) ≡ true →
          read (s.before ++ (b ++ other)) ≡ got one (b ++ other)
      ended [] tree r other e is f = s.more other (links one tree other is f)
      ended (word ∷ ws) tree r other e is f = seen word ws other e

      begun : (b r : List Text) → front left ≡ front (b ++ r) → (0 < length b → Begins (next one) ends_next b) →
          Begins both ends_next (s.before ++ b)
      begun [] r e m = (
        text,
        subst (λ ws. IsWhole both ends_next (ws ++ text)) (sym (append-nil s.before))
            (joined s.before text one (λ rest f. s.more (text ++ rest) (meets rest f)) (starts one)),
      )
      begun (word ∷ ws) r e m =
          let b = m (omega arith) in (
            b.0,
            subst (IsWhole both ends_next) (sym (append_assoc s.before (word ∷ ws) b.0))
                (joined s.before ((word ∷ ws) ++ b.0) one (λ rest f. s.near (((word ∷ ws) ++ b.0) ++ rest) (sym e)) b.1),
          )

      onward : (a : Answer B) (b : List Text) → GoesOn (next one) ends_next b a → front left ≡ front (b ++ rest_of a) →
          GoesOn both ends_next (s.before ++ b) a
      onward (got tree last) b m e = λ other f.
          ap both (append_assoc s.before b other)
          ∙ then_got (read (s.before ++ (b ++ other))) next one (b ++ other) (ended b tree last other e (m other f) f)
          ∙ m other f
      onward (stop why last) b m e = λ p. begun b last e m

  pub then_sees : (words : List Text) (a : Answer A) → Sees read ends words a →
      ((one : A) (left : List Text) → a ≡ got one left → Sees (next one) ends_next left (next one left)) →
      Sees both ends_next words (and_then a next)
  then_sees words (got one left) s t = got_then words one left s (t one left refl)
  then_sees words (stop why left) s t = record {
    before = s.before;
    whole = s.whole;
    near = λ other e. ap (λ a. and_then a next) (s.near other e);
    more = λ p. refused_first s.before (s.more p);
  }

  pub then_lawful : Lawful read ends → ((one : A) → Lawful (next one) ends_next) → Lawful both ends_next
  then_lawful first second words = then_sees words (read words) (first words) (λ one left e. second one left)

  pub then_whole : (begins : List Text) → IsWhole read ends begins → IsWhole both ends_next (begins ++ text)
  then_whole begins w = joined begins text w.0 (λ rest e. w.1 (text ++ rest) (meets rest e)) (starts w.0)

pub then_rule : {A B : Type 0} (read : Reader A) (next : A → Reader B) (ends ends_next : Ends) (begins text : List Text) →
    Links next ends ends_next → Meets ends ends_next text →
    Rule read ends begins → ((one : A) → Rule (next one) ends_next text) →
    Rule (λ words. and_then (read words) next) ends_next (begins ++ text)
then_rule read next ends ends_next begins text links meets r s = record {
  lawful = then_lawful read next ends ends_next text links meets (λ one. (s one).starts) r.lawful (λ one. (s one).lawful);
  starts = then_whole read next ends ends_next text links meets (λ one. (s one).starts) begins r.starts;
}

-- One or another. Where the one chosen reads nothing, what follows its end chooses it too.

module _ {A : Type 0} (test : Option Text → Bool) (one other : Reader A) (ends : Ends)
    (one_links : (tree : A) (words : List Text) → one words ≡ got tree words → ends (front words) ≡ true → test (front words) ≡ true)
    (other_links : (tree : A) (words : List Text) → other words ≡ got tree words → ends (front words) ≡ true →
    test (front words) ≡ false) where
  abbrev pub either : Reader A
  either = choose test one other

  chosen_sees : (read : Reader A) (answer : Bool) → ((words : List Text) → test (front words) ≡ answer → either words ≡ read words) →
      ((tree : A) (words : List Text) → read words ≡ got tree words → ends (front words) ≡ true → test (front words) ≡ answer) →
      (words : List Text) (a : Answer A) → test (front words) ≡ answer → Sees read ends words a → Sees either ends words a
  chosen_sees read answer picks links words a is s = record {
    before = s.before;
    whole = s.whole;
    near = λ left e. picks (s.before ++ left) (ap test (front_same s.before left (rest_of a) e ∙ sym (ap front s.whole)) ∙ is)
        ∙ s.near left e;
    more = onward a s.before s.more (ap test (sym (ap front s.whole)) ∙ is);
  }
    where
      ended : (b : List Text) (tree : A) (r left : List Text) → test (front (b ++ r)) ≡ answer → read (b ++ left) ≡ got tree left →
          ends (front left) ≡ true →
          either (b ++ left) ≡ got tree left
      ended [] tree r left e m f = picks left (links tree left m f) ∙ m
      ended (word ∷ ws) tree r left e m f = picks ((word ∷ ws) ++ left) e ∙ m

      begun : (b r : List Text) → test (front (b ++ r)) ≡ answer → (0 < length b → Begins read ends b) → 0 < length b → Begins either ends b
      begun [] r e m p = absurd (below 0 p)
        where
          below : (n : ℕ) → n < n → ⊥
          below n e = omega (arith, e)
      begun (word ∷ ws) r e m p = let b = m p in (b.0, (b.1.0, λ rest f. picks (((word ∷ ws) ++ b.0) ++ rest) e ∙ b.1.1 rest f))

      onward : (a : Answer A) (b : List Text) → GoesOn read ends b a → test (front (b ++ rest_of a)) ≡ answer → GoesOn either ends b a
      onward (got tree r) b m e = λ left f. ended b tree r left e (m left f) f
      onward (stop why r) b m e = begun b r e m

  pub choose_sees : (words : List Text) → (test (front words) ≡ true → Sees one ends words (one words)) →
      (test (front words) ≡ false → Sees other ends words (other words)) →
      Sees either ends words (either words)
  choose_sees words s t =
      elim (cases_Bool (test (front words))) [
        | inl holds ↦
            subst (Sees either ends words) (sym (chosen (test (front words)) (one words) (other words) holds))
            (chosen_sees one true (λ ws e. chosen (test (front ws)) (one ws) (other ws) e) one_links words (one words) holds (s holds))
        | inr fails ↦
            subst (Sees either ends words) (sym (passed_over (test (front words)) (one words) (other words) fails))
            (chosen_sees other false (λ ws e. passed_over (test (front ws)) (one ws) (other ws) e) other_links words (other words) fails
            (t fails))
      ]

-- the one, where it passes a word, or what was read before
pub option_rule : {A : Type 0} (test : Option Text → Bool) (one : Reader A) (tree : A) (ends : Ends) → Eats one →
    ((first : Option Text) → ends first ≡ true → test first ≡ false) →
    Lawful one ends → Rule (choose test one (got tree)) ends []
option_rule test one tree ends eats not_tested lawful = record {
  lawful = λ words. choose_sees test one (got tree) ends one_links (λ t ws is e. not_tested (front ws) e) words (λ e. lawful words)
      (λ e. (got_rule tree ends).lawful words);
  starts = (tree, λ rest e. passed_over (test (front rest)) _ _ (not_tested (front rest) e));
}
  where
    below : (n : ℕ) → n < n → ⊥
    below n e = omega (arith, e)

    one_links : (t : _) (ws : List Text) → one ws ≡ got t ws → ends (front ws) ≡ true → test (front ws) ≡ true
    one_links t ws is e = absurd (below (length ws) (eats ws t ws is))

-- two that each pass a word; the second one begins with these words
pub either_rule : {A : Type 0} (test : Option Text → Bool) (one other : Reader A) (ends : Ends) (text : List Text) → Eats one → Eats other →
    Lawful one ends → Rule other ends text →
    ((rest : List Text) → test (front (text ++ rest)) ≡ false) → Rule (choose test one other) ends text
either_rule test one other ends text eats eats_other lawful r begins = record {
  lawful = λ words. choose_sees test one other ends (λ t ws is e. absurd (below (length ws) (eats ws t ws is)))
      (λ t ws is e. absurd (below (length ws) (eats_other ws t ws is))) words
      (λ e. lawful words) (λ e. r.lawful words);
  starts = (r.starts.0, λ rest e. passed_over (test (front (text ++ rest))) _ _ (begins rest) ∙ r.starts.1 rest e);
}
  where
    below : (n : ℕ) → n < n → ⊥
    below n e = omega (arith, e)

-- Turn after turn

module _ {A : Type 0} (turn : A → Reader A) (test : Option Text → Bool) (eats : (tree : A) → Eats (turn tree)) where
  then_same : (a : Answer A) (f g : A → Reader A) → ((tree : A) (left : List Text) → a ≡ got tree left → f tree left ≡ g tree left) →
      and_then a f ≡ and_then a g
  then_same (got tree left) f g same = same tree left refl
  then_same (stop why left) f g same = refl

  enough : (a b : ℕ) (tree : A) (words : List Text) → length words < a → length words < b →
      rounds turn test a tree words ≡ rounds turn test b tree words
  enough zero b tree words p q = absurd (omega arith)
  enough (suc a) zero tree words p q = absurd (omega arith)
  enough (suc a) (suc b) tree words p q =
      ap (λ r. if test (front words) then r else got tree words)
      (then_same (turn tree words) _ _
      (λ next left e. enough a b next left (lower_one (length left) (length words) a (eats tree words next left e) p)
      (lower_one (length left) (length words) b (eats tree words next left e) q)))
    where
      lower_one : (l w n : ℕ) → l < w → w < suc n → l < n
      lower_one l w n e f = omega arith

  rounds_keep : (fuel : ℕ) (tree : A) (words : List Text) (last : A) (left : List Text) → rounds turn test fuel tree words ≡ got last left →
      length left ≤ length words
  rounds_keep zero tree words last left e = absurd (stop_got e)
  rounds_keep (suc fuel) tree words last left e =
      elim (cases_Bool (test (front words))) [
        | inl holds ↦
            let p = parts_of (turn tree words) (rounds turn test fuel) last left (sym (chosen (test (front words)) _ _ holds) ∙ e) in
            fewer (length left) (length p.between) (length words) (rounds_keep fuel p.one p.between last left p.second)
            (eats tree words p.one p.between p.first)
        | inr fails ↦
            let same = sym (passed_over (test (front words)) (and_then (turn tree words) (rounds turn test fuel)) _ fails) ∙ e in
            subst (λ ws. length ws ≤ length words) (got_left same) (no_more (length words))
      ]
    where
      fewer : (a b c : ℕ) → a ≤ b → b < c → a ≤ c
      fewer a b c e f = omega arith

      no_more : (n : ℕ) → n ≤ n
      no_more n = omega arith

  -- what is left is no more than what there was
  pub turns_keep : (tree : A) (words : List Text) (last : A) (left : List Text) → turns turn test tree words ≡ got last left →
      length left ≤ length words
  turns_keep tree words last left e = rounds_keep (suc (length words)) tree words last left e

  -- a turn
  pub unrolled : (tree : A) (words : List Text) → turns turn test tree words ≡ choose test (λ ws. and_then (turn tree ws) (turns turn test))
      (got tree) words
  unrolled tree words =
      ap (λ r. if test (front words) then r else got tree words)
      (then_same (turn tree words) _ _ (λ next left e. enough (length words) (suc (length left)) next left (eats tree words next left e)
      (below_next (length left))))
    where
      below_next : (n : ℕ) → n < suc n
      below_next n = omega arith

  pub turns_end : (tree : A) (words : List Text) → test (front words) ≡ false → turns turn test tree words ≡ got tree words
  turns_end tree words e = unrolled tree words ∙ passed_over (test (front words)) _ _ e

  pub turns_on : (tree : A) (words : List Text) → test (front words) ≡ true →
      turns turn test tree words ≡ and_then (turn tree words) (turns turn test)
  turns_on tree words e = unrolled tree words ∙ chosen (test (front words)) _ _ e

  module _ (ends_turn ends : Ends) (lawful : (tree : A) → Lawful (turn tree) ends_turn)
      (turned : (first : Option Text) → ends first ≡ true → ends_turn first ≡ true)
      (not_tested : (first : Option Text) → ends first ≡ true → test first ≡ false) where
    pub turns_start : (tree : A) → IsWhole (turns turn test tree) ends []
    turns_start tree = (tree, λ rest e. turns_end tree rest (not_tested (front rest) e))

    abbrev pub a_turn : A → Reader A
    a_turn tree words = and_then (turn tree words) (turns turn test)

    turns_see : (n : ℕ) (tree : A) (words : List Text) → length words < n →
        Sees (turns turn test tree) ends words (turns turn test tree words)
    turns_see zero tree words p = absurd (omega arith)
    turns_see (suc n) tree words p =
        subst (Sees (turns turn test tree) ends words) (sym (unrolled tree words))
        (sees_same (turns turn test tree) (choose test (a_turn tree) (got tree)) ends words _ (unrolled tree)
        (choose_sees test (a_turn tree) (got tree) ends turn_links (λ t ws is e. not_tested (front ws) e) words
        (λ e. then_sees (turn tree) (turns turn test) ends_turn ends [] (links_ends (turns turn test) ends_turn ends turned)
        (λ rest e. turned (front rest) e) turns_start words (turn tree words)
        (lawful tree words) (λ next left is. turns_see n next left
        (lower_one (length left) (length words) n (eats tree words next left is) p)))
        (λ e. (got_rule tree ends).lawful words)))
      where
        lower_one : (l w n : ℕ) → l < w → w < suc n → l < n
        lower_one l w n e f = omega arith

        clash : (a b : ℕ) → a ≤ b → b < a → ⊥
        clash a b e f = omega (arith, e, f)

        turn_links : (last : A) (ws : List Text) → a_turn tree ws ≡ got last ws → ends (front ws) ≡ true → test (front ws) ≡ true
        turn_links last ws is e =
            let p = parts_of (turn tree ws) (turns turn test) last ws is in
            absurd (clash (length ws) (length p.between) (turns_keep p.one p.between last ws p.second)
            (eats tree ws p.one p.between p.first))

    pub turns_rule : (tree : A) → Rule (turns turn test tree) ends []
    turns_rule tree = record {
      lawful = λ words. turns_see (suc (length words)) tree words (below_next (length words));
      starts =
          turns_start tree;
    }
      where
        below_next : (n : ℕ) → n < suc n
        below_next n = omega arith

-- what eats

pub then_eats : {A B : Type 0} (read : Reader A) (next : A → Reader B) →
    ((words : List Text) (one : A) (left : List Text) → read words ≡ got one left → length left ≤ length words) →
    ((one : A) → Eats (next one)) → Eats (λ words. and_then (read words) next)
then_eats read next keep eats words tree left e =
    let p = parts_of (read words) next tree left e in
    fewer (length left) (length p.between) (length words) (eats p.one p.between tree left p.second) (keep words p.one p.between p.first)
  where
    fewer : (a b c : ℕ) → a < b → b ≤ c → a < c
    fewer a b c e f = omega arith

pub lawful_keeps : {A : Type 0} (read : Reader A) (ends : Ends) → Lawful read ends → (words : List Text) (tree : A) (left : List Text) →
    read words ≡ got tree left → length left ≤ length words
lawful_keeps read ends lawful words tree left e = subst (λ a. length (rest_of a) ≤ length words) e
    (keeps read ends words (read words) (lawful words))

pub choose_eats : {A : Type 0} (test : Option Text → Bool) (one other : Reader A) → Eats one → Eats other → Eats (choose test one other)
choose_eats test one other p q words tree left e = by_test (test (front words)) e
  where
    by_test : (b : Bool) → (if b then one words else other words) ≡ got tree left → length left < length words
    by_test true e = p words tree left e
    by_test false e = q words tree left e
