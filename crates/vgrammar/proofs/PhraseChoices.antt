-- What readers made of others read, continued: what may be left out, one or another, one behind the other, where levels are left.
use Rattle.std.proofs.Common.{◌≡◌, ℕ, zero, suc, ◌<◌, Bool, true, false, ◌&&◌, not, nat_le, if◌then◌else◌, List, [], ◌∷◌, ◌++◌, Option, None, Some, length, flat_map, refl, sym, ap, ◌∙◌, arith, inl, inr, subst, append_assoc}
use Rattle.std.proofs.lemmas.Bool.{cases_Bool, not-true}
use Rattle.std.proofs.lemmas.List.{append-nil}
use Rattle.basis.proofs.Bools.{and_left, and_right, and_both}
use Rattle.vwords.specs.Words.{Text}
use Rattle.vexpr_parse.specs.declared.stop.Stop.TheVariants.{TooDeep}
use Rattle.vexpr_parse.specs.Readers.{got, stop, Reader, front, and_then, rounds, turns}
use Rattle.vexpr_parse.specs.Lawful.{Ends, Lawful}
use Rattle.vexpr_parse.proofs.ReaderRules.{chosen, passed_over, stop_got, got_tree, got_left, then_got, parts_of, Eats}
use Rattle.vexpr_parse.proofs.ReaderLoops.{option_rule, choose_sees, turns_end, turns_on, turns_rule}
use Rattle.vgrammar.specs.Parts.{Either, one_way, other_way, map_tree, one_behind, many, maybe, either, roomy}
use Rattle.vgrammar.proofs.Phrases.{Shape, Sound, Complete, Phrase, same_got, Worded, sound_eats, lawful_within, Makes, made_lawful, made_sound, made_complete}

pub made_eats : {A B : Type 0} (make : A → B) (read : Reader A) → Eats read → Eats (map_tree make read)
made_eats make read eats words tree left e =
    let p = parts_of (read words) (λ t. got (make t)) tree left e in
    subst (λ ws. length ws < length words) (got_left p.second) (eats words p.one p.between p.first)

-- a tree's first word passes the test
abbrev pub Tested : {A : Type 0} → (Option Text → Bool) → Bool → Shape A → Type 0
Tested {A = A} test answer s = (tree : A) → s.valid tree ≡ true → (rest : List Text) → test (front (s.spell tree ++ rest))
    ≡ answer

-- What may be left out

abbrev pub ends_maybe : (Option Text → Bool) → Ends → Ends
ends_maybe test ends first = ends first && not (test first)

abbrev pub spell_maybe : {A : Type 0} → Shape A → Option A → List Text
spell_maybe s None = []
spell_maybe s (Some tree) = s.spell tree

abbrev pub valid_maybe : {A : Type 0} → Shape A → Option A → Bool
valid_maybe s None = true
valid_maybe s (Some tree) = s.valid tree

abbrev pub closes_maybe : {A : Type 0} → (Option Text → Bool) → Ends → Shape A → Option A → Ends
closes_maybe test ends s None = ends_maybe test ends
closes_maybe test ends s (Some tree) = s.closes tree

abbrev pub stops_maybe : {A : Type 0} → (Option Text → Bool) → Shape A → Option A → Ends
stops_maybe test s None first = not (test first)
stops_maybe test s (Some tree) first = s.stops tree first

abbrev pub maybe_shape : {A : Type 0} → (Option Text → Bool) → Ends → Shape A → Shape (Option A)
maybe_shape test ends s = record {
  spell = spell_maybe s;
  valid = valid_maybe s;
  closes = closes_maybe test ends s;
  stops = stops_maybe test s;
}

pub maybe_phrase : {A : Type 0} (test : Option Text → Bool) {read : Reader A} {ends : Ends} {s : Shape A} →
    Phrase read ends s → Worded s →
    Tested test true s → Phrase (maybe test read) (ends_maybe test ends) (maybe_shape test ends s)
maybe_phrase {A = A} test {read = read} {ends = ends} {s = s} p some tests = record {
  lawful = (option_rule test (map_tree Some read) None (ends_maybe test ends)
      (made_eats Some read (sound_eats read s p.sound some)) not_tested
      lawful).lawful;
  sound = sound;
  complete = complete;
  closed = closed;
}
  where
    not_tested : (first : Option Text) → ends_maybe test ends first ≡ true → test first ≡ false
    not_tested first e = not-true (test first) (and_right (ends first) (not (test first)) e)

    makes : Makes Some s (maybe_shape test ends s) []
    makes = record { spelled = λ tree. refl; valid = λ tree. refl; closes = λ tree first e. e; stops = λ tree first e. e }

    lawful : Lawful (map_tree Some read) (ends_maybe test ends)
    lawful = lawful_within (map_tree Some read) ends (ends_maybe test ends)
        (λ first f. and_left (ends first) (not (test first)) f) (made_lawful Some read ends p.lawful)

    sound : Sound (maybe test read) (maybe_shape test ends s)
    sound words tree left f =
        elim (cases_Bool (test (front words))) [
          | inl holds ↦ made_sound Some read s (maybe_shape test ends s) [] makes p.sound words tree left
              (sym (chosen (test (front words)) _ (got None words) holds) ∙ f)
          | inr fails ↦
              same_got (maybe_shape test ends s) words None tree words left
              (sym (passed_over (test (front words)) (map_tree Some read words) _ fails) ∙ f)
              (record { whole = refl; valid = refl; stopped = ap not fails })
        ]

    complete : Complete (maybe test read) (maybe_shape test ends s)
    complete None rest v c = passed_over (test (front rest)) _ _ (not_tested (front rest) c)
    complete (Some tree) rest v c =
        chosen (test (front (s.spell tree ++ rest))) _ _ (tests tree v rest)
        ∙ then_got (read (s.spell tree ++ rest)) (λ t. got (Some t)) tree rest (p.complete tree rest v c)

    closed : (tree : Option A) (first : Option Text) → ends_maybe test ends first ≡ true → closes_maybe test ends s tree first
        ≡ true
    closed None first f = f
    closed (Some tree) first f = p.closed tree first (and_left (ends first) (not (test first)) f)

-- One or another

abbrev pub spell_either : {A B : Type 0} → Shape A → Shape B → Either A B → List Text
spell_either s t (one_way x) = s.spell x
spell_either s t (other_way y) = t.spell y

abbrev pub valid_either : {A B : Type 0} → Shape A → Shape B → Either A B → Bool
valid_either s t (one_way x) = s.valid x
valid_either s t (other_way y) = t.valid y

abbrev pub closes_either : {A B : Type 0} → Shape A → Shape B → Either A B → Ends
closes_either s t (one_way x) = s.closes x
closes_either s t (other_way y) = t.closes y

abbrev pub stops_either : {A B : Type 0} → Shape A → Shape B → Either A B → Ends
stops_either s t (one_way x) = s.stops x
stops_either s t (other_way y) = t.stops y

abbrev pub either_shape : {A B : Type 0} → Shape A → Shape B → Shape (Either A B)
either_shape s t = record {
  spell = spell_either s t;
  valid = valid_either s t;
  closes = closes_either s t;
  stops = stops_either s t;
}

module _ {A B : Type 0} (test : Option Text → Bool) {read : Reader A} {other : Reader B} {ends : Ends} {s : Shape A} {t : Shape B}
    (p : Phrase read ends s) (q : Phrase other ends t) (some : Worded s)
    (links : (tree : B) (words : List Text) → other words ≡ got tree words → ends (front words) ≡ true → test (front words)
    ≡ false)
    (tests : Tested test true s)
    (fails_test : (tree : B) → t.valid tree ≡ true → (rest : List Text) → t.closes tree (front rest) ≡ true →
    test (front (t.spell tree ++ rest)) ≡ false) where
  below : (n : ℕ) → n < n → ⊥
  below n e = omega (arith, e)

  makes_one : Makes one_way s (either_shape s t) []
  makes_one = record { spelled = λ tree. refl; valid = λ tree. refl; closes = λ tree first e. e; stops = λ tree first e. e }

  makes_other : Makes other_way t (either_shape s t) []
  makes_other = record { spelled = λ tree. refl; valid = λ tree. refl; closes = λ tree first e. e; stops = λ tree first e. e }

  no_other : (tree : Either A B) (words : List Text) → map_tree other_way other words ≡ got tree words → ends (front words) ≡ true →
      test (front words) ≡ false
  no_other tree words is e =
      let a = parts_of (other words) (λ t. got (other_way t)) tree words is in
      links a.one words (a.first ∙ ap (got a.one) (got_left a.second)) e

  either_lawful : Lawful (either test read other) ends
  either_lawful words =
      choose_sees test (map_tree one_way read) (map_tree other_way other) ends
      (λ tree ws is e. absurd
      (below (length ws) (made_eats one_way read (sound_eats read s p.sound some) ws tree ws is))) no_other
      words (λ e. made_lawful one_way read ends p.lawful words) (λ e. made_lawful other_way other ends q.lawful words)

  either_sound : Sound (either test read other) (either_shape s t)
  either_sound words tree left f =
      elim (cases_Bool (test (front words))) [
        | inl holds ↦ made_sound one_way read s (either_shape s t) [] makes_one p.sound words tree left
            (sym (chosen (test (front words)) _ (map_tree other_way other words) holds) ∙ f)
        | inr fails ↦ made_sound other_way other t (either_shape s t) [] makes_other q.sound words tree left
            (sym (passed_over (test (front words)) (map_tree one_way read words) _ fails) ∙ f)
      ]

  either_complete : Complete (either test read other) (either_shape s t)
  either_complete (one_way x) rest v c =
      chosen (test (front (s.spell x ++ rest))) _ _ (tests x v rest)
      ∙ made_complete one_way read s (either_shape s t) [] makes_one p.complete x rest v c
  either_complete (other_way y) rest v c =
      passed_over (test (front (t.spell y ++ rest))) _ _ (fails_test y v rest c)
      ∙ made_complete other_way other t (either_shape s t) [] makes_other q.complete y rest v c

  either_closed : (tree : Either A B) (first : Option Text) → ends first ≡ true → closes_either s t tree first ≡ true
  either_closed (one_way x) first e = p.closed x first e
  either_closed (other_way y) first e = q.closed y first e

  -- the second one may have no words
  pub either_open_phrase : Phrase (either test read other) ends (either_shape s t)
  either_open_phrase = record {
    lawful = either_lawful;
    sound = either_sound;
    complete = either_complete;
    closed = either_closed;
  }

pub either_phrase : {A B : Type 0} (test : Option Text → Bool) {read : Reader A} {other : Reader B} {ends : Ends} {s : Shape A}
    {t : Shape B} → Phrase read ends s → Phrase other ends t → Worded s → Worded t → Tested test true s → Tested test false t →
    Phrase (either test read other) ends (either_shape s t)
either_phrase test {other = other} {t = t} p q some some_other tests fails_test =
    either_open_phrase test p q some
    (λ tree words is e. absurd (never (length words) (sound_eats other t q.sound some_other words tree words is)))
    tests (λ tree v rest c. fails_test tree v rest)
  where
    never : (n : ℕ) → n < n → ⊥
    never n e = omega (arith, e)

-- neither of two begins with such a word
pub either_tested : {A B : Type 0} (test : Option Text → Bool) (answer : Bool) (s : Shape A) (t : Shape B) →
    Tested test answer s →
    Tested test answer t → Tested test answer (either_shape s t)
either_tested test answer s t p q (one_way x) v rest = p x v rest
either_tested test answer s t p q (other_way y) v rest = q y v rest

pub either_worded : {A B : Type 0} (s : Shape A) (t : Shape B) → Worded s → Worded t → Worded (either_shape s t)
either_worded s t p q (one_way x) v = p x v
either_worded s t p q (other_way y) v = q y v

-- Where levels are left

pub roomy_phrase : {A : Type 0} (below levels : ℕ) {read : Reader A} {ends : Ends} {s : Shape A} →
    (nat_le levels below ≡ true → Phrase read ends s) →
    ((tree : A) → s.valid tree ≡ true → nat_le levels below ≡ true) →
    ((tree : A) (first : Option Text) → ends first ≡ true → s.closes tree first ≡ true) → Phrase (roomy below levels read) ends s
roomy_phrase {A = A} below levels {read = read} {ends = ends} {s = s} p deep closed =
    elim (cases_Bool (nat_le levels below)) [
      | inl holds ↦ by_room (nat_le levels below) holds
      | inr fails ↦ no_room (nat_le levels below) fails (λ tree v. clash (nat_le levels below) fails (deep tree v))
    ]
  where
    clash : (b : Bool) → b ≡ false → b ≡ true → ⊥
    clash true e f = let no : true ≡ false = e in cc
    clash false e f = let no : false ≡ true = f in cc

    by_room : (b : Bool) → nat_le levels below ≡ true →
        Phrase (λ words. if nat_le levels below then read words else stop TooDeep words) ends s
    by_room b e =
        subst (λ (c : Bool). Phrase (λ words. if c then read words else stop TooDeep words) ends s) (sym e) (p e)

    deep_lawful : Lawful {A = A} (λ words. stop TooDeep words) ends
    deep_lawful words = record { before = []; whole = refl; near = λ other e. refl; more = λ e. absurd (below_zero 0 e) }
      where
        below_zero : (n : ℕ) → n < n → ⊥
        below_zero n e = omega (arith, e)

    no_room : (b : Bool) → nat_le levels below ≡ false → ((tree : A) → s.valid tree ≡ true → ⊥) →
        Phrase (λ words. if nat_le levels below then read words else stop TooDeep words) ends s
    no_room b e none =
        subst (λ (c : Bool). Phrase (λ words. if c then read words else stop TooDeep words) ends s) (sym e)
        (record {
          lawful = deep_lawful;
          sound = λ words tree left f. absurd (stop_got f);
          complete = λ tree rest v c. absurd (none tree v);
          closed = closed;
        })

-- One behind the other

abbrev pub ends_many : (Option Text → Bool) → Ends → Ends
ends_many test ends first = ends first && not (test first)

abbrev pub allowed : {A : Type 0} → Shape A → (List A → A → Bool) → List A → Shape A
allowed base allows list = record { spell = base.spell; valid = allows list; closes = base.closes; stops = base.stops }

abbrev pub allows_all : {A : Type 0} → (List A → A → Bool) → List A → List A → Bool
allows_all allows so_far [] = true
allows_all allows so_far (tree ∷ more) = allows so_far tree && allows_all allows (so_far ++ tree ∷ []) more

abbrev pub many_shape : {A : Type 0} → (Option Text → Bool) → Ends → Shape A → (List A → A → Bool) → Shape (List A)
many_shape test ends base allows = record {
  spell = flat_map base.spell;
  valid = allows_all allows [];
  closes = λ list. ends_many test ends;
  stops = λ list first. not (test first);
}

module _ {A : Type 0} (test : Option Text → Bool) (read : List A → Reader A) (ends : Ends) (base : Shape A)
    (allows : List A → A → Bool)
    (p : (list : List A) → Phrase (read list) ends (allowed base allows list))
    (some : (list : List A) (tree : A) → allows list tree ≡ true → 0 < length (base.spell tree))
    (tests : (list : List A) (tree : A) (rest : List Text) → allows list tree ≡ true → test (front (base.spell tree ++ rest))
    ≡ true)
    (follows : (list : List A) (tree : A) (rest : List Text) → allows list tree ≡ true → ends (front (base.spell tree ++ rest))
    ≡ true) where
  turn_eats : (list : List A) → Eats (one_behind read list)
  turn_eats list = made_eats (λ tree. list ++ tree ∷ []) (read list)
      (sound_eats (read list) (allowed base allows list) (p list).sound (some list))

  ended : (first : Option Text) → ends_many test ends first ≡ true → ends first ≡ true
  ended first e = and_left (ends first) (not (test first)) e

  not_tested : (first : Option Text) → ends_many test ends first ≡ true → test first ≡ false
  not_tested first e = not-true (test first) (and_right (ends first) (not (test first)) e)

  many_lawful : Lawful (many test read) (ends_many test ends)
  many_lawful =
      (turns_rule (one_behind read) test turn_eats ends (ends_many test ends)
      (λ list. made_lawful (λ tree. list ++ tree ∷ []) (read list) ends (p list).lawful) ended not_tested []).lawful

  record AreGot (so_far : List A) (words : List Text) (last : List A) (left : List Text) : Type 0 where
    list : List A
    is : last ≡ so_far ++ list
    whole : words ≡ flat_map base.spell list ++ left
    valid : allows_all allows so_far list ≡ true
    stopped : not (test (front left)) ≡ true

  rounds_sound : (fuel : ℕ) (so_far : List A) (words : List Text) (last : List A) (left : List Text) →
      rounds (one_behind read) test fuel so_far words ≡ got last left → AreGot so_far words last left
  rounds_sound zero so_far words last left e = absurd (stop_got e)
  rounds_sound (suc fuel) so_far words last left e =
      elim (cases_Bool (test (front words))) [
        | inl holds ↦
            let a = parts_of (one_behind read so_far words) (rounds (one_behind read) test fuel) last left
            (sym (chosen (test (front words)) _ (got so_far words) holds) ∙ e) in
            let b = parts_of (read so_far words) (λ t. got (so_far ++ t ∷ [])) a.one a.between a.first in
            let g = (p so_far).sound words b.one b.between b.first in
            let r = rounds_sound fuel (so_far ++ b.one ∷ []) b.between last left
            (ap (λ x. and_then x (rounds (one_behind read) test fuel)) b.second ∙ a.second) in
            record {
              list = b.one ∷ r.list;
              is = r.is ∙ append_assoc so_far (b.one ∷ []) r.list;
              whole = g.whole ∙ ap (λ ws. base.spell b.one ++ ws) r.whole
                  ∙ sym (append_assoc (base.spell b.one) (flat_map base.spell r.list) left);
              valid = and_both (allows so_far b.one) _ g.valid r.valid;
              stopped = r.stopped;
            }
        | inr fails ↦
            let same = sym (passed_over (test (front words))
            (and_then (one_behind read so_far words) (rounds (one_behind read) test fuel)) _ fails)
            ∙ e in
            record {
              list = [];
              is = sym (got_tree same) ∙ sym (append-nil so_far);
              whole = got_left same;
              valid = refl;
              stopped = ap not (subst (λ ws. test (front ws) ≡ false) (got_left same) fails);
            }
      ]

  many_sound : Sound (many test read) (many_shape test ends base allows)
  many_sound words tree left e =
      let r = rounds_sound (suc (length words)) [] words tree left e in
      record {
        whole = r.whole ∙ ap (λ l. flat_map base.spell l ++ left) (sym r.is);
        valid = ap (allows_all allows []) r.is ∙ r.valid;
        stopped = r.stopped;
      }

  -- what follows an element ends it: another one, or what ends them all
  pub behind_ended : (so_far more : List A) (rest : List Text) → allows_all allows so_far more ≡ true →
      ends_many test ends (front rest) ≡ true →
      ends (front (flat_map base.spell more ++ rest)) ≡ true
  behind_ended so_far [] rest v e = ended (front rest) e
  behind_ended so_far (next ∷ more) rest v e =
      ap (λ ws. ends (front ws)) (append_assoc (base.spell next) (flat_map base.spell more) rest)
      ∙ follows so_far next (flat_map base.spell more ++ rest) (and_left (allows so_far next) _ v)

  turns_complete : (list so_far : List A) (rest : List Text) → allows_all allows so_far list ≡ true →
      ends_many test ends (front rest) ≡ true →
      turns (one_behind read) test so_far (flat_map base.spell list ++ rest) ≡ got (so_far ++ list) rest
  turns_complete [] so_far rest v e =
      turns_end (one_behind read) test turn_eats so_far rest (not_tested (front rest) e)
      ∙ ap (λ l. got l rest) (sym (append-nil so_far))
  turns_complete (tree ∷ more) so_far rest v e =
      let after : List Text = flat_map base.spell more ++ rest in
      let here = and_left (allows so_far tree) _ v in
      let there = and_right (allows so_far tree) _ v in
      ap (turns (one_behind read) test so_far) (append_assoc (base.spell tree) (flat_map base.spell more) rest)
      ∙ turns_on (one_behind read) test turn_eats so_far (base.spell tree ++ after) (tests so_far tree after here)
      ∙ then_got (one_behind read so_far (base.spell tree ++ after)) (turns (one_behind read) test) (so_far ++ tree ∷ []) after
      (then_got (read so_far (base.spell tree ++ after)) (λ t. got (so_far ++ t ∷ [])) tree after
      ((p so_far).complete tree after here
      ((p so_far).closed tree (front after) (behind_ended (so_far ++ tree ∷ []) more rest there e))))
      ∙ turns_complete more (so_far ++ tree ∷ []) rest there e
      ∙ ap (λ l. got l rest) (append_assoc so_far (tree ∷ []) more)

  pub many_phrase : Phrase (many test read) (ends_many test ends) (many_shape test ends base allows)
  many_phrase = record {
    lawful = many_lawful;
    sound = many_sound;
    complete = λ tree rest v c. turns_complete tree [] rest v c;
    closed = λ tree first e. e;
  }
