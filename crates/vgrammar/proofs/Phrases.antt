-- What readers made of others read. A shape says the words of each tree, which trees may stand, what may follow one so that
-- it is read, and what follows where one was read.
use Rattle.std.proofs.Common.{◌≡◌, ℕ, suc, ◌+◌, ◌<◌, Bool, true, false, ◌&&◌, if◌then◌else◌, List, [], ◌∷◌, ◌++◌, Option, None, Some, length, refl, sym, ap, ◌∙◌, arith, subst, append_assoc, length-append}
use Rattle.std.specs.Str.{bytes_eq}
use Rattle.basis.proofs.Bools.{and_left, and_right, and_both}
use Rattle.vwords.specs.Words.{Text}
use Rattle.vexpr_parse.specs.Readers.{Answer, got, stop, Reader, front, goes, refused, follow, past}
use Rattle.vexpr_parse.specs.Lawful.{Ends, GoesOn, Sees, Lawful, Rule}
use Rattle.vexpr_parse.proofs.ReaderRules.{chosen, same_text, text_same, stop_got, got_tree, got_left, then_got, parts_of, Eats, got_rule, IsLead, led_sees}
use Rattle.vexpr_parse.proofs.ReaderLoops.{past_rule, links_ends, then_lawful}
use Rattle.vgrammar.specs.Parts.{Both, both, map_tree, bind, pair, if_meant, word_as}

pub record Shape (A : Type 0) : Type 0 where
  pub spell : A → List Text
  pub valid : A → Bool
  pub closes : A → Ends
  pub stops : A → Ends

-- what was read
pub record IsGot {A : Type 0} (shape : Shape A) (words : List Text) (tree : A) (left : List Text) : Type 0 where
  pub whole : words ≡ shape.spell tree ++ left
  pub valid : shape.valid tree ≡ true
  pub stopped : shape.stops tree (front left) ≡ true

abbrev pub Sound : {A : Type 0} → Reader A → Shape A → Type 0
Sound {A = A} read shape = (words : List Text) (tree : A) (left : List Text) → read words ≡ got tree left →
    IsGot shape words tree left

abbrev pub Complete : {A : Type 0} → Reader A → Shape A → Type 0
Complete {A = A} read shape =
    (tree : A) (rest : List Text) → shape.valid tree ≡ true → shape.closes tree (front rest) ≡ true →
    read (shape.spell tree ++ rest) ≡ got tree rest

-- a lawful reader that reads exactly the trees of a shape
pub record Phrase {A : Type 0} (read : Reader A) (ends : Ends) (shape : Shape A) : Type 0 where
  pub lawful : Lawful read ends
  pub sound : Sound read shape
  pub complete : Complete read shape
  pub closed : (tree : A) (first : Option Text) → ends first ≡ true → shape.closes tree first ≡ true

pub record Example {A : Type 0} (shape : Shape A) : Type 0 where
  pub tree : A
  pub valid : shape.valid tree ≡ true

pub phrase_rule : {A : Type 0} {read : Reader A} {ends : Ends} {shape : Shape A} → Phrase read ends shape → (e : Example shape) →
    Rule read ends (shape.spell e.tree)
phrase_rule p e = record {
  lawful = p.lawful;
  starts = (e.tree, λ rest f. p.complete e.tree rest e.valid (p.closed e.tree (front rest) f));
}

pub same_got : {A : Type 0} (shape : Shape A) (words : List Text) (x y : A) (a b : List Text) → got x a ≡ got y b →
    IsGot shape words x a → IsGot shape words y b
same_got shape words x y a b e g =
    subst (λ t. IsGot shape words t b) (got_tree e) (subst (λ ws. IsGot shape words x ws) (got_left e) g)

-- every tree has words
abbrev pub Worded : {A : Type 0} → Shape A → Type 0
Worded {A = A} shape = (tree : A) → shape.valid tree ≡ true → 0 < length (shape.spell tree)

pub sound_eats : {A : Type 0} (read : Reader A) (shape : Shape A) → Sound read shape → Worded shape → Eats read
sound_eats read shape sound some words tree left e =
    let g = sound words tree left e in
    fewer (length words) (length (shape.spell tree)) (length left)
    (ap length g.whole ∙ length-append (shape.spell tree) left) (some tree g.valid)
  where
    fewer : (w s l : ℕ) → w ≡ s + l → 0 < s → l < w
    fewer w s l e f = omega (arith, e, f)

-- anything may follow
abbrev pub always : Ends
always first = true

-- other ends

pub lawful_within : {A : Type 0} (read : Reader A) (ends fewer : Ends) →
    ((first : Option Text) → fewer first ≡ true → ends first ≡ true) →
    Lawful read ends → Lawful read fewer
lawful_within {A = A} read ends fewer within lawful words = by_answer (read words) (lawful words)
  where
    onward : (before : List Text) (a : Answer A) → GoesOn read ends before a → GoesOn read fewer before a
    onward before (got tree left) m = λ rest e. m rest (within (front rest) e)
    onward before (stop why left) m = λ p. let b = m p in (b.0, (b.1.0, λ rest e. b.1.1 rest (within (front rest) e)))

    by_answer : (a : Answer A) → Sees read ends words a → Sees read fewer words a
    by_answer a s = record { before = s.before; whole = s.whole; near = s.near; more = onward s.before a s.more }

pub phrase_within : {A : Type 0} {read : Reader A} {ends : Ends} {shape : Shape A} (fewer : Ends) → Phrase read ends shape →
    ((first : Option Text) → fewer first ≡ true → ends first ≡ true) → Phrase read fewer shape
phrase_within {read = read} {ends = ends} fewer p within = record {
  lawful = lawful_within read ends fewer within p.lawful;
  sound = p.sound;
  complete = p.complete;
  closed = λ tree first e. p.closed tree first (within first e);
}

-- What is made of what was read: with these words before it

pub record Makes {A B : Type 0} (make : A → B) (shape : Shape A) (out : Shape B) (head : List Text) : Type 0 where
  pub spelled : (tree : A) → out.spell (make tree) ≡ head ++ shape.spell tree
  pub valid : (tree : A) → out.valid (make tree) ≡ shape.valid tree
  pub closes : (tree : A) (first : Option Text) → out.closes (make tree) first ≡ true → shape.closes tree first ≡ true
  pub stops : (tree : A) (first : Option Text) → shape.stops tree first ≡ true → out.stops (make tree) first ≡ true

pub made_lawful : {A B : Type 0} (make : A → B) (read : Reader A) (ends : Ends) → Lawful read ends → Lawful (map_tree make read) ends
made_lawful make read ends lawful =
    then_lawful read (λ tree. got (make tree)) ends ends [] (links_ends _ ends ends (λ first e. e)) (λ rest e. e)
    (λ tree. (make tree, λ rest e. refl)) lawful (λ tree. (got_rule (make tree) ends).lawful)

pub made_sound : {A B : Type 0} (make : A → B) (read : Reader A) (shape : Shape A) (out : Shape B) (head : List Text) →
    Makes make shape out head → Sound read shape →
    (words : List Text) (tree : B) (left : List Text) → map_tree make read words ≡ got tree left → IsGot out (head ++ words) tree left
made_sound make read shape out head m sound words tree left e =
    let p = parts_of (read words) (λ t. got (make t)) tree left e in
    let g = sound words p.one p.between p.first in
    same_got out (head ++ words) (make p.one) tree p.between left p.second
    (record {
      whole = ap (λ ws. head ++ ws) g.whole ∙ sym (append_assoc head (shape.spell p.one) p.between)
          ∙ ap (λ ws. ws ++ p.between) (sym (m.spelled p.one));
      valid = m.valid p.one ∙ g.valid;
      stopped = m.stops p.one (front p.between) g.stopped;
    })

pub made_complete : {A B : Type 0} (make : A → B) (read : Reader A) (shape : Shape A) (out : Shape B) (head : List Text) →
    Makes make shape out head → Complete read shape → (tree : A) (rest : List Text) → out.valid (make tree) ≡ true →
    out.closes (make tree) (front rest) ≡ true → map_tree make read (shape.spell tree ++ rest) ≡ got (make tree) rest
made_complete make read shape out head m complete tree rest v c =
    then_got (read (shape.spell tree ++ rest)) (λ t. got (make t)) tree rest
    (complete tree rest (sym (m.valid tree) ∙ v) (m.closes tree (front rest) c))

-- what a tree is made of
pub record From {A B : Type 0} (make : A → B) (tree : B) : Type 0 where
  pub parts : A
  pub is : make parts ≡ tree

pub made_phrase : {A B : Type 0} (make : A → B) {read : Reader A} {ends : Ends} {shape : Shape A} (out : Shape B) →
    ((tree : B) → out.valid tree ≡ true → From make tree) → Makes make shape out [] →
    ((tree : B) (first : Option Text) → ends first ≡ true → out.closes tree first ≡ true) → Phrase read ends shape →
    Phrase (map_tree make read) ends out
made_phrase {A = A} {B = B} make {read = read} {ends = ends} {shape = shape} out back m closed p = record {
  lawful = made_lawful make read ends p.lawful;
  sound = made_sound make read shape out [] m p.sound;
  complete = λ tree rest v c. by_make tree (back tree v).parts (back tree v).is rest v c;
  closed = closed;
}
  where
    by_make : (tree : B) (x : A) → make x ≡ tree → (rest : List Text) → out.valid tree ≡ true → out.closes tree (front rest)
        ≡ true →
        map_tree make read (out.spell tree ++ rest) ≡ got tree rest
    by_make tree x e rest =
        let P : B → Type 0 = λ t. out.valid t ≡ true → out.closes t (front rest) ≡ true →
        map_tree make read (out.spell t ++ rest) ≡ got t rest in
        subst P e (λ v c. ap (λ ws. map_tree make read (ws ++ rest)) (m.spelled x)
        ∙ made_complete make read shape out [] m p.complete x rest v c)

-- Nothing

abbrev pub nothing_shape : Ends → Shape (Unit {0})
nothing_shape ends = record { spell = λ tree. []; valid = λ tree. true; closes = λ tree. ends; stops = λ tree first. true }

pub nothing_phrase : (ends : Ends) → Phrase (got tt) ends (nothing_shape ends)
nothing_phrase ends = record {
  lawful = (got_rule tt ends).lawful;
  sound = λ words tree left e. record { whole = got_left e; valid = refl; stopped = refl };
  complete = λ tree rest v c. refl;
  closed = λ tree first e. e;
}

-- This very word, and what is read behind it

abbrev pub past_shape : {A : Type 0} → Text → Shape A → Shape A
past_shape text shape = record {
  spell = λ tree. text ∷ shape.spell tree;
  valid = shape.valid;
  closes = shape.closes;
  stops = shape.stops;
}

pub past_word : {A : Type 0} (text : Text) (read : Reader A) (words : List Text) → past text read (text ∷ words) ≡ read words
past_word text read words = ap (λ l. follow l text words) (chosen (bytes_eq text text) (goes read) refused (text_same text))

pub past_sound : {A : Type 0} (text : Text) (read : Reader A) (shape : Shape A) → Sound read shape →
    Sound (past text read) (past_shape text shape)
past_sound text read shape sound [] tree left e = absurd (stop_got e)
past_sound text read shape sound (word ∷ words) tree left e = by_test (bytes_eq text word) refl e
  where
    by_test : (test : Bool) → bytes_eq text word ≡ test → follow (if test then goes read else refused) word words
        ≡ got tree left →
        IsGot (past_shape text shape) (word ∷ words) tree left
    by_test false is e = absurd (stop_got e)
    by_test true is e =
        let g = sound words tree left e in
        record {
          whole = ap (λ w. w ∷ words) (sym (same_text text word is)) ∙ ap (λ ws. text ∷ ws) g.whole;
          valid = g.valid;
          stopped = g.stopped;
        }

pub past_phrase : {A : Type 0} (text : Text) {read : Reader A} {ends : Ends} {shape : Shape A} → Phrase read ends shape →
    Example shape →
    Phrase (past text read) ends (past_shape text shape)
past_phrase text {read = read} {ends = ends} {shape = shape} p e = record {
  lawful = (past_rule text read ends (shape.spell e.tree) (phrase_rule p e)).lawful;
  sound = past_sound text read shape p.sound;
  complete = λ tree rest v c. past_word text read (shape.spell tree ++ rest) ∙ p.complete tree rest v c;
  closed = p.closed;
}

pub past_example : {A : Type 0} (text : Text) {shape : Shape A} → Example shape → Example (past_shape text shape)
past_example text e = record { tree = e.tree; valid = e.valid }

-- A word, as what it means

abbrev pub worded_shape : {A : Type 0} → (A → Text) → (A → Bool) → Ends → Shape A
worded_shape word valid ends = record {
  spell = λ tree. word tree ∷ [];
  valid = valid;
  closes = λ tree. ends;
  stops = λ tree first. true;
}

pub worded_phrase : {A : Type 0} (meaning : Text → Option A) (word : A → Text) (valid : A → Bool) (ends : Ends) →
    ((text : Text) (tree : A) → meaning text ≡ Some tree → (word tree ≡ text) × (valid tree ≡ true)) →
    ((tree : A) → valid tree ≡ true → meaning (word tree) ≡ Some tree) →
    Phrase (word_as meaning) ends (worded_shape word valid ends)
worded_phrase {A = A} meaning word valid ends written meant = record {
  lawful = led_sees (λ text. if_meant (meaning text)) ends (λ text. leads (meaning text));
  sound = sound;
  complete = λ tree rest v c. ap (λ m. follow (if_meant m) (word tree) rest) (meant tree v);
  closed = λ tree first e. e;
}
  where
    leads : (m : Option A) → IsLead ends (if_meant m)
    leads None = tt
    leads (Some tree) = ((got_rule tree ends).lawful, ([], (tree, λ rest e. refl)))

    sound : Sound (word_as meaning) (worded_shape word valid ends)
    sound [] tree left e = absurd (stop_got e)
    sound (text ∷ words) tree left e = by_meaning (meaning text) (written text) e
      where
        by_meaning : (m : Option A) → ((tree : A) → m ≡ Some tree → (word tree ≡ text) × (valid tree ≡ true)) →
            follow (if_meant m) text words ≡ got tree left → IsGot (worded_shape word valid ends) (text ∷ words) tree left
        by_meaning None f e = absurd (stop_got e)
        by_meaning (Some x) f e = same_got (worded_shape word valid ends) (text ∷ words) x tree words left e
            (record { whole = ap (λ w. w ∷ words) (sym (f x refl).0); valid = (f x refl).1; stopped = refl })

-- A pair

abbrev pub spell_both : {A B : Type 0} → Shape A → Shape B → Both A B → List Text
spell_both s t (both x y) = s.spell x ++ t.spell y

abbrev pub closes_both : {A B : Type 0} → Shape B → Both A B → Ends
closes_both t (both x y) = t.closes y

abbrev pub stops_both : {A B : Type 0} → Shape B → Both A B → Ends
stops_both t (both x y) = t.stops y

abbrev pub valid_both : {A B : Type 0} → Shape A → Shape B → Both A B → Bool
valid_both s t (both x y) = s.valid x && t.valid y

abbrev pub linked_shape : {A B : Type 0} → Shape A → Shape B → (Both A B → Bool) → Shape (Both A B)
linked_shape s t valid = record { spell = spell_both s t; valid = valid; closes = closes_both t; stops = stops_both t }

abbrev pub paired_shape : {A B : Type 0} → Shape A → Shape B → Shape (Both A B)
paired_shape s t = linked_shape s t (valid_both s t)

-- the two parts of a pair that may stand
pub record AreLinked {A B : Type 0} (s : Shape A) (t : Shape B) (x : A) (y : B) : Type 0 where
  pub first : s.valid x ≡ true
  pub second : t.valid y ≡ true
  pub meets : (rest : List Text) → t.closes y (front rest) ≡ true → s.closes x (front (t.spell y ++ rest)) ≡ true

no_words : (a b : List Text) → b ≡ a ++ b → a ≡ []
no_words [] b e = refl
no_words (word ∷ more) b e = absurd (longer (length more) (length b) (ap length e ∙ ap suc (length-append more b)))
  where
    longer : (m b : ℕ) → b ≡ suc (m + b) → ⊥
    longer m b e = omega (arith, e)

-- a shape of which fewer trees may stand
abbrev pub of_these : {A : Type 0} → Shape A → (A → Bool) → Shape A
of_these s valid = record { spell = s.spell; valid = valid; closes = s.closes; stops = s.stops }

module _ {A B : Type 0} {read : Reader A} {next : A → Reader B} {ends ends_next : Ends} {s : Shape A} (t : Shape B)
    (allows : A → B → Bool) (p : Phrase read ends s) (q : (x : A) → Phrase (next x) ends_next (of_these t (allows x)))
    (example : B) (may : (x : A) → allows x example ≡ true) (valid : Both A B → Bool)
    (begins : (rest : List Text) → ends_next (front rest) ≡ true → ends (front (t.spell example ++ rest)) ≡ true)
    (links : (x : A) (y : B) → allows x y ≡ true → t.spell y ≡ [] → (first : Option Text) → ends_next first ≡ true → ends first
    ≡ true)
    (join : (x : A) (y : B) (rest : List Text) → s.valid x ≡ true → allows x y ≡ true → s.stops x (front (t.spell y ++ rest))
    ≡ true →
    valid (both x y) ≡ true)
    (split : (x : A) (y : B) → valid (both x y) ≡ true → AreLinked s (of_these t (allows x)) x y) where
  linked_lawful : Lawful (bind read next) ends_next
  linked_lawful =
      then_lawful read (λ x. map_tree (both x) (next x)) ends ends_next (t.spell example) linking begins
      (λ x. (
        both x example,
        λ rest e.
            then_got (next x (t.spell example ++ rest)) (λ y. got (both x y)) example rest
            ((q x).complete example rest (may x) ((q x).closed example (front rest) e)),
      ))
      p.lawful (λ x. made_lawful (both x) (next x) ends_next (q x).lawful)
    where
      linking : (x : A) (tree : Both A B) (left : List Text) → map_tree (both x) (next x) left ≡ got tree left →
          ends_next (front left) ≡ true → ends (front left) ≡ true
      linking x tree left e f =
          let r = parts_of (next x left) (λ y. got (both x y)) tree left e in
          let g = (q x).sound left r.one r.between r.first in
          links x r.one g.valid (no_words (t.spell r.one) left (g.whole ∙ ap (λ ws. t.spell r.one ++ ws) (got_left r.second)))
          (front left) f

  linked_sound : Sound (bind read next) (linked_shape s t valid)
  linked_sound words tree left e =
      let a = parts_of (read words) (λ x. map_tree (both x) (next x)) tree left e in
      let b = parts_of (next a.one a.between) (λ y. got (both a.one y)) tree left a.second in
      let g = p.sound words a.one a.between a.first in
      let h = (q a.one).sound a.between b.one b.between b.first in
      same_got (linked_shape s t valid) words (both a.one b.one) tree b.between left b.second
      (record {
        whole = g.whole ∙ ap (λ ws. s.spell a.one ++ ws) h.whole ∙ sym (append_assoc (s.spell a.one) (t.spell b.one) b.between);
        valid = join a.one b.one b.between g.valid h.valid
            (subst (λ ws. s.stops a.one (front ws) ≡ true) h.whole g.stopped);
        stopped = h.stopped;
      })

  linked_complete : Complete (bind read next) (linked_shape s t valid)
  linked_complete (both x y) rest v c =
      let l = split x y v in
      ap (bind read next) (append_assoc (s.spell x) (t.spell y) rest)
      ∙ then_got (read (s.spell x ++ (t.spell y ++ rest))) (λ x. map_tree (both x) (next x)) x (t.spell y ++ rest)
      (p.complete x (t.spell y ++ rest) l.first (l.meets rest c))
      ∙ then_got (next x (t.spell y ++ rest)) (λ y. got (both x y)) y rest ((q x).complete y rest l.second c)

  pub linked_phrase : Phrase (bind read next) ends_next (linked_shape s t valid)
  linked_phrase = record { lawful = linked_lawful; sound = linked_sound; complete = linked_complete; closed = closed }
    where
      closed : (tree : Both A B) (first : Option Text) → ends_next first ≡ true → closes_both t tree first ≡ true
      closed (both x y) first e = (q x).closed y first e

-- where the second part begins, or ends if it has no words, the first one ends
abbrev pub Opens : {B : Type 0} → Ends → Shape B → Type 0
Opens {B = B} ends t = (y : B) → t.valid y ≡ true → (rest : List Text) → t.closes y (front rest) ≡ true →
    ends (front (t.spell y ++ rest)) ≡ true

pub paired_phrase : {A B : Type 0} {read : Reader A} {next : Reader B} {ends ends_next : Ends} {s : Shape A} {t : Shape B} →
    Phrase read ends s → Phrase next ends_next t → Example t → Opens ends t →
    ((y : B) → t.valid y ≡ true → t.spell y ≡ [] → (first : Option Text) → ends_next first ≡ true → ends first ≡ true) →
    Phrase (pair read next) ends_next (paired_shape s t)
paired_phrase {ends = ends} {s = s} {t = t} p q e opens links =
    linked_phrase t (λ x. t.valid) p (λ x. q) e.tree (λ x. e.valid) (valid_both s t)
    (λ rest f. opens e.tree e.valid rest (q.closed e.tree (front rest) f)) (λ x. links)
    (λ x y rest v w f. and_both (s.valid x) (t.valid y) v w)
    (λ x y v. record {
      first = and_left (s.valid x) (t.valid y) v;
      second = and_right (s.valid x) (t.valid y) v;
      meets = λ rest c. p.closed x (front (t.spell y ++ rest)) (opens y (and_right (s.valid x) (t.valid y) v) rest c);
    })

pub paired_example : {A B : Type 0} {s : Shape A} {t : Shape B} → Example s → Example t → Example (paired_shape s t)
paired_example {s = s} {t = t} e f = record {
  tree = both e.tree f.tree;
  valid = and_both (s.valid e.tree)
      (t.valid f.tree) e.valid f.valid;
}

-- a part, and then this very word
pub before_phrase : {A B : Type 0}
    (text : Text) {read : Reader A} {next : Reader B} {ends ends_next : Ends} {s : Shape A} {t : Shape B} →
    Phrase read ends s → Phrase next ends_next t → Example t → ends (Some text) ≡ true →
    Phrase (pair read (past text next)) ends_next (paired_shape s (past_shape text t))
before_phrase text {t = t} p q e opens =
    paired_phrase p (past_phrase text q e) (past_example text e) (λ y v rest c. opens)
    (λ y v clash. absurd (no_word text (t.spell y) clash))
  where
    no_word : (text : Text) (words : List Text) → text ∷ words ≡ [] → ⊥
    no_word text words e = cc

-- a part that may end anywhere, and then another
pub free_phrase : {A B : Type 0} {read : Reader A} {next : Reader B} {ends_next : Ends} {s : Shape A} {t : Shape B} →
    Phrase read always s → Phrase next ends_next t → Example t → Phrase (pair read next) ends_next (paired_shape s t)
free_phrase p q e = paired_phrase p q e (λ y v rest c. refl) (λ y v clash first f. refl)

-- a part, and another that has words
pub next_phrase : {A B : Type 0} {read : Reader A} {next : Reader B} {ends ends_next : Ends} {s : Shape A} {t : Shape B} →
    Phrase read ends s → Phrase next ends_next t → Example t → Worded t → Opens ends t →
    Phrase (pair read next) ends_next (paired_shape s t)
next_phrase {t = t} p q e some opens =
    paired_phrase p q e opens (λ y v none. absurd (no_length (t.spell y) none (some y v)))
  where
    no_length : (words : List Text) → words ≡ [] → 0 < length words → ⊥
    no_length words e f = nought (length words) (ap length e) f
      where
        nought : (n : ℕ) → n ≡ 0 → 0 < n → ⊥
        nought n e f = omega (arith, e, f)
