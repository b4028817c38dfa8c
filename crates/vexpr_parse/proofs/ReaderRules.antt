-- The rules of readers: each combinator of rules is a rule.
use Rattle.std.proofs.Common.{◌≡◌, ℕ, suc, ◌+◌, ◌<◌, ◌≤◌, Bool, true, false, if◌then◌else◌, List, [], ◌∷◌, ◌++◌, Option, None, Some, length, refl, sym, ap, ◌∙◌, arith, subst, length-append}
use Rattle.std.specs.Str.{bytes_eq}
use Rattle.std.proofs.lemmas.Slice.Eq.{bytes_eq-Decides}
use Rattle.vwords.specs.Words.{Text}
use Rattle.vexpr_parse.specs.declared.stop.Stop.{Stop}
use Rattle.vexpr_parse.specs.declared.stop.Stop.TheVariants.{NoTree, TooDeep}
use Rattle.vexpr_parse.specs.Readers.{Answer, got, stop, Reader, front, and_then, Lead, goes, refused, lower, follow, by_word}
use Rattle.vexpr_parse.specs.Lawful.{rest_of, Ends, Begins, GoesOn, Sees, Lawful, Rule}

-- choices by a test

pub chosen : {A : Type 0} (test : Bool) (a b : A) → test ≡ true → (if test then a else b) ≡ a
chosen true a b e = refl
chosen false a b e = elim (false_true e) [ ]
  where
    false_true : false ≡ true → ⊥
    false_true e = cc

pub passed_over : {A : Type 0} (test : Bool) (a b : A) → test ≡ false → (if test then a else b) ≡ b
passed_over false a b e = refl
passed_over true a b e = elim (true_false e) [ ]
  where
    true_false : true ≡ false → ⊥
    true_false e = cc

pub same_text : (a b : Text) → bytes_eq a b ≡ true → a ≡ b
same_text a b e = grind (arith, bytes_eq-Decides)

pub text_same : (a : Text) → bytes_eq a a ≡ true
text_same a = grind (arith, bytes_eq-Decides)

-- first words

pub front_same : (before one other : List Text) → front one ≡ front other → front (before ++ one) ≡ front (before ++ other)
front_same [] one other e = e
front_same (word ∷ words) one other e = refl

first_or : List Text → Option (Text × List Text)
first_or [] = None
first_or (word ∷ words) = Some (word, words)

pub front_none : (words : List Text) → front words ≡ None → words ≡ []
front_none [] e = refl
front_none (word ∷ words) e = let clash : Some word ≡ None = e in absurd cc

pub front_some : (words : List Text) (word : Text) → front words ≡ Some word → (left : List Text) × (words ≡ word ∷ left)
front_some [] word e = let clash : None ≡ Some word = e in absurd cc
front_some (one ∷ left) word e = let same : Some one ≡ Some word = e in let is : one ≡ word = cc in (left, ap (λ w. w ∷ left) is)

-- answers

pub got_tree : {A : Type 0} {x y : A} {a b : List Text} → got x a ≡ got y b → x ≡ y
got_tree e = cc

pub got_left : {A : Type 0} {x y : A} {a b : List Text} → got x a ≡ got y b → a ≡ b
got_left e = cc

pub stop_got : {A : Type 0} {why : Stop} {x : A} {a b : List Text} → stop why a ≡ got x b → ⊥
stop_got e = cc

pub then_got : {A B : Type 0} (a : Answer A) (next : A → Reader B) (tree : A) (left : List Text) → a ≡ got tree left →
    and_then a next ≡ next tree left
then_got a next tree left e = ap (λ b. and_then b next) e

-- what the two parts of `and_then` gave
pub record Parts {A B : Type 0} (a : Answer A) (next : A → Reader B) (tree : B) (left : List Text) : Type 0 where
  pub one : A
  pub between : List Text
  pub first : a ≡ got one between
  pub second : next one between ≡ got tree left

pub parts_of : {A B : Type 0} (a : Answer A) (next : A → Reader B) (tree : B) (left : List Text) → and_then a next ≡ got tree left →
    Parts a next tree left
parts_of (got one between) next tree left e = record { one = one; between = between; first = refl; second = e }
parts_of (stop why words) next tree left e = absurd (stop_got e)

-- What is read is never given back

pub keeps : {A : Type 0} (read : Reader A) (ends : Ends) (words : List Text) (a : Answer A) → Sees read ends words a →
    length (rest_of a) ≤ length words
keeps read ends words a s = more_words (length words) (length s.before) (length (rest_of a))
    (ap length s.whole ∙ length-append s.before (rest_of a))
  where
    more_words : (n b r : ℕ) → n ≡ b + r → r ≤ n
    more_words n b r e = omega arith

-- what is read leaves fewer words
abbrev pub Eats : {A : Type 0} → Reader A → Type 0
Eats {A = A} read = (words : List Text) (tree : A) (left : List Text) → read words ≡ got tree left → length left < length words

-- The rule of a reader that is another one
pub sees_same : {A : Type 0} (f g : Reader A) (ends : Ends) (words : List Text) (a : Answer A) → ((ws : List Text) → f ws ≡ g ws) →
    Sees g ends words a → Sees f ends words a
sees_same {A = A} f g ends words a same s = record {
  before = s.before;
  whole = s.whole;
  near = λ other e. same (s.before ++ other) ∙ s.near other e;
  more = onward a s.more;
}
  where
    begins : Begins g ends s.before → Begins f ends s.before
    begins b = (b.0, (b.1.0, λ rest e. same ((s.before ++ b.0) ++ rest) ∙ b.1.1 rest e))

    onward : (a : Answer A) → GoesOn g ends s.before a → GoesOn f ends s.before a
    onward (got tree left) m = λ other e. same (s.before ++ other) ∙ m other e
    onward (stop why left) m = λ p. begins (m p)

-- Nothing is read

pub got_rule : {A : Type 0} (tree : A) (ends : Ends) → Rule (got tree) ends []
got_rule tree ends = record {
  lawful = λ words. record { before = []; whole = refl; near = λ other e. refl; more = λ other e. refl };
  starts = (tree, λ rest e. refl);
}

-- By the first word

-- a lead whose reader is lawful, and that something can be read behind
abbrev pub IsLead : {A : Type 0} → Ends → Lead A → Type 0
IsLead ends (goes read) = Lawful read ends × Begins read ends []
IsLead ends refused = Unit {0}
IsLead ends lower = Unit {0}

pub rule_lead : {A : Type 0} (read : Reader A) (ends : Ends) (text : List Text) → Rule read ends text → IsLead ends (goes read)
rule_lead read ends text r = (r.lawful, (text, r.starts))

pub led_sees : {A : Type 0} (lead : Text → Lead A) (ends : Ends) (leads : (word : Text) → IsLead ends (lead word)) → Lawful (by_word lead) ends
led_sees {A = A} lead ends leads [] = record {
  before = [];
  whole = refl;
  near = λ other e. let P : List Text → Type 0 = λ ws. by_word lead ws ≡ stop NoTree ws in subst P (sym (front_none other e)) refl;
  more = λ p. absurd (below_zero 0 p);
}
  where
    below_zero : (n : ℕ) → n < n → ⊥
    below_zero n e = omega (arith, e)
led_sees {A = A} lead ends leads (word ∷ words) = by_lead (lead word) refl (leads word)
  where
    below_zero : (n : ℕ) → n < n → ⊥
    below_zero n e = omega (arith, e)

    at_once : (l : Lead A) → lead word ≡ l → (answer : List Text → Answer A) → ((ws : List Text) → follow l word ws ≡ answer (word ∷ ws)) →
        (other : List Text) →
        front other ≡ Some word → by_word lead other ≡ answer other
    at_once l is answer same other e =
        let P : List Text → Type 0 = λ ws. by_word lead ws ≡ answer ws in
        let o = front_some other word e in
        subst P (sym o.1) (ap (λ m. follow m word o.0) is ∙ same o.0)

    by_lead : (l : Lead A) → lead word ≡ l → IsLead ends l → Sees (by_word lead) ends (word ∷ words) (follow l word words)
    by_lead refused is t = record {
      before = [];
      whole = refl;
      near = at_once refused is (stop NoTree) (λ ws. refl);
      more = λ p. absurd (below_zero 0 p);
    }
    by_lead lower is t = record {
      before = [];
      whole = refl;
      near = at_once lower is (stop TooDeep) (λ ws. refl);
      more = λ p. absurd (below_zero 0 p);
    }
    by_lead (goes read) is t =
        let s = t.0 words in
        record {
          before = word ∷ s.before;
          whole = ap (λ ws. word ∷ ws) s.whole;
          near = λ other e. ap (λ m. follow m word (s.before ++ other)) is ∙ s.near other e;
          more = onward s.before (read words) s.more;
        }
      where
        begun : (before : List Text) → (0 < length before → Begins read ends before) → Begins read ends before
        begun [] m = t.1
        begun (one ∷ more) m = m (omega arith)

        begins : (before : List Text) → Begins read ends before → Begins (by_word lead) ends (word ∷ before)
        begins before b = (b.0, (b.1.0, λ rest e. ap (λ m. follow m word ((before ++ b.0) ++ rest)) is ∙ b.1.1 rest e))

        onward : (before : List Text) (a : Answer A) → GoesOn read ends before a → GoesOn (by_word lead) ends (word ∷ before) a
        onward before (got tree left) m = λ other e. ap (λ l. follow l word (before ++ other)) is ∙ m other e
        onward before (stop why left) m = λ p. begins before (begun before m)

pub led_eats : {A : Type 0} (lead : Text → Lead A) (ends : Ends) (leads : (word : Text) → IsLead ends (lead word)) → Eats (by_word lead)
led_eats {A = A} lead ends leads [] tree left e = absurd (stop_got e)
led_eats {A = A} lead ends leads (word ∷ words) tree left e = by_lead (lead word) (leads word) e
  where
    fewer : (l w : ℕ) → l ≤ w → l < suc w
    fewer l w e = omega arith

    by_lead : (l : Lead A) → IsLead ends l → follow l word words ≡ got tree left → length left < length (word ∷ words)
    by_lead refused t e = absurd (stop_got e)
    by_lead lower t e = absurd (stop_got e)
    by_lead (goes read) t e =
        fewer (length left) (length words) (subst (λ a. length (rest_of a) ≤ length words) e
        (keeps read ends words (read words) (t.0 words)))
