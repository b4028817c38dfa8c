-- Reading gives the one tree of the words, or stops at the place from which they begin none.
use Rattle.std.proofs.Common.{◌≡◌, ℕ, zero, suc, ◌+◌, ◌<◌, ◌≤◌, ◌-◌, Bool, true, false, ◌&&◌, not, nat_le, List, [], ◌∷◌, ◌++◌, None, Result, Ok, Err, IfOk, length, refl, sym, ap, ◌∙◌, arith, subst, append_assoc, length-append, codes}
use Rattle.std.proofs.lemmas.List.{append-nil, append_cancel_right}
use Rattle.std.proofs.lemmas.Bool.Decides.{nat_tests}
use Rattle.vwords.specs.Words.{Text, reserved_words}
use Rattle.vast.specs.Expressions.{ExpressionTree, name, unary_rank}
use Rattle.basis.specs.declared.memory.OrMemory.{OrMemory}
use Rattle.basis.specs.declared.memory.OrMemory.TheVariants.{Fault, Memory}
use Rattle.basis.specs.Reasons.{IfFault}
use Rattle.vexpr_parse.specs.declared.found.Found.{Found as Read}
use Rattle.vexpr_parse.specs.declared.stop.Stop.{Stop}
use Rattle.vexpr_parse.specs.declared.stop.Stop.TheVariants.{NoTree, TooDeep}
use Rattle.vexpr_parse.specs.Readers.{Answer, got, stop, front}
use Rattle.vexpr_parse.specs.Words.{ends}
use Rattle.vexpr_parse.specs.Reading.{expression}
use Rattle.vexpr_parse.specs.Found.{IsExpression}
use Rattle.vexpr_parse.specs.Answers.{Finds, tree_in}
use Rattle.vexpr_parse.specs.Lawful.{rest_of, Sees, GoesOn, Begins, Lawful}
use Rattle.vexpr_parse.specs.Places.{BeginsOne, BeginsNone, IsFound, IsStopped, ReadsSoundly, ReadsCompletely, ReadsLongest, IsOnly, StopsAtPlace, StopsForGood, StopsTooDeep}
use Rattle.vexpr_parse.proofs.ReaderRules.{stop_got, got_tree, got_left}
use Rattle.vexpr_parse.proofs.ExpressionRules.{expression_rule}
use Rattle.vexpr_parse.proofs.Sound.{Found, expression_found}
use Rattle.vexpr_parse.proofs.Complete.{expression_complete}
use Rattle.vexpr_parse.proofs.Grows.{Grows, expression_grows}

pub reads_soundly : ReadsSoundly
reads_soundly levels least enough words tree left e = subst (Found (IsExpression levels least) words) e
    (expression_found levels least enough words)

pub reads_completely : ReadsCompletely
reads_completely levels least tree before left x e =
    ap (λ ws. expression levels least (ws ++ left)) (sym x.spelled)
    ∙ expression_complete tree levels least left x.fitting x.within x.ranked e

-- nothing behind it ends an expression
end_ends : (least : ℕ) → ends least None ≡ true
end_ends least = ap not (and_none (nat_le least 0))
  where
    and_none : (b : Bool) → (b && false) ≡ false
    and_none true = refl
    and_none false = refl

read_whole : (levels least : ℕ) (tree : ExpressionTree) (words : List Text) → IsExpression levels least tree words →
    expression levels least words ≡ got tree []
read_whole levels least tree words x = ap (expression levels least) (sym (append-nil words))
    ∙ reads_completely levels least tree words [] x (end_ends least)

pub is_only : IsOnly
is_only levels words tree other x y = got_tree (sym (read_whole levels 0 tree words x) ∙ read_whole levels 0 other words y)

lawful : (below least : ℕ) → Lawful (expression (suc below) least) (ends least)
lawful below least = (expression_rule below least).lawful

-- with the word at which reading stops, no expression begins
none_from : (levels least : ℕ) (before left : List Text) (why : Stop) →
    ((other : List Text) → front other ≡ front left → expression levels least (before ++ other) ≡ stop why other) →
    BeginsNone levels least before left
none_from levels least before left why near other tree e x = stop_got
    (sym (near other e) ∙ read_whole levels least tree (before ++ other) x)

-- what is read whole is an expression
whole_one : (levels least : ℕ) → nat_le least unary_rank ≡ true → (words : List Text) (tree : ExpressionTree) →
    expression levels least (words ++ []) ≡ got tree [] → IsExpression levels least tree words
whole_one levels least enough words tree e =
    let f = reads_soundly levels least enough (words ++ []) tree [] e in
    subst (IsExpression levels least tree) (sym (append-nil f.0) ∙ sym f.1 ∙ append-nil words) f.2

begins_one : (levels least : ℕ) → nat_le least unary_rank ≡ true → (before : List Text) →
    Begins (expression levels least) (ends least) before → BeginsOne levels least before
begins_one levels least enough before b = (b.0, b.1.0, whole_one levels least enough (before ++ b.0) b.1.0 (b.1.1 [] (end_ends least)))

-- a name is an expression
a_name : (below least : ℕ) → nat_le least unary_rank ≡ true → IsExpression (suc below) least (name (codes "a")) (codes "a" ∷ [])
unfolding reserved_words
a_name below least enough = record { spelled = refl; fitting = refl; within = some_level below; ranked = enough }
  where
    some_level : (n : ℕ) → nat_le 1 (suc n) ≡ true
    some_level n = grind (arith, nat_tests)

goes_on : (below least : ℕ) → nat_le least unary_rank ≡ true → (before : List Text) (a : Answer ExpressionTree) →
    GoesOn (expression (suc below) least) (ends least) before a →
    BeginsOne (suc below) least before
goes_on below least enough [] a m = (codes "a" ∷ [], name (codes "a"), a_name below least enough)
goes_on below least enough (word ∷ words) (got tree left) m = (
  [],
  tree,
  subst (λ ws. IsExpression (suc below) least tree ws) (sym (append-nil (word ∷ words)))
      (whole_one (suc below) least enough (word ∷ words) tree (m [] (end_ends least))),
)
goes_on below least enough (word ∷ words) (stop why left) m = begins_one (suc below) least enough (word ∷ words) (m (omega arith))

pub stops_at_place : StopsAtPlace
stops_at_place below least enough words left why e =
    let s : Sees (expression (suc below) least) (ends least) words (stop why left) =
    subst (Sees (expression (suc below) least) (ends least) words) e (lawful below least words) in
    record {
      before = s.before;
      whole = s.whole;
      viable = goes_on below least enough s.before (stop why left) s.more;
      refused = none_from (suc below) least s.before left why s.near;
    }

-- what is refused for good is so with more levels
stays : (n below least : ℕ) (words left : List Text) → expression (suc below) least words ≡ stop NoTree left →
    expression (suc (n + below)) least words ≡ stop NoTree left
stays zero below least words left e = ap (λ k. expression (suc k) least words) (omega arith) ∙ e
stays (suc n) below least words left e =
    ap (λ k. expression (suc k) least words) (one_more n below)
    ∙ subst (λ a. Grows a (expression (suc (suc (n + below))) least words)) (stays n below least words left e)
    (expression_grows (n + below) least words)
  where
    one_more : (a b : ℕ) → suc a + b ≡ suc (a + b)
    one_more a b = omega arith

pub stops_for_good : StopsForGood
stops_for_good below least words left e =
    let s : Sees (expression (suc below) least) (ends least) words (stop NoTree left) =
    subst (Sees (expression (suc below) least) (ends least) words) e (lawful below least words) in
    record {
      before = s.before;
      whole = s.whole;
      none = λ more above. none_from more least s.before left NoTree
          (λ other same. ap (λ n. expression n least (s.before ++ other)) (reached below more above)
          ∙ stays (more - suc below) below least (s.before ++ other) other (s.near other same));
    }
  where
    reached : (below more : ℕ) → suc below ≤ more → more ≡ suc ((more - suc below) + below)
    reached below more e = omega arith

-- where more was passed, the place is within it
pub record Split (before left passed rest : List Text) : Type 0 where
  pub word : Text
  pub behind : List Text
  pub at : left ≡ word ∷ (behind ++ rest)
  pub is : passed ≡ before ++ word ∷ behind

pub split : (before left passed rest : List Text) → before ++ left ≡ passed ++ rest → length rest < length left → Split before left passed rest
split [] left [] rest e less = absurd (below (length rest) (subst (λ n. length rest < n) (ap length e) less))
  where
    below : (n : ℕ) → n < n → ⊥
    below n e = omega (arith, e)
split [] left (word ∷ behind) rest e less = record { word = word; behind = behind; at = e; is = refl }
split (one ∷ before) left [] rest e less =
    absurd (longer (length rest) (length before) (length left) (sym (ap length e) ∙ ap suc (length-append before left)) less)
  where
    longer : (r b l : ℕ) → r ≡ suc (b + l) → r < l → ⊥
    longer r b l e f = omega (arith, e, f)
split (one ∷ before) left (other ∷ passed) rest e less =
    let s = split before left passed rest (same_rest e) less in
    record { word = s.word; behind = s.behind; at = s.at; is = ap (λ w. w ∷ passed) (sym (same_word e)) ∙ ap (λ ws. one ∷ ws) s.is }
  where
    same_rest : {a b : Text} {x y : List Text} → a ∷ x ≡ b ∷ y → x ≡ y
    same_rest e = cc

    same_word : {a b : Text} {x y : List Text} → a ∷ x ≡ b ∷ y → a ≡ b
    same_word e = cc

pub stops_too_deep : StopsTooDeep
stops_too_deep below least enough words left e =
    let s : Sees (expression (suc below) least) (ends least) words (stop TooDeep left) =
    subst (Sees (expression (suc below) least) (ends least) words) e (lawful below least words) in
    let t = lawful (suc below) least words in
    let less : length (rest_of (expression (suc (suc below)) least words)) < length left =
    subst (λ a. Grows a (expression (suc (suc below)) least words)) e (expression_grows below least words) in
    let p = split s.before left t.before (rest_of (expression (suc (suc below)) least words)) (sym s.whole ∙ t.whole) less in
    let b = goes_on (suc below) least enough t.before (expression (suc (suc below)) least words) t.more in
    record {
      before = s.before;
      word = p.word;
      behind = p.behind ++ rest_of (expression (suc (suc below)) least words);
      at = p.at;
      whole = s.whole;
      viable = (
        p.behind ++ b.0,
        b.1,
        subst (IsExpression (suc (suc below)) least b.1)
            (ap (λ ws. ws ++ b.0) p.is ∙ regroup s.before p.word p.behind b.0) b.2,
      );
    }
  where
    regroup : (before : List Text) (word : Text) (behind after : List Text) →
        (before ++ word ∷ behind) ++ after ≡ (before ++ word ∷ []) ++ (behind ++ after)
    regroup before word behind after = append_assoc before (word ∷ behind) after ∙ sym (append_assoc before (word ∷ []) (behind ++ after))

-- where more of the words begins with what is left, both have the same first word
front_of : (left more after : List Text) → left ≡ more ++ after → 0 < length more → front more ≡ front left
front_of left [] after at some = absurd (below 0 some)
  where
    below : (n : ℕ) → n < n → ⊥
    below n e = omega (arith, e)
front_of left (word ∷ more) after at some = ap front (sym at)

pub reads_longest : ReadsLongest
unfolding expression
reads_longest zero least words tree left e before more after other whole at some x = absurd (stop_got e)
reads_longest (suc below) least words tree left e before more after other whole at some x =
    let s : Sees (expression (suc below) least) (ends least) words (got tree left) =
    subst (Sees (expression (suc below) least) (ends least) words) e (lawful below least words) in
    let same : s.before ≡ before = append_cancel_right s.before before left (sym s.whole ∙ whole) in
    let near : expression (suc below) least (before ++ more) ≡ got tree more =
    ap (λ b. expression (suc below) least (b ++ more)) (sym same) ∙ s.near more (front_of left more after at some) in
    absurd (none more (got_left (sym near ∙ read_whole (suc below) least other (before ++ more) x)) some)
  where
    none : (more : List Text) → more ≡ [] → 0 < length more → ⊥
    none [] e some = let clash : 0 < 0 = some in omega (arith, clash)
    none (word ∷ more) e some = cc

found_so : (levels : ℕ) (words left : List Text) (tree : ExpressionTree) → expression levels 0 words ≡ got tree left →
    IsFound levels words left tree
found_so levels words left tree e =
    let s = reads_soundly levels 0 refl words tree left e in
    record {
      before = s.0;
      whole = s.1;
      is = s.2;
      only = λ other x. is_only levels s.0 tree other s.2 x;
      longest = λ more after other at some x. reads_longest levels 0 words tree left e s.0 more after other s.1 at some x;
    }

stopped_so : (levels : ℕ) (words left : List Text) (why : Stop) → 0 < levels → expression levels 0 words ≡ stop why left →
    IsStopped levels words left why
stopped_so zero words left why some e = absurd (omega (arith, some))
stopped_so (suc below) words left NoTree some e = (stops_at_place below 0 refl words left NoTree e, stops_for_good below 0 words left e)
stopped_so (suc below) words left TooDeep some e =
    (stops_at_place below 0 refl words left TooDeep e, stops_too_deep below 0 refl words left e)

-- what the program answers
pub found_result : (text : List Text) (levels : ℕ) (words left : List Text) (result : Result Read (OrMemory Stop)) →
    Finds text levels (expression levels 0 words) left result → IfOk result (λ found. IsFound levels words left (tree_in text found))
found_result text levels words left (Ok found) f = found_so levels words left (tree_in text found) f.0
found_result text levels words left (Err e) f = tt

pub stop_result : (text : List Text) (levels : ℕ) (words left : List Text) (result : Result Read (OrMemory Stop)) → 0 < levels →
    Finds text levels (expression levels 0 words) left result → IfFault result (λ why. IsStopped levels words left why)
stop_result text levels words left (Ok found) some f = tt
stop_result text levels words left (Err (Fault why)) some f = stopped_so levels words left why some f
stop_result text levels words left (Err (Memory m)) some f = tt
