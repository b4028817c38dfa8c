-- Where the longest expression ends, and where reading it stops, as facts about the words.
use Rattle.std.proofs.Common.{◌≡◌, ℕ, suc, ◌+◌, ◌-◌, ◌++◌, List, [], ◌∷◌, Option, length, drop, take, refl, sym, ap, ◌∙◌, subst, arith}
use Rattle.std.specs.List.{slice_get}
use Rattle.std.proofs.lemmas.List.{length-append, length-drop, length-map, take-append-drop, drop_at, append_assoc}
use Rattle.vsrc.specs.Source.{place_of}
use Rattle.vsrc.specs.declared.expanded.Place.{Place}
use Rattle.vlex.specs.Tokenized.{Tokenized, pieces_of, start_of}
use Rattle.vwords.specs.Words.{Text}
use Rattle.vast.specs.ExpressionTrees.{tree_of}
use Rattle.vast.specs.declared.expression.Expression.{Expression}
use Rattle.vast.specs.Leaves.{leaves_of}
use Rattle.vast.specs.TokenTexts.{leaves_from}
use Rattle.vexpr_parse.specs.Answers.{ahead, leaves_ahead}
use Rattle.vexpr_parse.specs.Readers.{got, stop}
use Rattle.vexpr_parse.specs.Reading.{expression}
use Rattle.vexpr_parse.specs.declared.cursor.Cursor.{Cursor}
use Rattle.vexpr_parse.specs.declared.stop.Stop.{Stop}
use Rattle.vexpr_parse.specs.Texts.{words_of}
use Rattle.vexpr_parse.specs.Places.{IsFound, IsPlace}
use Rattle.longest_expression.specs.LongestExpression.{IsLongest, IsStoppedFrom}

-- what is left of a list behind some of it stands behind so many of the whole list
left_at : (words before left : List Text) (at : ℕ) → drop at words ≡ before ++ left → drop (length words - length left) words ≡ left
left_at words before left at whole =
    let front = take at words ++ before in
    let split : words ≡ front ++ left =
    sym (take-append-drop at words) ∙ ap (λ rest. take at words ++ rest) whole ∙ sym (append_assoc (take at words) before left) in
    let long : length words ≡ length front + length left = ap length split ∙ length-append front left in
    ap (drop (length words - length left)) split ∙ drop_at front left (length words - length left) (omega (arith, long))

-- the number of tokens, and of those before the place
pub counted : (tokens : Tokenized) (left : List Text) (count here index : ℕ) → count ≡ length (pieces_of tokens) → here ≡ length left →
    index ≡ count - here → index ≡ length (words_of tokens) - length left
counted tokens left count here index is stands so =
    let long : count ≡ length (words_of tokens) = is ∙ sym (length-map (pieces_of tokens) (λ piece. piece.text)) in
    so ∙ ap (λ n. n - here) long ∙ ap (λ n. length (words_of tokens) - n) stands

-- behind so many words of a text stand the same tokens as at a place with the same words ahead
numbered_alike : (words : List Text) (one other : ℕ) (left : List Text) → drop one words ≡ left → drop other words ≡ left →
    leaves_from one left ≡ leaves_from other left
numbered_alike words one other [] p q = refl
numbered_alike words one other (word ∷ rest) p q = ap (λ n. leaves_from n (word ∷ rest)) same
  where
    left_of : (n : ℕ) → drop n words ≡ word ∷ rest → suc (length rest) ≡ length words - n
    left_of n e = sym (ap length e) ∙ length-drop n words

    same : one ≡ other
    same = omega (arith, left_of one p, left_of other q)

pub leaves_at : (tokens : Tokenized) (cursor : Cursor) (number : ℕ) → ahead tokens cursor ≡ drop number (words_of tokens) →
    leaves_ahead tokens cursor ≡ leaves_from number (drop number (words_of tokens))
unfolding ahead leaves_ahead
leaves_at tokens cursor number e =
    ap (leaves_from cursor.at) e ∙ numbered_alike (words_of tokens) cursor.at number (drop number (words_of tokens)) e refl

pub longest : (tokens : Tokenized) (at index : ℕ) (start behind : Cursor) (tree : Expression) →
    index ≡ length (words_of tokens) - length (ahead tokens behind) → ahead tokens start ≡ drop at (words_of tokens) →
    IsFound 64 (ahead tokens start) (ahead tokens behind) (tree_of (words_of tokens) tree) →
    expression 64 0 (ahead tokens start) ≡ got (tree_of (words_of tokens) tree) (ahead tokens behind) →
    leaves_ahead tokens start ≡ leaves_of tree ++ leaves_ahead tokens behind → IsLongest tokens at index tree
longest tokens at index start behind tree is begins found read kept =
    let words = words_of tokens in
    let whole : drop at words ≡ found.before ++ ahead tokens behind = sym begins ∙ found.whole in
    let ends : ahead tokens behind ≡ drop index words =
    sym (ap (λ n. drop n words) is ∙ left_at words found.before (ahead tokens behind) at whole) in
    record {
      within = omega (arith, is);
      found = subst (λ ws. IsFound 64 ws (drop index words) (tree_of words tree)) begins
          (subst (λ rest. IsFound 64 (ahead tokens start) rest (tree_of words tree)) ends found);
      read = ap (expression 64 0) (sym begins) ∙ read ∙ ap (got (tree_of words tree)) ends;
      leaves = sym (leaves_at tokens start at begins) ∙ kept ∙ ap (λ rest. leaves_of tree ++ rest) (leaves_at tokens behind index ends);
    }

pub stopped_from : (tokens : Tokenized) (at index : ℕ) (left : List Text) (place : Place) (reason : Stop) (outside : Option Text → Type 0)
    (helps : List Text → List Text → Type 0) → index ≡ length (words_of tokens) - length left →
    place ≡ place_of tokens.source (start_of tokens index) → outside (slice_get (words_of tokens) index) →
    expression 64 0 (drop at (words_of tokens)) ≡ stop reason left → IsPlace 64 0 (drop at (words_of tokens)) left →
    helps (drop at (words_of tokens)) left → IsStoppedFrom tokens at place reason outside helps
stopped_from tokens at index left place reason outside helps is placed judged read refused more =
    let behind : drop index (words_of tokens) ≡ left = ap (λ n. drop n (words_of tokens)) is ∙ left_at (words_of tokens) refused.before left at refused.whole in
    record {
      index = index;
      within = omega (arith, is);
      placed = placed;
      read = read ∙ ap (stop reason) (sym behind);
      refused = subst (IsPlace 64 0 (drop at (words_of tokens))) (sym behind) refused;
      with_more = subst (helps (drop at (words_of tokens))) (sym behind) more;
      judged = judged;
    }
