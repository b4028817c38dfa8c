-- What the code that reads targets goes on from.
use Rattle.std.proofs.Common.{◌≡◌, ◌≢◌, ℕ, zero, suc, ◌-◌, ◌<◌, arith, length, map, Bool, true, false, List, [], ◌∷◌, ◌++◌, drop, codes, Vec, Global, Result, refl, sym, ap, subst, ◌∙◌}
use Rattle.vwords.specs.Words.{Text, is_name}
use Rattle.std.proofs.lemmas.List.{map-append}
use Rattle.vast.specs.Statements.{TargetTree, whole, bit, part, joined, first, spell_target}
use Rattle.vast.specs.StatementTrees.{target_tree, target_row}
use Rattle.vast.specs.declared.statement.Target.{Target, Joined, Joined', Row_of-Target, end_of-Target, more_of-Target, items-the_row-Target, items_hidden-the_row-Target-0}
use mathlib.Core.Former.{Count}
use Rattle.basis.specs.declared.memory.OrMemory.{OrMemory}
use Rattle.vexpr_parse.specs.declared.stop.Stop.{Stop}
use Rattle.vexpr_parse.specs.declared.stop.Stop.TheVariants.{NoTree, TooDeep}
use Rattle.vexpr_parse.specs.Readers.{Answer, got, stop, Reader, past, goes, refused, lower, and_then, follow, front, is_front}
use Rattle.vexpr_parse.proofs.ReaderRules.{Eats, chosen, passed_over}
use Rattle.vgrammar.specs.Starts.{begins_target}
use Rattle.vgrammar.specs.Statements.{target, named_target, targets_in, joined_of, joined_targets}
use Rattle.vstatement_parse.specs.Gives.{Answered, target_at, targets_from, targets_within, in_braces}
use Rattle.vgrammar.proofs.Phrases.{Worded, sound_eats}
use Rattle.vgrammar.proofs.TargetPhrases.{target_shape, target_phrase}
use Rattle.vgrammar.proofs.ManyTurns.{one_more, behind_word, past_eats_too, until_is}
use Rattle.vgrammar.specs.Parts.{map_tree}

-- where no level is left

pub nothing_there : (words : List Text) → words ≡ [] → target 0 words ≡ stop NoTree words
unfolding target
nothing_there [] e = refl
nothing_there (word ∷ words) e = absurd (nat_no e)
  where
    nat_no : word ∷ words ≡ [] → ⊥
    nat_no e = cc

low_word : (word : Text) (words : List Text) → begins_target word ≡ true → target 0 (word ∷ words) ≡ stop TooDeep (word ∷ words)
unfolding target
low_word word words e = ap (λ l. follow l word words) (chosen (begins_target word) lower refused e)

no_word : (word : Text) (words : List Text) → begins_target word ≡ false → target 0 (word ∷ words) ≡ stop NoTree (word ∷ words)
unfolding target
no_word word words e = ap (λ l. follow l word words) (passed_over (begins_target word) lower refused e)

pub too_deep_there : (words : List Text) (word : Text) → words ≡ word ∷ drop 1 words → begins_target word ≡ true → target 0 words ≡ stop TooDeep words
too_deep_there words word is e = subst (λ ws. target 0 ws ≡ stop TooDeep ws) (sym is) (low_word word (drop 1 words) e)

pub no_tree_there : (words : List Text) (word : Text) → words ≡ word ∷ drop 1 words → begins_target word ≡ false → target 0 words ≡ stop NoTree words
no_tree_there words word is e = subst (λ ws. target 0 ws ≡ stop NoTree ws) (sym is) (no_word word (drop 1 words) e)

-- where one is

up : (levels : ℕ) (words : List Text) → levels ≢ 0 → target levels words ≡ target_at (levels - 1) words
unfolding target
up zero words e = absurd (e refl)
up (suc below) words e = ap (λ n. target_at n words) (sym (one_less below))
  where
    one_less : (n : ℕ) → suc n - 1 ≡ n
    one_less n = omega arith

pub gives_up : (text : List Text) (levels : ℕ) (words left : List Text) (result : Result Target (OrMemory Stop)) → levels ≢ 0 →
    Answered (target_tree text) (target_at (levels - 1) words) left result → Answered (target_tree text) (target levels words) left result
gives_up text levels words left result some given =
    subst (λ a. Answered (target_tree text) a left result) (sym (up levels words some)) given

-- what a name begins

pub gives_named : (text : List Text) (below : ℕ) (words after left : List Text) (word letters : Text) (seen : Bool)
    (result : Result Target (OrMemory Stop)) →
    words ≡ word ∷ drop 1 words → letters ≡ word → seen ≡ is_name word → seen ≡ true → after ≡ drop 1 words →
    Answered (target_tree text) (named_target below letters after) left result → Answered (target_tree text) (target_at below words) left result
gives_named text below words after left word letters seen result here same is met passed given =
    subst (λ a. Answered (target_tree text) a left result)
    (ap (λ l. named_target below l after) same ∙ ap (named_target below word) passed
    ∙ sym (ap (target_at below) here
    ∙ ap (λ l. follow l word (drop 1 words)) (chosen (is_name word) (goes (named_target below word)) _ (sym is ∙ met))))
    given

-- the loop over targets behind commas

target_worded : (below : ℕ) → Worded (target_shape below)
target_worded below tree valid = some tree
  where
    some : (tree : TargetTree) → 0 < length (spell_target tree)
    some (whole letters) = omega arith
    some (bit letters index) = omega arith
    some (part letters left right) = omega arith
    some (joined targets) = omega arith

target_eats : (below : ℕ) → Eats (target below)
target_eats below = sound_eats (target below) (target_shape below) (target_phrase below).sound (target_worded below)

abbrev behind_comma : ℕ → List TargetTree → Reader TargetTree
behind_comma below list = past (codes ",") (target below)

comma_eats : (below : ℕ) (list : List TargetTree) → Eats (behind_comma below list)
comma_eats below list = past_eats_too (codes ",") (target below) (target_eats below)

module _ (below : ℕ) (words between : List Text) (seen : Bool) (is : seen ≡ is_front (codes ",") (front words)) (here : seen ≡ true)
    (passed : between ≡ drop 1 words) where
  behind : (a : Answer TargetTree) → target below between ≡ a → past (codes ",") (target below) words ≡ a
  behind a e = behind_word (codes ",") (target below) words a (sym is ∙ here) (ap (target below) (sym passed) ∙ e)

  pub target_fewer : (left : List Text) (tree : TargetTree) → target below between ≡ got tree left → length left < length words
  target_fewer left tree e = comma_eats below [] words tree left (behind (got tree left) e)

  pub targets_pushed : (text : List Text) (targets after : List Target) (one : Target) (left : List Text) (all : Answer (List TargetTree)) →
      after ≡ targets ++ one ∷ [] → target below between ≡ got (target_tree text one) left →
      targets_from below (map (target_tree text) targets) words ≡ all → targets_from below (map (target_tree text) after) left ≡ all
  targets_pushed text targets after one left all same e before =
      ap (λ ts. targets_from below ts left) (ap (map (target_tree text)) same ∙ map-append (target_tree text) targets (one ∷ []))
      ∙ sym (one_more (is_front (codes ",")) (behind_comma below) (comma_eats below) (map (target_tree text) targets) words (target_tree text one) left
      (sym is ∙ here) (behind (got (target_tree text one) left) e))
      ∙ before

-- targets between braces

abbrev row_of : Target → (n : Count) × Row_of-Target n
row_of (Joined' at shape row) = (_, row)
row_of _ = (_, end_of-Target)

trees_of_row : (text : List Text) (n : _) (row : Row_of-Target n) → target_row text row ≡ targets_in (map (target_tree text) (items-the_row-Target n row))
trees_of_row text n end_of-Target = refl
trees_of_row text n (more_of-Target one more) = ap (first (target_tree text one)) (trees_of_row text _ more)

pub tree_of_joined : (text : List Text) (at : ℕ) (targets : Vec Target Global) → target_tree text (Joined at targets) ≡ joined (targets_in (map (target_tree text) targets.items))
tree_of_joined text at targets =
    let row = row_of (Joined at targets) in
    let same = items_hidden-the_row-Target-0 targets in
    ap joined (trees_of_row text row.0 row.1 ∙ ap (λ ts. targets_in (map (target_tree text) ts)) same)

pub joined_is : (below : ℕ) (words : List Text) → joined_targets (target below) words ≡ map_tree in_braces (targets_within below) words
joined_is below words = until_is (codes "}") (target below) joined_of in_braces (λ one list. refl) words

pub gives_joined : (text : List Text) (below : ℕ) (words left : List Text) (result : Result Target (OrMemory Stop)) →
    Answered (target_tree text) (map_tree in_braces (targets_within below) words) left result → Answered (target_tree text) (joined_targets (target below) words) left result
gives_joined text below words left result given = subst (λ a. Answered (target_tree text) a left result) (sym (joined_is below words)) given

pub joined_got : (text : List Text) (below at : ℕ) (targets : Vec Target Global) (words left : List Text) →
    targets_within below words ≡ got (map (target_tree text) targets.items) left →
    map_tree in_braces (targets_within below) words ≡ got (target_tree text (Joined at targets)) left
joined_got text below at targets words left e =
    ap (λ a. and_then a (λ all. got (in_braces all))) e ∙ ap (λ t. got t left) (sym (tree_of_joined text at targets))
