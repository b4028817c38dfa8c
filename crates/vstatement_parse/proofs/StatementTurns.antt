-- What the code that reads lists in statements goes on from.
use Rattle.std.specs.Str.{bytes_eq}
use Rattle.std.proofs.Common.{◌≡◌, ℕ, zero, suc, nat_le, ◌<◌, arith, length, Bool, true, false, if◌then◌else◌, codes, Result, subst, List, [], ◌∷◌, map, Vec, Global, refl, sym, ap, ◌∙◌, Option, zero-lt-suc}
use Rattle.basis.proofs.Numbers.{one_within}
use Rattle.vwords.specs.Words.{Text, is_name}
use Rattle.vast.specs.Statements.{block, first_statement, spell_argument}
use Rattle.vast.specs.StatementTrees.{statement_tree, statement_trees, event_tree}
use Rattle.vast.specs.declared.statement.Event.{Event}
use Rattle.basis.specs.declared.memory.OrMemory.{OrMemory}
use Rattle.basis.specs.declared.memory.OrMemory.TheVariants.{Fault, Memory}
use Rattle.basis.specs.Reasons.{Because}
use Rattle.vexpr_parse.specs.declared.stop.Stop.{Stop}
use Rattle.vexpr_parse.specs.declared.stop.Stop.TheVariants.{NoTree}
use Rattle.vexpr_parse.specs.Answers.{Stops}
use Rattle.vast.specs.declared.statement.Statement.{Statement, Block}
use Rattle.vast.proofs.WholeTreeLemmas.{tree_of_whole_block}
use Rattle.vexpr_parse.specs.Readers.{Answer, Reader, got, stop, and_then, past, follow, goes, refused, front, is_front}
use Rattle.vexpr_parse.proofs.ReaderRules.{Eats, passed_over}
use Rattle.vgrammar.specs.Parts.{both, other_way, one_way, map_tree, pair, many, either}
use Rattle.vgrammar.specs.Starts.{comma_word, is_word}
use Rattle.vgrammar.specs.Statements.{further_term, statement, statements_in, block_of, name_word, term, word_only, event_of, enclosed_event, control, path, path_of, argument, block_name, ended_statements}
use Rattle.vstatement_parse.specs.Gives.{Answered, block_at, enclosed_at, terms_at, further_terms, names_behind, path_at, block_name_text}
use Rattle.vgrammar.proofs.ManyTurns.{goes_on_first, past_eats_too}
use Rattle.vgrammar.proofs.Phrases.{sound_eats, past_shape, past_sound}
use Rattle.vgrammar.proofs.PartPhrases.{further_shape, further_phrase, text_shape, named_phrase, path_shape, path_phrase, argument_shape, argument_phrase}
use Rattle.vgrammar.proofs.StatementShapes.{statement_shape, statement_worded}
use Rattle.vgrammar.proofs.StatementLevels.{statement_phrase}
use Rattle.vast.specs.declared.token.Token.{Token}

pub further_eats : Eats further_term
further_eats = sound_eats further_term further_shape further_phrase.sound (λ tree v. some tree.by_comma _)
  where
    some : (kind : Bool) (words : List Text) → 0 < length (comma_word kind ∷ words)
    some kind words = omega arith

pub statement_eats : (below : ℕ) → Eats (statement below)
statement_eats below =
    sound_eats (statement below) (statement_shape below) (statement_phrase below).sound (λ tree v. statement_worded tree)

-- blocks

trees_in_list : (text : List Text) (list : List Statement) → statement_trees text list ≡ statements_in (map (statement_tree text) list)
trees_in_list text [] = refl
trees_in_list text (one ∷ more) = ap (first_statement (statement_tree text one)) (trees_in_list text more)

pub block_got : (text : List Text) (below : ℕ) (label : Option Token) (statements : Vec Statement Global) (words between left : List Text) →
    block_name words ≡ got (block_name_text text label) between →
    ended_statements (statement below) between ≡ got (both (map (statement_tree text) statements.items) tt) left →
    block_at below words ≡ got (statement_tree text (Block label statements)) left
block_got text below label statements words between left e f =
    ap (λ a. and_then (and_then a (λ one. map_tree (both one) (ended_statements (statement below)))) (λ parts. got (block_of parts))) e
    ∙ ap (λ a. and_then (and_then a (λ list. got (both (block_name_text text label) list))) (λ parts. got (block_of parts))) f
    ∙ ap (λ t. got t left) (sym (tree_of_whole_block text label statements
    ∙ ap (block (block_name_text text label)) (trees_in_list text statements.items)))

-- what is made of what was made
pub twice : {A B C : Type 0} (make : A → B) (again : B → C) (a : Answer A) →
    and_then (and_then a (λ tree. got (make tree))) (λ tree. got (again tree)) ≡ and_then a (λ tree. got (again (make tree)))
twice make again (got tree left) = refl
twice make again (stop why left) = refl

-- a word that isn't there, behind what was read

absent : (text : Text) (words : List Text) → is_front text (front words) ≡ false → word_only text words ≡ stop NoTree words
absent text [] e = refl
absent text (word ∷ words) e = ap (λ l. follow l word words) (passed_over (bytes_eq text word) (goes (got tt)) refused e)

pub unclosed : {A : Type 0} (read : Reader A) (text : Text) (words between left : List Text) (tree : A) (e : OrMemory Stop) →
    read words ≡ got tree between →
    Because (λ why. (why ≡ NoTree) × (left ≡ between) × (is_front text (front between) ≡ false)) e → Stops (pair read (word_only text) words) left e
unclosed read text words between left tree (Memory m) is given = tt
unclosed read text words between left tree (Fault why) is given =
    ap (λ a. and_then a (λ tree. map_tree (both tree) (word_only text))) is
    ∙ ap (λ a. and_then a (λ end. got (both tree end))) (absent text between given.2)
    ∙ ap (λ w. stop w between) (sym given.0) ∙ ap (stop why) (sym given.1)

pub unclosed_too : {A B : Type 0} (make : A → B) (read : Reader A) (words left : List Text) (e : OrMemory Stop) →
    Stops (read words) left e → Stops (map_tree make read words) left e
unclosed_too make read words left (Memory m) given = tt
unclosed_too make read words left (Fault why) given = ap (λ a. and_then a (λ tree. got (make tree))) given

-- what is waited for

terms_there : (words : List Text) → is_front (codes "*") (front words) ≡ false → enclosed_at words ≡ terms_at words
terms_there words e =
    ap (λ b. and_then (if b then map_tree one_way (past (codes "*") (word_only (codes ")"))) words
    else map_tree other_way (pair (pair term further_terms) (word_only (codes ")"))) words)
    (λ inner. got (event_of (other_way (other_way inner))))) e
    ∙ twice other_way (λ inner. event_of (other_way (other_way inner))) (pair (pair term further_terms) (word_only (codes ")")) words)

pub gives_terms : (text : List Text) (words left : List Text) (result : Result Event (OrMemory Stop)) (star : Bool) →
    star ≡ is_front (codes "*") (front words) → star ≡ false → Answered (event_tree text) (terms_at words) left result →
    Answered (event_tree text) (enclosed_at words) left result
gives_terms text words left result star is e given = subst (λ a. Answered (event_tree text) a left result) (sym (terms_there words (sym is ∙ e))) given

enclosed_there : (after : List Text) → is_name (codes "(") ≡ false → control (codes "(" ∷ after) ≡ enclosed_at after
enclosed_there after e =
    let Inner : Reader _ = either (is_front (codes "*")) (word_only (codes "*")) (past (codes "(") enclosed_event) in
    ap (λ b. and_then (if b then map_tree one_way name_word (codes "(" ∷ after) else map_tree other_way Inner (codes "(" ∷ after))
    (λ kind. got (event_of kind))) e
    ∙ twice other_way event_of (Inner (codes "(" ∷ after))
    ∙ twice other_way (λ inner. event_of (other_way inner)) (enclosed_event after)

pub gives_enclosed : (text : List Text) (words after left : List Text) (result : Result Event (OrMemory Stop)) (name : Bool) →
    name ≡ is_word is_name (front words) → name ≡ false → words ≡ codes "(" ∷ after →
    Answered (event_tree text) (enclosed_at after) left result → Answered (event_tree text) (control words) left result
gives_enclosed text words after left result name is e bracket given =
    subst (λ ws. Answered (event_tree text) (control ws) left result) (sym bracket)
    (subst (λ a. Answered (event_tree text) a left result)
    (sym (enclosed_there after (ap (λ ws. is_word is_name (front ws)) (sym bracket) ∙ sym is ∙ e))) given)

-- paths

pub name_eats : Eats (past (codes ".") name_word)
name_eats = past_eats_too (codes ".") name_word (sound_eats name_word (text_shape is_name) named_phrase.sound (λ tree v. omega arith))

pub path_eats : Eats (past (codes ",") path)
path_eats = past_eats_too (codes ",") path (sound_eats path path_shape path_phrase.sound some)
  where
    some : (tree : List Text) → path_shape.valid tree ≡ true → 0 < length (path_shape.spell tree)
    some [] v = let no : false ≡ true = v in absurd cc
    some (letters ∷ more) v = omega arith

path_is : (words : List Text) → path words ≡ path_at words
path_is words = by_first (name_word words)
  where
    by_more : (one : Text) (a : Answer (List Text)) →
        and_then (and_then a (λ list. got (both one list))) (λ parts. got (path_of parts)) ≡ and_then a (λ list. got (one ∷ list))
    by_more one (got list left) = refl
    by_more one (stop why left) = refl

    by_first : (a : Answer Text) →
        and_then (and_then a (λ one. map_tree (both one) (many (is_front (codes ".")) (λ list. past (codes ".") name_word)))) (λ parts. got (path_of parts))
        ≡ and_then a names_behind
    by_first (got one left) =
        by_more one (many (is_front (codes ".")) (λ list. past (codes ".") name_word) left)
        ∙ sym (goes_on_first (is_front (codes ".")) (past (codes ".") name_word) one [] left)
    by_first (stop why left) = refl

pub path_answers : (words : List Text) (a : Answer (List Text)) → path_at words ≡ a → path words ≡ a
path_answers words a e = path_is words ∙ e

-- arguments

pub level_of : (below : ℕ) → 0 < below → nat_le 1 below ≡ true
level_of zero e = absurd (omega (arith, e))
level_of (suc n) e = one_within n

pub argument_eats : (below : ℕ) → 0 < below → Eats (past (codes ",") (argument below))
argument_eats below e =
    sound_eats (past (codes ",") (argument below)) (past_shape (codes ",") (argument_shape below))
    (past_sound (codes ",") (argument below) (argument_shape below) (argument_phrase below (level_of below e)).sound)
    (λ tree v. zero-lt-suc (length (spell_argument tree)))
