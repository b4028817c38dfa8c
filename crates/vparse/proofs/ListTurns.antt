-- Lists with commas: from the calls that read their members to what the definitions read.
use Rattle.std.proofs.Common.{◌≡◌, inl, inr, Bool, true, false, List, [], ◌∷◌, ◌++◌, codes, drop, map, Vec, Result, Ok, Err, refl, sym, ap, ◌∙◌, subst, append_assoc}
use Rattle.std.proofs.lemmas.List.{map-append, append-nil}
use Rattle.std.specs.Str.{bytes_eq}
use Rattle.std.specs.Borrow.{MutBor}
use Rattle.basis.specs.declared.memory.OrMemory.{OrMemory}
use Rattle.basis.specs.declared.memory.OrMemory.TheVariants.{Fault, Memory}
use Rattle.vwords.specs.Words.{Text}
use Rattle.vlex.specs.Tokenized.{Tokenized}
use Rattle.vexpr_parse.specs.declared.cursor.Cursor.{Cursor}
use Rattle.vexpr_parse.specs.declared.stop.Stop.{Stop}
use Rattle.vexpr_parse.specs.declared.stop.Stop.TheVariants.{NoTree}
use Rattle.vexpr_parse.specs.Readers.{got, stop, Reader, front, is_front, and_then, past, follow, goes, refused}
use Rattle.vexpr_parse.proofs.ReaderRules.{Eats, chosen, passed_over, text_same}
use Rattle.vexpr_parse.specs.Answers.{ahead}
use Rattle.vexpr_parse.specs.Texts.{words_of}
use Rattle.vstatement_parse.specs.Gives.{Answered, Gives}
use Rattle.vparse.specs.ModuleGives.{Calls, IsCall, ReadBehind, IsReached, IsListed, IsBroken, ListedUntil, ListsUntil, ReadsAs, all_of}
use Rattle.vgrammar.proofs.ManyTurns.{goes_on, one_more, stopped_at, no_more, behind_word, past_eats_too}
use Rattle.vgrammar.specs.Lists.{all_until, rest_until}

module _ {T : Type 0} (tokens : Tokenized) (call : Calls T) where
  behind_all : (more : List T) (words between : List Text) (one : T) (left : List Text) →
      ReadBehind tokens call more words between →
      is_front (codes ",") (front between) ≡ true → IsCall tokens call (drop 1 between) (Ok one) left →
      ReadBehind tokens call (more ++ one ∷ []) words left
  behind_all [] words between one left e comma is =
      (left, subst (λ ws. is_front (codes ",") (front ws) ≡ true) e comma, subst (λ ws. IsCall tokens call (drop 1 ws) (Ok one) left) e is, refl)
  behind_all (first ∷ more) words between one left read comma is =
      (read.0, read.1, read.2, behind_all more read.0 between one left read.3 comma is)

  pub one_listed : (first : T) (words here between left : List Text) (list after : List T) (one : T) (old new : MutBor Cursor)
      (seen : Bool) → IsReached tokens call first words here list → seen ≡ is_front (codes ",") (front here) → seen ≡ true →
      between ≡ drop 1 here →
      after ≡ list ++ one ∷ [] → ahead tokens old.now ≡ between → ahead tokens new.now ≡ left → call old (Ok one) new →
      IsReached tokens call first words left after
  one_listed first words here between left list after one old new seen r is here_is passed whole before behind told = record {
    more = r.more ++ one ∷ [];
    whole = whole ∙ ap (λ ts. ts ++ one ∷ []) r.whole;
    read = behind_all r.more words here one left r.read (sym is ∙ here_is)
        (record { old = old; new = new; before = before ∙ passed; behind = behind; is = told });
  }

-- so of a call whatever its words are called
call_gives : {T A : Type 0} (view : List Text → T → A) (one : Reader A) (tokens : Tokenized) (call : Calls T) →
    ReadsAs view one tokens call → (words left : List Text) (result : Result T (OrMemory Stop)) → IsCall tokens call words result left →
    Answered (view (words_of tokens)) (one words) left result
call_gives view one tokens call reads words left result c =
    subst (λ ws. Answered (view (words_of tokens)) (one ws) left result) c.before
    (subst (λ ws. Answered (view (words_of tokens)) (one (ahead tokens c.old.now)) ws result) c.behind (reads c.old c.new result c.is))

-- behind this very word, where it stands first, and where it doesn't
past_it : {A : Type 0} (text : Text) (read : Reader A) (left : List Text) → past text read (text ∷ left) ≡ read left
past_it text read left = ap (λ l. follow l text left) (chosen (bytes_eq text text) (goes read) refused (text_same text))

pub past_not : {A : Type 0} (text : Text) (read : Reader A) (left : List Text) → is_front text (front left) ≡ false →
    past text read left ≡ stop NoTree left
past_not text read [] e = refl
past_not text read (word ∷ left) e = ap (λ l. follow l word left) (passed_over (bytes_eq text word) (goes read) refused e)

module _ {T A : Type 0} (view : List Text → T → A) (one : Reader A) (eats : Eats one) (tokens : Tokenized) (call : Calls T)
    (reads : ReadsAs view one tokens call) where
  abbrev behind_comma : List A → Reader A
  behind_comma list = past (codes ",") one

  comma_eats : (list : List A) → Eats (behind_comma list)
  comma_eats list = past_eats_too (codes ",") one eats

  -- the trees of what was given
  abbrev tree : T → A
  tree = view (words_of tokens)

  -- those that were read behind others
  passed : (more list : List T) (words left : List Text) → ReadBehind tokens call more words left →
      goes_on (is_front (codes ",")) behind_comma (map tree list) words ≡ goes_on (is_front (codes ",")) behind_comma (map tree (list ++ more)) left
  passed [] list words left e =
      ap (λ ws. goes_on (is_front (codes ",")) behind_comma (map tree list) ws) (sym e)
      ∙ ap (λ ts. goes_on (is_front (codes ",")) behind_comma (map tree ts) left) (sym (append-nil list))
  passed (given ∷ more) list words left r =
      one_more (is_front (codes ",")) behind_comma comma_eats (map tree list) words (tree given) r.0 r.1
      (behind_word (codes ",") one words (got (tree given) r.0) r.1 (call_gives view one tokens call reads (drop 1 words) r.0 (Ok given) r.2))
      ∙ ap (λ ts. goes_on (is_front (codes ",")) behind_comma ts r.0) (sym (map-append tree list (given ∷ [])))
      ∙ passed more (list ++ given ∷ []) r.0 left r.3
      ∙ ap (λ ts. goes_on (is_front (codes ",")) behind_comma (map tree ts) left) (append_assoc list (given ∷ []) more)

  reached : (first : T) (words left : List Text) (list : List T) → IsReached tokens call first words left list →
      goes_on (is_front (codes ",")) behind_comma (tree first ∷ []) words ≡ goes_on (is_front (codes ",")) behind_comma (map tree list) left
  reached first words left list r =
      passed r.more (first ∷ []) words left r.read
      ∙ ap (λ ts. goes_on (is_front (codes ",")) behind_comma (map tree ts) left) (sym r.whole)

  listed : (first : T) (words left : List Text) (list : List T) → IsListed tokens call first words left list →
      goes_on (is_front (codes ",")) behind_comma (tree first ∷ []) words ≡ got (map tree list) left
  listed first words left list l =
      reached first words left list l.reached ∙ no_more (is_front (codes ",")) behind_comma comma_eats (map tree list) left l.ended

  broken : (first : T) (words left : List Text) (why : Stop) → IsBroken tokens call first words left why →
      goes_on (is_front (codes ",")) behind_comma (tree first ∷ []) words ≡ stop why left
  broken first words left why b =
      reached first words b.between b.list b.reached
      ∙ stopped_at (is_front (codes ",")) behind_comma comma_eats (map tree b.list) b.between left why b.comma
      (behind_word (codes ",") one b.between (stop why left) b.comma
      (call_gives view one tokens call reads (drop 1 b.between) left (Err (Fault why)) b.stopped))

  pub until_given : {R : Type 0} (text : Text) (first : T) (words left : List Text) (result : Result (Vec T R) (OrMemory Stop)) →
      ListedUntil tokens call first text words left result →
      Answered (all_of view (words_of tokens)) (rest_until text one (tree first) words) left result
  until_given text first words left (Ok all) l =
      ap (λ a. and_then a (λ all. past text (got all))) (listed first words (text ∷ left) all.items l) ∙ past_it text (got (map tree all.items)) left
  until_given text first words left (Err (Memory m)) l = tt
  until_given text first words left (Err (Fault why)) (inl b) =
      ap (λ a. and_then a (λ all. past text (got all))) (broken first words left why b)
  until_given text first words left (Err (Fault why)) (inr u) =
      ap (λ a. and_then a (λ all. past text (got all))) (listed first words left u.list u.listed)
      ∙ past_not text (got (map tree u.list)) left u.other
      ∙ ap (λ w. stop w left) (sym u.none)

  -- with the first one, which another reader read before them
  pub behind_given : {R : Type 0} (head : Reader A) (text : Text) (first : T) (old between new : Cursor)
      (result : Result (Vec T R) (OrMemory Stop)) →
      head (ahead tokens old) ≡ got (tree first) (ahead tokens between) → ListsUntil tokens call first text between new result →
      Gives (all_of view) (λ words. and_then (head words) (rest_until text one)) tokens old new result
  behind_given head text first old between new result e l =
      subst (λ a. Answered (all_of view (words_of tokens)) (and_then a (rest_until text one)) (ahead tokens new) result) (sym e)
      (until_given text first (ahead tokens between) (ahead tokens new) result l)

  pub list_given : {R : Type 0} (text : Text) (first : T) (old between new : Cursor) (result : Result (Vec T R) (OrMemory Stop)) →
      one (ahead tokens old) ≡ got (tree first) (ahead tokens between) → ListsUntil tokens call first text between new result →
      Gives (all_of view) (all_until text one) tokens old new result
  list_given = behind_given one
