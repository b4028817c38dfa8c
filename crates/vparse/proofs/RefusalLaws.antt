-- What is read of a whole text, and where reading stops, as facts about its words.
use Rattle.std.proofs.Common.{◌≡◌, ℕ, zero, suc, ◌+◌, ◌-◌, ◌≤◌, Bool, false, List, [], ◌∷◌, ◌++◌, length, drop, map, Vec, refl, sym, ap, ◌∙◌, subst, arith}
use Rattle.std.specs.List.{slice_get}
use Rattle.std.proofs.lemmas.List.{length-append, length-map, drop_at}
use Rattle.vsrc.specs.Source.{place_of}
use Rattle.vsrc.specs.declared.expanded.Place.{Place}
use Rattle.vlex.specs.Tokenized.{Tokenized, pieces_of, start_of}
use Rattle.vwords.specs.Words.{Text}
use Rattle.vast.specs.Modules.{SourceTree, DerivesText}
use Rattle.vast.specs.ModuleTrees.{module_tree}
use Rattle.vast.specs.declared.module.ModuleTree.{ModuleTree as ModuleWords}
use Rattle.vexpr_parse.specs.declared.stop.Stop.{Stop}
use Rattle.vexpr_parse.specs.declared.stop.Stop.TheVariants.{NoTree, TooDeep}
use Rattle.vexpr_parse.specs.Readers.{got, stop, front}
use Rattle.vexpr_parse.specs.Texts.{words_of}
use Rattle.vexpr_parse.proofs.ReaderRules.{stop_got}
use Rattle.vparse.specs.TextReaders.{source}
use Rattle.vgrammar.specs.SourcePlaces.{IsPlace, IsRefused, IsDeeper}
use Rattle.vgrammar.proofs.SourceReads.{reads_soundly, reads_completely, is_only}
use Rattle.vgrammar.proofs.SourceStops.{stops_at_place, stops_for_good, stops_too_deep}
use Rattle.vparse.specs.ModuleGives.{all_of}
use Rattle.vparse.specs.Profile.{is_any_outside}
use Rattle.vparse.proofs.DeepSources.{deep_inside}
use Rattle.vparse.specs.Refusals.{IsOnlyText, HasNoText, IsRefusedAt}

-- what is read is the tree of all the words, and their only one

pub read_derives : (words left : List Text) (tree : SourceTree) → source words ≡ got tree left → DerivesText words tree
read_derives words left tree e = (reads_soundly 63 words tree left e).1

pub read_only : (words left : List Text) (tree : SourceTree) → source words ≡ got tree left → IsOnlyText words tree
read_only words left tree e other d = is_only 64 64 words other tree d (read_derives words left tree e)

pub read_all : (words left : List Text) (tree : SourceTree) → source words ≡ got tree left → left ≡ []
read_all words left tree e = (reads_soundly 63 words tree left e).0

-- where reading stops

front_at : (words : List Text) (index : ℕ) → slice_get words index ≡ front (drop index words)
front_at [] zero = refl
front_at [] (suc index) = refl
front_at (word ∷ words) zero = refl
front_at (word ∷ words) (suc index) = front_at words index

pub stopped_none : (words left : List Text) (why : Stop) → source words ≡ stop why left → HasNoText words
stopped_none words left why e tree d = stop_got (sym e ∙ reads_completely 63 words tree d)

-- the words from the refused one on are those behind a number of words
record IsBehind (words left : List Text) (index : ℕ) : Type 0 where
  within : index ≤ length words
  behind : drop index words ≡ left

split_at : (words before left : List Text) (index : ℕ) → words ≡ before ++ left → index ≡ length words - length left → IsBehind words left index
split_at words before left index whole is =
    let long : length words ≡ length before + length left = ap length whole ∙ length-append before left in
    let same : length before ≡ index = omega (arith, long, is) in
    record {
      within = omega (arith, is);
      behind = ap (drop index) whole ∙ drop_at before left index same;
    }

stopped_behind : (words left : List Text) (why : Stop) (index : ℕ) → source words ≡ stop why left →
    index ≡ length words - length left → IsBehind words left index
stopped_behind words left why index e is =
    let place = stops_at_place 63 words left why e in split_at words place.before left index place.whole is

stopped_at : (tokens : Tokenized) (left : List Text) (why : Stop) (index : ℕ) (place : Place) (outside : Bool) →
    source (words_of tokens) ≡ stop why left → index ≡ length (words_of tokens) - length left →
    place ≡ place_of tokens.source (start_of tokens index) → is_any_outside (slice_get (words_of tokens) index) ≡ outside →
    (helps : List Text → List Text → Type 0) → helps (words_of tokens) left → IsRefusedAt tokens place outside helps
stopped_at tokens left why index place outside e is placed judged helps more =
    let b = stopped_behind (words_of tokens) left why index e is in
    record {
      index = index;
      within = b.within;
      placed = placed;
      refused = subst (IsPlace 64 (words_of tokens)) (sym b.behind) (stops_at_place 63 (words_of tokens) left why e);
      with_more = subst (helps (words_of tokens)) (sym b.behind) more;
      judged = judged;
    }

-- so in the terms of the program

module _ {R : Type 0} (words start left : List Text) (same : start ≡ words) (modules : Vec ModuleWords R)
    (read : source start ≡ got (all_of module_tree words modules) left) where
  read_here : source words ≡ got (map (module_tree words) modules.items) left
  read_here = ap source (sym same) ∙ read

  pub text_derives : DerivesText words (map (module_tree words) modules.items)
  text_derives = read_derives words left (map (module_tree words) modules.items) read_here

  pub text_only : IsOnlyText words (map (module_tree words) modules.items)
  text_only = read_only words left (map (module_tree words) modules.items) read_here

pub text_none : (words start left : List Text) (why : Stop) → start ≡ words → source start ≡ stop why left → HasNoText words
text_none words start left why same e = stopped_none words left why (ap source (sym same) ∙ e)

pub text_stopped : (words start left : List Text) (why : Stop) → start ≡ words → source start ≡ stop why left → source words ≡ stop why left
text_stopped words start left why same e = ap source (sym same) ∙ e

module _ (tokens : Tokenized) (left : List Text) (count here index : ℕ) (counted : count ≡ length (pieces_of tokens)) (stands : here ≡ length left)
    (is : index ≡ count - here) (place : Place) (placed : place ≡ place_of tokens.source (start_of tokens index)) where
  behind : index ≡ length (words_of tokens) - length left
  behind =
      let long : count ≡ length (words_of tokens) = counted ∙ sym (length-map (pieces_of tokens) (λ piece. piece.text)) in
      is ∙ ap (λ n. n - here) long ∙ ap (λ n. length (words_of tokens) - n) stands

  -- by a test of the word there
  pub refused_at : source (words_of tokens) ≡ stop NoTree left → (seen outside : Bool) →
      seen ≡ is_any_outside (slice_get (words_of tokens) index) → seen ≡ outside → IsRefusedAt tokens place outside (IsRefused 64)
  refused_at e seen outside judged same =
      stopped_at tokens left NoTree index place outside e behind placed (sym judged ∙ same) (IsRefused 64)
      (stops_for_good 63 (words_of tokens) left e)

  -- for want of levels
  pub deep_at : source (words_of tokens) ≡ stop TooDeep left → IsRefusedAt tokens place false (IsDeeper 64)
  deep_at e =
      let b = stopped_behind (words_of tokens) left TooDeep index e behind in
      stopped_at tokens left TooDeep index place false e behind placed
      (ap is_any_outside (front_at (words_of tokens) index ∙ ap front b.behind) ∙ deep_inside (words_of tokens) left e) (IsDeeper 64) (stops_too_deep 63 (words_of tokens) left e)
