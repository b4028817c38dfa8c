-- A rule that the only tree of a text breaks leaves the text without a design.
use Rattle.std.proofs.Common.{◌≡◌, ◌<◌, ◌≤◌, inr, ℕ, List, length, Option, Some, None, Result, Ok, Err, IfOk, IfErr, refl, sym, ap, subst, ◌∙◌, arith}
use Rattle.std.specs.Prelude.{option_and_then}
use Rattle.vsrc.specs.Source.{Source, place_of}
use Rattle.vsrc.specs.declared.expanded.Place.{Place}
use Rattle.vsrc.specs.Expansion.{are_timed, expansion, timed_of}
use Rattle.vsrc.specs.declared.fault.SrcFault.{SrcFault}
use Rattle.vlex.specs.Tokenized.{Tokenized, pieces_of, start_of}
use Rattle.vwords.specs.Words.{Text}
use Rattle.vast.specs.Modules.{DerivesText}
use Rattle.vast.specs.ModuleTrees.{source_tree}
use Rattle.vast.specs.TokenTexts.{leaves_from}
use Rattle.vast.specs.Leaves.{text_leaves}
use Rattle.vast.specs.declared.module.TextTree.{TextTree}
use Rattle.vast.specs.NumberedModules.{SourceTree}
use Rattle.vast.specs.NumberedTexts.{IsNumbered}
use Rattle.vast.specs.NumberedTrees.{source_tree as numbered_tree}
use Rattle.vast.proofs.NumberedTextLemmas.{numbered_text, numbered_once}
use Rattle.vexpr_parse.specs.Texts.{words_of}
use Rattle.vparse.specs.Refusals.{HasNoText, IsOnlyText}
use Rattle.basis.specs.declared.timescale.Timescale.{Timescale}
use Rattle.vast.specs.NumberedWords.{Word}
use Rattle.vdesign.specs.Design.{Design}
use Rattle.vmodules.specs.Names.{first_again}
use Rattle.vmodules.specs.Hierarchy.{module_names}
use Rattle.velab_expr.specs.Answers.{◌>>=◌}
use Rattle.velab_expr.specs.declared.fault.Rule.TheVariants.{Doubled}
use Rattle.vhierarchy.specs.Instances.{Elaborates, Whole, as_design, unless_word, broken_ports, unless_fault, top_whole}
use Rattle.vhierarchy.specs.Reasons.{IsDesignReason, HasNoDesign}
use Rattle.velab_expr.specs.declared.fault.ElabFault.{ElabFault}
use Rattle.vrace.specs.ActionPlaces.{ArePlaced, ArePlacedInFiles}
use Rattle.vrace.specs.declared.design.Placed.{Placed}
use Rattle.vrace.specs.Replays.{AreRead, most_words, IsTreeOf, texts_of}
use Rattle.vrace.specs.Unique.{IsCut, IsReadAs}
use Rattle.vrace.specs.declared.fault.At.{At}
use Rattle.vrace.specs.Refusals.{Breaks, HasManyWords, IsAt, word_place, IsTextReason, IsDesignFault, IsTreeless}
use Rattle.vrace.specs.declared.fault.Fault.{Fault}

module _ (source : Source) (tokens : Tokenized) (cut : IsCut source tokens) where
  -- the words of any tree of the text are those of its tokens
  at_words : (tree : SourceTree) (is : IsTreeOf source.text tree) → DerivesText (words_of tokens) is.plain × IsNumbered (words_of tokens) is.plain tree
  at_words tree is =
      subst (λ pieces. DerivesText (texts_of pieces) is.plain × IsNumbered (texts_of pieces) is.plain tree) (cut.only is.pieces is.lexed) (is.derived, is.numbered)

  pub treeless : HasNoText (words_of tokens) → IsTreeless source.text
  treeless none tree is = none is.plain (at_words tree is).0

  pub has_many : most_words < length (pieces_of tokens) → (place : Place) (at : At) → place ≡ place_of tokens.source (start_of tokens most_words) → at ≡ record { 0 = Some place } →
      IsTreeless source.text × IsAt at (HasManyWords source)
  has_many many place at placed told = (
    (λ tree is.
        let few = is.few in
        let same = ap length (cut.only is.pieces is.lexed) in
        omega (arith, many, few, same)),
    (place, told, record { tokens = tokens; are_tokens = cut.are_tokens; many = many; placed = placed }),
  )

  pub read_as : length (pieces_of tokens) ≤ most_words → (text : TextTree) → DerivesText (words_of tokens) (source_tree (words_of tokens) text) → IsOnlyText (words_of tokens) (source_tree (words_of tokens) text) →
      text_leaves text ≡ leaves_from 0 (words_of tokens) → IsReadAs source.text (numbered_tree (words_of tokens) text)
  read_as few text derived only kept =
      let words : List Text = words_of tokens in
      let here : IsNumbered words (source_tree words text) (numbered_tree words text) = numbered_text words text kept in
      record {
        is_tree = record { pieces = pieces_of tokens; lexed = cut.are_tokens.lexed; few = few; plain = source_tree words text; derived = derived; numbered = here };
        only = λ other is.
            numbered_once words (source_tree words text) other (numbered_tree words text)
            (subst (λ plain. IsNumbered words plain other) (only is.plain (at_words other is).0) (at_words other is).1) here;
      }

  pub breaks : (tree : SourceTree) (top : Option (List ℕ)) (fault : ElabFault) (at : At) → IsReadAs source.text tree →
      IsDesignReason tree top fault → HasNoDesign tree top → at ≡ record { 0 = option_and_then (word_place tokens) fault.at } → Breaks source top fault.rule at
  breaks tree top fault at read reason none placed = (
    (λ scale design is.
        none scale design (subst (λ t. Elaborates t top scale design) (read.only is.tree is.is_tree) is.elaborated)),
    record { tokens = tokens; are_tokens = cut.are_tokens; tree = tree; is_tree = read.is_tree; word = fault.at; broken = reason; place = placed },
  )

abbrev source_in : Source → Result Source SrcFault → Source
source_in other (Ok source) = source
source_in other (Err fault) = other

same_source : (one other : Source) (r : Result Source SrcFault) → r ≡ Ok one → r ≡ Ok other → one ≡ other
same_source one other r e f = ap (source_in one) (sym e ∙ f)

-- a fault of the text that the files make is one of the design
pub err_of_text : {T : Type 0} (r : Result T Fault) (files : List (List ℕ)) (source : Source) (top : Option (List ℕ)) → AreRead files →
    expansion files ≡ Ok source →
    IfErr r (IsTextReason source top) → IfErr r (IsDesignFault files top)
err_of_text (Ok x) files source top read is reason = tt
err_of_text (Err fault) files source top read is reason =
    inr (read, subst (λ t. IsTextReason t top fault) (same_source source read.source (expansion files) is read.expanded) reason)

-- no two modules of a text that has a design have one name
pub names_once : (tree : SourceTree) (top : Option Text) (scale : Timescale) (design : Design) → Elaborates tree top scale design → first_again (module_names tree) ≡ None
names_once tree top scale design is = none_in (first_again (module_names tree)) (unless_fault (broken_ports tree) (top_whole tree top)) is
  where
    none_in : (again : Option Word) (rest : Result Whole ElabFault) → as_design scale (unless_word again Doubled rest) ≡ Ok design → again ≡ None
    none_in None rest is = refl
    none_in (Some word) rest is = absurd cc

-- the places are those of the text that the files make
pub placed_in_files : (r : Result Placed Fault) (files : List (List ℕ)) (source : Source) (top : Option Text) → expansion files ≡ Ok source →
    IfOk r (λ placed. ArePlaced source top placed.origins) → IfOk r (λ placed. ArePlacedInFiles files top placed.origins)
placed_in_files (Ok placed) files source top is here = record { source = source; expanded = is; placed = here }
placed_in_files (Err fault) files source top is here = tt

pub timed_in_files : (r : Result Placed Fault) (files : List (List ℕ)) (source : Source) → expansion files ≡ Ok source →
    IfOk r (λ placed. placed.timed ≡ source.timed) → IfOk r (λ placed. placed.timed ≡ are_timed files)
timed_in_files (Ok placed) files source is here = here ∙ ap timed_of (sym is)
timed_in_files (Err fault) files source is here = tt
