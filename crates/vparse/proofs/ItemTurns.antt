-- What the loops over items and over modules go on from.
use Rattle.std.proofs.Common.{◌≡◌, Bool, true, false, not, List, [], ◌∷◌, ◌++◌, Option, codes, map, refl, sym, ◌∙◌, zero-lt-suc}
use Rattle.vwords.specs.Words.{Text}
use Rattle.vast.specs.Modules.{ItemTree, ModuleTree}
use Rattle.vast.specs.ModuleTrees.{item_tree, module_tree}
use Rattle.vast.specs.declared.module.ModuleItem.{ModuleItem}
use Rattle.vast.specs.declared.module.ModuleTree.{ModuleTree as ModuleWords}
use Rattle.vexpr_parse.specs.declared.stop.Stop.{Stop}
use Rattle.vexpr_parse.specs.Readers.{Answer, got, stop, front, is_front}
use Rattle.vexpr_parse.proofs.ReaderRules.{Eats}
use Rattle.vgrammar.specs.Modules.{is_some_word}
use Rattle.vgrammar.specs.Modules as with_levels
use Rattle.vparse.specs.TextReaders.{item, module_tree as module_reader, source}
use Rattle.vparse.specs.ModuleGives.{items_from, modules_from}
use Rattle.vgrammar.proofs.Phrases.{sound_eats}
use Rattle.vgrammar.proofs.ItemPhrases.{item_shape, item_phrase}
use Rattle.vgrammar.proofs.ModulePhrases.{item_worded, module_shape, module_phrase}
use Rattle.vgrammar.proofs.ManyTurns.{pushed, stopped_at, no_more}

pub item_eats : Eats item
item_eats = sound_eats item (item_shape 63) (item_phrase 63).sound (item_worded 63)

abbrev within : Option Text → Bool
within next = not (is_front (codes "endmodule") next)

module _ (text words : List Text) (seen : Bool) (is : seen ≡ not (is_front (codes "endmodule") (front words))) where
  pub items_pushed : seen ≡ true → (list after : List ModuleItem) (one : ModuleItem) (left : List Text) (all : Answer (List ItemTree)) →
      after ≡ list ++ one ∷ [] → item words ≡ got (item_tree text one) left → items_from (map (item_tree text) list) words ≡ all →
      items_from (map (item_tree text) after) left ≡ all
  items_pushed here list after one left all same e before =
      pushed (item_tree text) within item item_eats words (sym is ∙ here) list after one left all same e before

  pub items_stopped : seen ≡ true → (list : List ModuleItem) (left : List Text) (why : Stop) → item words ≡ stop why left →
      items_from (map (item_tree text) list) words ≡ stop why left
  items_stopped here list left why e = stopped_at within (λ list. item) (λ list. item_eats) (map (item_tree text) list) words left why (sym is ∙ here) e

  pub items_ended : seen ≡ false → (list : List ModuleItem) → items_from (map (item_tree text) list) words ≡ got (map (item_tree text) list) words
  items_ended here list = no_more within (λ list. item) (λ list. item_eats) (map (item_tree text) list) words (sym is ∙ here)

pub module_eats : Eats module_reader
module_eats = sound_eats module_reader (module_shape 63) (module_phrase 63).sound (λ tree v. zero-lt-suc _)

pub source_is : (words : List Text) → modules_from [] words ≡ source words
unfolding with_levels.source
source_is words = refl

module _ (text words : List Text) (seen : Bool) (is : seen ≡ is_some_word (front words)) where
  pub modules_pushed : seen ≡ true → (list after : List ModuleWords) (one : ModuleWords) (left : List Text) (all : Answer (List ModuleTree)) →
      after ≡ list ++ one ∷ [] → module_reader words ≡ got (module_tree text one) left → modules_from (map (module_tree text) list) words ≡ all →
      modules_from (map (module_tree text) after) left ≡ all
  modules_pushed here list after one left all same e before =
      pushed (module_tree text) is_some_word module_reader module_eats words (sym is ∙ here) list after one left all same e before

  pub modules_stopped : seen ≡ true → (list : List ModuleWords) (left : List Text) (why : Stop) → module_reader words ≡ stop why left →
      modules_from (map (module_tree text) list) words ≡ stop why left
  modules_stopped here list left why e =
      stopped_at is_some_word (λ list. module_reader) (λ list. module_eats) (map (module_tree text) list) words left why (sym is ∙ here) e

  pub modules_ended : seen ≡ false → (list : List ModuleWords) → modules_from (map (module_tree text) list) words ≡ got (map (module_tree text) list) words
  modules_ended here list = no_more is_some_word (λ list. module_reader) (λ list. module_eats) (map (module_tree text) list) words (sym is ∙ here)
