-- What stands in the lists of modules leaves fewer words where it is read.
use Rattle.std.proofs.Common.{◌≡◌, ℕ, ◌<◌, ◌≤◌, Option, None, Some, List, [], ◌++◌, length, codes, arith, zero-lt-suc}
use Rattle.basis.proofs.Lists.{longer}
use Rattle.vwords.specs.Words.{Text, is_name}
use Rattle.vast.specs.TokenTexts.{token_text}
use Rattle.vast.specs.Expressions.{ExpressionTree}
use Rattle.vast.specs.ExpressionTrees.{tree_of}
use Rattle.vast.specs.Statements as targets
use Rattle.vast.specs.Modules as trees
use Rattle.vast.specs.ModuleTrees.{setting_tree, declared_tree, connection_tree, instance_tree, head_parameter as head_tree, port_tree, net_assignment as net_assignment_tree}
use Rattle.vast.specs.declared.token.Token.{Token}
use Rattle.vast.specs.declared.expression.Expression.{Expression}
use Rattle.vast.specs.declared.module.Setting.{Setting}
use Rattle.vast.specs.declared.module.NetAssignment.{NetAssignment}
use Rattle.vast.specs.declared.module.Declared.{Declared}
use Rattle.vast.specs.declared.module.Connection.{Connection}
use Rattle.vast.specs.declared.module.Instance.{Instance}
use Rattle.vast.specs.declared.module.HeadParameter.{HeadParameter}
use Rattle.vast.specs.declared.module.Port.{Port}
use Rattle.vexpr_parse.specs.Readers.{Reader, got}
use Rattle.vexpr_parse.proofs.ReaderRules.{Eats}
use Rattle.vgrammar.specs.Statements.{name_word}
use Rattle.vgrammar.specs.Modules.{named_port}
use Rattle.vparse.specs.TextReaders.{free_value, setting, declarator, connection, instance_behind, head_parameter, port, net_assignment}
use Rattle.vgrammar.proofs.Phrases.{sound_eats}
use Rattle.vgrammar.proofs.ValuePhrases.{value_worded}
use Rattle.vgrammar.proofs.PartPhrases.{text_shape, named_phrase}
use Rattle.vgrammar.proofs.HeadPhrases.{Free, free_phrase_value, setting_shape, setting_phrase, declared_shape, declared_phrase, declared_worded, net_assignment_shape, net_assignment_phrase}
use Rattle.vgrammar.proofs.ItemPhrases.{connection_shape, connection_phrase, instance_shape, instance_phrase}
use Rattle.vgrammar.proofs.ModulePhrases.{head_shape, head_parameter_phrase, port_shape, port_phrase, named_port_shape, named_port_phrase}

no_more_words : {A : Type 0} (read : Reader A) → Eats read → (words left : List Text) (tree : A) → read words ≡ got tree left → length left ≤ length words
no_more_words read eats words left tree e = weaker (length left) (length words) (eats words tree left e)
  where
    weaker : (a b : ℕ) → a < b → a ≤ b
    weaker a b e = omega arith

pub setting_eats : Eats setting
setting_eats = sound_eats setting (setting_shape 63) (setting_phrase 63).sound (λ tree v. zero-lt-suc _)

pub net_assignment_eats : Eats net_assignment
net_assignment_eats =
    sound_eats net_assignment (net_assignment_shape 63) (net_assignment_phrase 63).sound (λ tree v. longer (targets.spell_target tree.target) (codes "=") _)

pub declared_eats : Eats declarator
declared_eats = sound_eats declarator (declared_shape 63) (declared_phrase 63).sound (declared_worded 63)

-- a port has a word at least, its name
port_words : (before : List Text) (letters : Text) (value : Option ExpressionTree) → 0 < length (before ++ trees.spell_value letters value)
port_words before letters None = longer before letters []
port_words before letters (Some value) = longer before letters _

pub named_port_eats : Eats named_port
named_port_eats =
    sound_eats named_port (named_port_shape 63) (named_port_phrase 63).sound
    (λ tree v. port_words (trees.spell_direction tree.direction) tree.name tree.value)

pub named_eats : Eats name_word
named_eats = sound_eats name_word (text_shape is_name) named_phrase.sound (λ tree v. zero-lt-suc _)

pub connection_eats : Eats connection
connection_eats = sound_eats connection (connection_shape 63) (connection_phrase 63).sound (λ tree v. zero-lt-suc _)

pub instance_eats : Eats instance_behind
instance_eats = sound_eats instance_behind (instance_shape 63) (instance_phrase 63).sound (λ tree v. zero-lt-suc _)

pub head_eats : Eats head_parameter
head_eats = sound_eats head_parameter (head_shape 63) (head_parameter_phrase 63).sound (λ tree v. longer (trees.spell_kind tree.kind) tree.setting.name _)

pub port_eats : Eats port
port_eats =
    sound_eats port (port_shape 63) (port_phrase 63).sound (λ tree v. port_words (trees.spell_direction tree.direction) tree.name tree.value)

pub value_eats : Eats free_value
value_eats = sound_eats free_value (Free 63) (free_phrase_value 63).sound (λ tree v. value_worded 64 tree v)

pub setting_fewer : (text words left : List Text) (one : Setting) → setting words ≡ got (setting_tree text one) left →
    length left ≤ length words
setting_fewer text words left one e = no_more_words setting setting_eats words left (setting_tree text one) e

pub net_assignment_fewer : (text words left : List Text) (one : NetAssignment) → net_assignment words ≡ got (net_assignment_tree text one) left →
    length left ≤ length words
net_assignment_fewer text words left one e = no_more_words net_assignment net_assignment_eats words left (net_assignment_tree text one) e

pub declared_fewer : (text words left : List Text) (one : Declared) → declarator words ≡ got (declared_tree text one) left →
    length left ≤ length words
declared_fewer text words left one e = no_more_words declarator declared_eats words left (declared_tree text one) e

pub named_port_fewer : (text words left : List Text) (one : Port) → named_port words ≡ got (port_tree text one) left →
    length left ≤ length words
named_port_fewer text words left one e = no_more_words named_port named_port_eats words left (port_tree text one) e

pub named_fewer : (text words left : List Text) (one : Token) → name_word words ≡ got (token_text text one) left →
    length left ≤ length words
named_fewer text words left one e = no_more_words name_word named_eats words left (token_text text one) e

pub value_fewer : (text words left : List Text) (one : Expression) → free_value words ≡ got (tree_of text one) left →
    length left ≤ length words
value_fewer text words left one e = no_more_words free_value value_eats words left (tree_of text one) e

pub connection_fewer : (text words left : List Text) (one : Connection) → connection words ≡ got (connection_tree text one) left →
    length left ≤ length words
connection_fewer text words left one e = no_more_words connection connection_eats words left (connection_tree text one) e

pub instance_fewer : (text words left : List Text) (one : Instance) → instance_behind words ≡ got (instance_tree text one) left →
    length left ≤ length words
instance_fewer text words left one e = no_more_words instance_behind instance_eats words left (instance_tree text one) e

pub head_fewer : (text words left : List Text) (one : HeadParameter) → head_parameter words ≡ got (head_tree text one) left →
    length left ≤ length words
head_fewer text words left one e = no_more_words head_parameter head_eats words left (head_tree text one) e

pub port_fewer : (text words left : List Text) (one : Port) → port words ≡ got (port_tree text one) left →
    length left ≤ length words
port_fewer text words left one e = no_more_words port port_eats words left (port_tree text one) e
