use Rattle.std.proofs.Common.{Bool, List, [], ◌++◌, if◌then◌else◌, ap, sym, ◌∙◌}
use Rattle.vwords.specs.Words.{Text}
use Rattle.vexpr_parse.specs.Texts.{words_of}
use Rattle.vmodules.specs.Names.{is_declared, letters_of}
use Rattle.vmodules.specs.Inner.{listed_words, port_trees}
use Rattle.vmodules.proofs.ports.alone_names.Goals as goal

pub returns-then-not-is_plain : goal.returns-then-not-is_plain
returns-then-not-is_plain c text =
    let words = words_of c.args.tokens.now in
    ap (λ (l : List Text). is_declared l text) c.new-names.ensures
    ∙ sym (ap (λ (b : Bool). is_declared (letters_of (if b then listed_words (port_trees words c.args.list.now) else [])) text) (sym (c.is_plain.ensures words) ∙ c.if-not-is_plain.true))

pub returns : goal.returns
returns c text =
    let words = words_of c.args.tokens.now in
    c.in_ok-add_names.ensures text
    ∙ ap (λ (l : List Text). is_declared (l ++ letters_of (listed_words (port_trees words c.args.list.now))) text) c.new-names.ensures
    ∙ sym (ap (λ (b : Bool). is_declared (letters_of (if b then listed_words (port_trees words c.args.list.now) else [])) text) (sym (c.is_plain.ensures words) ∙ c.if-not-is_plain.false))
