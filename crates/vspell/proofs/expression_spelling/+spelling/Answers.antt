use Rattle.std.proofs.Common.{◌∷◌, [], codes}
use Rattle.vast.specs.TokenTexts.{texts}
use Rattle.vspell.specs.Spellings.{texts_of}
use Rattle.vast.specs.ExpressionTrees.{tree_of, trees_of}
use Rattle.vast.specs.Expressions.{spell_expression}
use Rattle.vspell.specs.Inner.{doubled_words}
use Rattle.vspell.proofs.SpellLemmas.{puts_as, puts_thrice, concatenation_spelled, replication_spelled}
use Rattle.vspell.proofs.expression_spelling.+spelling.Goals as goal

pub put_expression-returns-in-Concatenation : goal.put_expression-returns-in-Concatenation
put_expression-returns-in-Concatenation t c =
    puts_as c.put_braces.result (texts_of c.args.out.now.items) (texts_of c.put_braces.new.out.items) _ _
    (concatenation_spelled (texts c.args.words.now) c.args.expression.now c.in-Concatenation.at c.in-Concatenation.parts
    c.deref-in-Concatenation.result.now c.in-Concatenation.is c.deref-in-Concatenation.ensures.value)
    c.put_braces.ensures

pub put_expression-returns-in_ok-put_expression-in-Replication : goal.put_expression-returns-in_ok-put_expression-in-Replication
put_expression-returns-in_ok-put_expression-in-Replication t c =
    let words = texts c.args.words.now in
    puts_thrice c.put_doubled.result (texts_of c.args.out.now.items) (texts_of c.put-in-Replication.new.out.items)
    (texts_of c.put_expression-in-Replication.new.out.items) (texts_of c.put_doubled.new.out.items)
    (codes "{" ∷ []) (spell_expression (tree_of words c.deref-in-Replication.result.now)) (doubled_words (trees_of words c.deref-in-Replication-2.result.now))
    (spell_expression (tree_of words c.args.expression.now))
    c.in_ok-put-in-Replication.ensures c.in_ok-put_expression-in-Replication.ensures
    (replication_spelled words c.args.expression.now c.in-Replication.at c.in-Replication.count c.in-Replication.parts
    c.deref-in-Replication.result.now c.deref-in-Replication-2.result.now c.in-Replication.is c.deref-in-Replication.ensures
    c.deref-in-Replication-2.ensures.value)
    c.put_doubled.ensures
