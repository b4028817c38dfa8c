use Rattle.std.proofs.Common.{◌≡◌, true, false, ◌∙◌, ap, subst, drop, sym}
use Rattle.vexpr_parse.specs.Answers.{ahead}
use Rattle.vexpr_parse.specs.Places.{IsStopped, IsRefused, IsDeeper}
use Rattle.vexpr_parse.specs.Readers.{stop}
use Rattle.vexpr_parse.specs.Texts.{words_of}
use Rattle.vexpr_parse.specs.declared.stop.Stop.TheVariants.{NoTree, TooDeep}
use Rattle.vparse.specs.Profile.{is_any_outside}
use Rattle.longest_expression.proofs.LongestLaws.{stopped_from}
use Rattle.longest_expression.proofs.reading.fault.Goals as goal

pub returns-in-TooDeep : goal.returns-in-TooDeep
returns-in-TooDeep c =
    let left = ahead c.args.tokens.now c.args.cursor.now in
    let stopped = subst (IsStopped 64 (drop c.args.at (words_of c.args.tokens.now)) left) c.in-TooDeep.is c.requires.stopped in
    stopped_from c.args.tokens.now c.args.at c.number_of-index.result left c.place-place.result TooDeep (λ word. Unit {0}) (IsDeeper 64 0)
    c.number_of-index.ensures.count c.place-place.ensures tt (c.requires.read ∙ ap (λ why. stop why left) c.in-TooDeep.is) stopped.0 stopped.1

pub returns-then-stands_outside : goal.returns-then-stands_outside
returns-then-stands_outside c =
    let left = ahead c.args.tokens.now c.args.cursor.now in
    let stopped = subst (IsStopped 64 (drop c.args.at (words_of c.args.tokens.now)) left) c.in-NoTree.is c.requires.stopped in
    stopped_from c.args.tokens.now c.args.at c.number_of-index.result left c.place-place.result NoTree (λ word. is_any_outside word ≡ true) (IsRefused 64 0)
    c.number_of-index.ensures.count c.place-place.ensures (sym c.stands_outside.ensures ∙ c.if-stands_outside.true) (c.requires.read ∙ ap (λ why. stop why left) c.in-NoTree.is) stopped.0 stopped.1

pub returns-else-stands_outside : goal.returns-else-stands_outside
returns-else-stands_outside c =
    let left = ahead c.args.tokens.now c.args.cursor.now in
    let stopped = subst (IsStopped 64 (drop c.args.at (words_of c.args.tokens.now)) left) c.in-NoTree.is c.requires.stopped in
    stopped_from c.args.tokens.now c.args.at c.number_of-index.result left c.place-place.result NoTree (λ word. is_any_outside word ≡ false) (IsRefused 64 0)
    c.number_of-index.ensures.count c.place-place.ensures (sym c.stands_outside.ensures ∙ c.if-stands_outside.false) (c.requires.read ∙ ap (λ why. stop why left) c.in-NoTree.is) stopped.0 stopped.1
