use Rattle.std.proofs.Common.{subst, arith}
use Rattle.basis.specs.Reasons.{Because}
use Rattle.vexpr_parse.specs.Texts.{words_of}
use Rattle.vparse.specs.Refusals.{HasNoText, IsRefusal}
use Rattle.vrace.proofs.DesignLemmas.{has_many, read_as}
use Rattle.vrace.proofs.design.tree_of.Goals as goal

pub returns-then-len-gt-MOST_WORDS-clause-err : goal.returns-then-len-gt-MOST_WORDS-clause-err
returns-then-len-gt-MOST_WORDS-clause-err c = λ source top cut.
    has_many source c.args.tokens.now cut (omega (arith, c.if-len-gt-MOST_WORDS.true, c.len.ensures.value)) c.place.result c.at.result
    c.place.ensures c.at.ensures

pub returns-in-Ok-clause-ok : goal.returns-in-Ok-clause-ok
returns-in-Ok-clause-ok c = λ source cut.
    read_as source c.args.tokens.now cut (omega arith) c.in-Ok.tree c.in-Ok.ensures.derives c.in-Ok.ensures.only c.in-Ok.ensures.leaves

pub returns-in-Err-Fault-clause-err : goal.returns-in-Err-Fault-clause-err
returns-in-Err-Fault-clause-err c = λ source top cut.
    c.of_tree.ensures source c.args.tokens.now top cut
    (subst (Because (λ _. HasNoText (words_of c.args.tokens.now))) c.in-Err-Fault.field-0-is c.in-Err-Fault.ensures.none)
    (subst (Because (IsRefusal c.args.tokens.now)) c.in-Err-Fault.field-0-is c.in-Err-Fault.ensures.reason)
