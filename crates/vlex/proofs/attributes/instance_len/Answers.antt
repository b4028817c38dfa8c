use Rattle.std.proofs.Common.{None, Some, drop, sym, ◌∙◌, arith}
use Rattle.std.proofs.lemmas.List.{length-drop}
use Rattle.vlex.specs.Tokenized.{pieces_of}
use Rattle.vlex.proofs.Instances.{instance_is, instance_short}
use Rattle.vlex.proofs.attributes.instance_len.Goals as goal

pub returns-then-len-at-lt2-clause-value : goal.returns-then-len-at-lt2-clause-value
returns-then-len-at-lt2-clause-value c =
    instance_short c.args.earlier.now c.args.last.now (drop c.args.at (pieces_of c.args.tokens.now))
    (omega (arith, length-drop c.args.at (pieces_of c.args.tokens.now), c.if-len-at-lt2.true, c.len.ensures.value))

pub returns-in-None-clause-value : goal.returns-in-None-clause-value
returns-in-None-clause-value c =
    instance_is c.args.earlier.now c.args.last.now (pieces_of c.args.tokens.now) c.args.at None (sym c.opens.ensures ∙ c.if-not-opens.false)
    (sym c.may_stand.ensures ∙ c.if-not-may_stand.false) c.in-None.ensures.value

pub returns-in-Some-clause-value : goal.returns-in-Some-clause-value
returns-in-Some-clause-value c =
    instance_is c.args.earlier.now c.args.last.now (pieces_of c.args.tokens.now) c.args.at (Some c.in-Some.len) (sym c.opens.ensures ∙ c.if-not-opens.false)
    (sym c.may_stand.ensures ∙ c.if-not-may_stand.false) c.in-Some.ensures.value
