use Rattle.std.proofs.Common.{arith, ◌+◌, ◌∙◌, sym, ap}
use Rattle.vlex.specs.Forms.{has_good_escapes}
use Rattle.vlex.proofs.Comments.{open_string, closed_string, bad_string}
use Rattle.vlex.proofs.text.string.Goals as goal

pub returns-in_default : goal.returns-in_default
returns-in_default c = open_string c.args.first c.args.rest.now c.requires (sym c.in_default.ensures.value)

pub returns-then-has_good_escapes : goal.returns-then-has_good_escapes
returns-then-has_good_escapes c =
    closed_string c.args.first c.args.rest.now c.in-Some.len (1 + c.in-Some.len) c.requires (omega arith) (sym c.in-Some.ensures.value) c.in-Some.ensures.within
    (ap has_good_escapes (sym c.split_at.ensures.front) ∙ sym c.has_good_escapes.ensures ∙ c.if-has_good_escapes.true)

pub returns-else-has_good_escapes : goal.returns-else-has_good_escapes
returns-else-has_good_escapes c =
    bad_string c.args.first c.args.rest.now c.in-Some.len c.requires (sym c.in-Some.ensures.value) c.in-Some.ensures.within
    (ap has_good_escapes (sym c.split_at.ensures.front) ∙ sym c.has_good_escapes.ensures ∙ c.if-has_good_escapes.false)
