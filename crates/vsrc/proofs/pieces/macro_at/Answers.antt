use Rattle.std.proofs.Common.{sym, ◌∙◌, ap, subst}
use Rattle.vsrc.specs.Pieces.{IsCutIfAny, names_of, text_of}
use Rattle.vsrc.proofs.Cutting.{cut_at, found_copied, found_cut, macro_is}
use Rattle.vsrc.proofs.pieces.macro_at.Goals as goal

pub returns-in-Some-clause-text : goal.returns-in-Some-clause-text
returns-in-Some-clause-text c = λ name named.
    found_copied c.as_ref.result ∙ ap text_of c.as_ref.ensures.value
    ∙ macro_is c.args.texts.now.entries c.args.index c.in-Some.field-0-0.now c.in-Some.found.now name (sym c.in-Some.ensures.entry) c.in-Some.ensures.value named

pub returns-in-Some-clause-cut : goal.returns-in-Some-clause-cut
returns-in-Some-clause-cut c =
    found_cut (names_of c.args.texts.now.entries) c.as_ref.result
    (subst (IsCutIfAny (names_of c.args.texts.now.entries)) (sym c.as_ref.ensures.value)
    (cut_at (names_of c.args.texts.now.entries) c.args.texts.now.entries c.args.index (c.in-Some.field-0-0.now, c.in-Some.found.now) (sym c.in-Some.ensures.entry) c.requires))
