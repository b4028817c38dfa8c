use Rattle.std.proofs.Common.{◌≡◌, ℕ, List, Bool, true, Option, Some, None, Result, Ok, Err, OnOk, sym, ap, subst, ◌∙◌}
use Rattle.basis.specs.Reasons.{Because, IfFault}
use Rattle.basis.specs.declared.memory.OrMemory.{OrMemory}
use Rattle.basis.specs.declared.memory.OrMemory.TheVariants.{Fault}
use Rattle.vsrc.specs.declared.refusal.Refusal.{Refusal}
use Rattle.vsrc.specs.declared.refusal.Why.TheVariants.{Directive}
use Rattle.vsrc.specs.Macros.{Macros, Made, looked_up, may_be_macro, refused_at, text_for, make_use, why_unknown}
use Rattle.vsrc.specs.Pieces.{Texts, by_name, macros_of, of_text}
use Rattle.vsrc.proofs.MacroText.{used_none, used_some}
use Rattle.vsrc.proofs.macros.put_use.Goals as goal

-- a refusal that is answered
refuses : (result : OrMemory Refusal) (refusal : Refusal) (whole : Result Made Refusal) → result ≡ Fault refusal → whole ≡ Err refusal → Because (λ r. whole ≡ Err r) result
refuses result refusal whole is h = subst (λ (e : OrMemory Refusal). Because (λ r. whole ≡ Err r) e) (sym is) h

-- what may be done with a name, told from what is known of it
looked : (macros : Macros) (at : ℕ) (name : List ℕ) (may : Bool) (text : Option (List ℕ)) → may_be_macro name ≡ may → macros name ≡ text
    → text_for macros at name ≡ looked_up may text name at
looked macros at name may text is has = ap (λ b. looked_up b (macros name) name at) is ∙ ap (λ t. looked_up may t name at) has

pub returns-then-not-may_be_macro-clause-err : goal.returns-then-not-may_be_macro-clause-err
returns-then-not-may_be_macro-clause-err c =
    let macros : Macros = by_name c.args.table.now in
    refuses c.refuse.result (refused_at c.args.at Directive) _ c.refuse.ensures
    (used_none c.args.levels macros c.args.at c.args.name.now c.args.made.now (refused_at c.args.at Directive)
    (ap (λ b. looked_up b (macros c.args.name.now) c.args.name.now c.args.at) (sym c.may_be_macro.ensures ∙ c.if-not-may_be_macro.true)))

pub returns-in_default-clause-err : goal.returns-in_default-clause-err
returns-in_default-clause-err c =
    let macros : Macros = by_name c.args.table.now in
    refuses c.refuse-in_default.result (refused_at c.args.at (why_unknown c.args.name.now)) _ (c.refuse-in_default.ensures ∙ ap (λ w. Fault (refused_at c.args.at w)) c.why_unknown.ensures)
    (used_none c.args.levels macros c.args.at c.args.name.now c.args.made.now (refused_at c.args.at (why_unknown c.args.name.now))
    (looked macros c.args.at c.args.name.now true None (sym c.may_be_macro.ensures ∙ c.if-not-may_be_macro.false)
    (ap (λ (l : Texts). by_name l c.args.name.now) (sym c.table.view_is) ∙ sym c.in_default.ensures.text)))

-- what the name's use makes is what its text makes
found : (c : goal.After-put_macro) → make_use c.args.levels (by_name c.args.table.now) c.args.at c.args.name.now c.args.made.now
    ≡ of_text c.args.levels (macros_of c.table.inside.texts.entries) c.args.at c.in-Some.found.now.text.items c.args.made.now
found c =
    let macros : Macros = macros_of c.table.inside.texts.entries in
    ap (λ (l : Texts). make_use c.args.levels (by_name l) c.args.at c.args.name.now c.args.made.now) (sym c.table.view_is)
    ∙ used_some c.args.levels macros c.args.at c.args.name.now c.in-Some.found.now.text.items c.args.made.now
    (looked macros c.args.at c.args.name.now true (Some c.in-Some.found.now.text.items) (sym c.may_be_macro.ensures ∙ c.if-not-may_be_macro.false) (sym c.in-Some.ensures.text))

pub returns-clause-ok : goal.returns-clause-ok
returns-clause-ok c = subst (λ (whole : Result Made Refusal). OnOk c.put_macro.result (whole ≡ Ok c.put_macro.new.made)) (sym (found c)) c.put_macro.ensures.ok

pub returns-clause-err : goal.returns-clause-err
returns-clause-err c = subst (λ (whole : Result Made Refusal). IfFault c.put_macro.result (λ r. whole ≡ Err r)) (sym (found c)) c.put_macro.ensures.err
