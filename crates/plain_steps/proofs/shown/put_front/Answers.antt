use Rattle.std.proofs.Common.{◌≡◌, ◌++◌, Bool, true, if◌then◌else◌, [], rules, sym, ap, subst, ◌∙◌, append-nil}
use Rattle.std.proofs.lemmas.Result.{on_err_weaker}
use Rattle.vmodel.specs.Step.{shown_items, strobe_items, HasFront}
use Rattle.vmodel.specs.Touched.{is_slot_end}
use Rattle.plain_steps.proofs.ShownLemmas.{behind_first}
use Rattle.plain_steps.proofs.shown.put_front.Goals as goal
use Rattle.plain_steps.proofs.shown.put_front.Goals.{in-Some+in_ok-put_shown, in_default}

pub returns-clause-front : goal.returns-clause-front
returns-clause-front c =
    let old = c.args.items.now.items in
    let shown = shown_items c.args.design.now c.args.state.now in
    let lines = strobe_items c.args.design.now c.args.state.now c.args.monitors.now in
    let due : is_slot_end c.args.state.now ≡ true = search rules in
    on_err_weaker c.put_strobes.result
    (λ front.
    subst (λ (b : Bool). HasFront old (shown c.args.effect.now.shown ++ (if b then lines else [])) c.put_strobes.new.items.items) (sym due)
    (behind_first old (shown c.args.effect.now.shown) lines c.match-shown.items.items c.put_strobes.new.items.items
    (elim c.match-shown.branch [
      | in-Some+in_ok-put_shown w ↦ ap (λ v. v.items) w.items-is ∙ w.in_ok-put_shown.ensures.ok ∙ ap (λ one. old ++ shown one) (sym w.in-Some.is ∙ c.shown.ensures)
      | in_default w ↦ ap (λ v. v.items) w.items-is ∙ sym (append-nil old) ∙ ap (λ one. old ++ shown one) (sym w.in_default.is ∙ c.shown.ensures)
    ])
    front))
    c.put_strobes.ensures.front
