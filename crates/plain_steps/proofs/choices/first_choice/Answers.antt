use Rattle.std.proofs.Common.{◌≡◌, ◌==◌, true, false, length, not, None, Some, sym, ap, ◌∙◌}
use Rattle.std.specs.Prelude.{slice_get}
use Rattle.vmodel.specs.Queue.{Queue}
use Rattle.plain_steps.proofs.ChoiceLemmas.{first_active, first_written, first_later, first_none}
use Rattle.plain_steps.proofs.choices.first_choice.Goals as goal

pub returns-in-Some-first-clause-exact : goal.returns-in-Some-first-clause-exact
returns-in-Some-first-clause-exact c =
    let q = c.args.queue.now in
    let none : q.last ≡ None = sym (ap (λ (x : Queue). x.last) c.queue.view_is) ∙ c.in_default.is in
    let is : slice_get q.active 0 ≡ Some c.in-Some-first.process =
    sym (ap (λ (x : Queue). slice_get x.active 0) c.queue.view_is) ∙ sym c.first.ensures.exact ∙ c.in-Some-first.is in
    sym (first_active q c.in-Some-first.process none is)

pub returns-then-has_update-clause-exact : goal.returns-then-has_update-clause-exact
returns-then-has_update-clause-exact c =
    let q = c.args.queue.now in
    let none : q.last ≡ None = sym (ap (λ (x : Queue). x.last) c.queue.view_is) ∙ c.in_default.is in
    let idle : slice_get q.active 0 ≡ None = sym (ap (λ (x : Queue). slice_get x.active 0) c.queue.view_is) ∙ sym c.first.ensures.exact ∙ c.in_default-first.is in
    let is : (length q.activated == 0) ≡ false = c.has_update.ensures ∙ ap not c.if-has_update.true in
    sym (first_written q none idle is)

pub returns-else-has_future-clause-exact : goal.returns-else-has_future-clause-exact
returns-else-has_future-clause-exact c =
    let q = c.args.queue.now in
    let none : q.last ≡ None = sym (ap (λ (x : Queue). x.last) c.queue.view_is) ∙ c.in_default.is in
    let idle : slice_get q.active 0 ≡ None = sym (ap (λ (x : Queue). slice_get x.active 0) c.queue.view_is) ∙ sym c.first.ensures.exact ∙ c.in_default-first.is in
    let no_update : (length q.activated == 0) ≡ true = c.has_update.ensures ∙ ap not c.if-has_update.false in
    let is : (length q.future == 0) ≡ true = c.has_future.ensures ∙ ap not c.if-has_future.false in
    sym (first_none q none idle no_update is)

pub returns-then-has_future-clause-exact : goal.returns-then-has_future-clause-exact
returns-then-has_future-clause-exact c =
    let q = c.args.queue.now in
    let none : q.last ≡ None = sym (ap (λ (x : Queue). x.last) c.queue.view_is) ∙ c.in_default.is in
    let idle : slice_get q.active 0 ≡ None = sym (ap (λ (x : Queue). slice_get x.active 0) c.queue.view_is) ∙ sym c.first.ensures.exact ∙ c.in_default-first.is in
    let no_update : (length q.activated == 0) ≡ true = c.has_update.ensures ∙ ap not c.if-has_update.false in
    let is : (length q.future == 0) ≡ false = c.has_future.ensures ∙ ap not c.if-has_future.true in
    sym (first_later q none idle no_update is)
