use Rattle.std.proofs.Common.{[], refl, sym, ap, ◌∙◌}
use Rattle.vdesign.specs.declared.action.Action.TheVariants as acts
use Rattle.vmodel.specs.declared.frame.Frame.TheVariants.{Executing}
use Rattle.vmodel.specs.Operands.{operand as operand_at}
use Rattle.vflat.specs.declared.row.Row.{Row}
use Rattle.vflat.specs.declared.row.Form.TheVariants.{Assign, Drive, Post}
use Rattle.vflat.proofs.RowLemmas.{row_assigns, row_posts, row_drives, row_like, unwrapped}
use Rattle.vflat.proofs.row.row_of_assignment.Goals as goal

pub returns-in_ok-part-in-Assign : goal.returns-in_ok-part-in-Assign
returns-in_ok-part-in-Assign c = λ row told place.
    let now = c.args.environment.now in
    let part = c.in_ok-part-in-Assign.part in
    let same = sym (unwrapped c.alone.result row told) in
    row_like (Executing place) now (acts.Assign c.in-Assign.targets c.in-Assign.value) c.args.action.now (Assign part) row.form [] row.next.now
    (row_assigns now c.in-Assign.targets c.in-Assign.value c.args.operand part (c.requires ∙ ap (operand_at now) c.in-Assign.is) (c.in_ok-part-in-Assign.ensures part refl) place)
    c.in-Assign.is (ap (λ (r : Row). r.form) same ∙ c.alone.ensures.form) (ap (λ (r : Row). r.next.now) same ∙ c.alone.ensures.next)

pub returns-in_ok-part-in-Nonblocking : goal.returns-in_ok-part-in-Nonblocking
returns-in_ok-part-in-Nonblocking c = λ row told place.
    let now = c.args.environment.now in
    let part = c.in_ok-part-in-Nonblocking.part in
    let same = sym (unwrapped c.alone-in-Nonblocking.result row told) in
    row_like (Executing place) now (acts.Nonblocking c.in-Nonblocking.targets c.in-Nonblocking.value) c.args.action.now (Post part) row.form [] row.next.now
    (row_posts now c.in-Nonblocking.targets c.in-Nonblocking.value c.args.operand part (c.requires ∙ ap (operand_at now) c.in-Nonblocking.is) (c.in_ok-part-in-Nonblocking.ensures part refl) place)
    c.in-Nonblocking.is (ap (λ (r : Row). r.form) same ∙ c.alone-in-Nonblocking.ensures.form) (ap (λ (r : Row). r.next.now) same ∙ c.alone-in-Nonblocking.ensures.next)

pub returns-in_ok-part-in-ContinuousAssign : goal.returns-in_ok-part-in-ContinuousAssign
returns-in_ok-part-in-ContinuousAssign c = λ row told place.
    let now = c.args.environment.now in
    let part = c.in_ok-part-in-ContinuousAssign.part in
    let drive = c.in-ContinuousAssign in
    let same = sym (unwrapped c.alone-in-ContinuousAssign.result row told) in
    row_like (Executing place) now (acts.ContinuousAssign drive.targets drive.value drive.terms) c.args.action.now (Drive part) row.form [] row.next.now
    (row_drives now drive.targets drive.value drive.terms c.args.operand part (c.requires ∙ ap (operand_at now) drive.is) (c.in_ok-part-in-ContinuousAssign.ensures part refl) place)
    drive.is (ap (λ (r : Row). r.form) same ∙ c.alone-in-ContinuousAssign.ensures.form) (ap (λ (r : Row). r.next.now) same ∙ c.alone-in-ContinuousAssign.ensures.next)
