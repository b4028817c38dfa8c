use Rattle.std.proofs.Common.{◌+◌, ℕ, Bool, true, false, Option, None, List, drop, sym, ap, subst, ◌∙◌, arith}
use Rattle.std.specs.Prelude.{unwrap_or}
use Rattle.std.proofs.lemmas.List.{drop_all}
use Rattle.velab_expr.proofs.ListLemmas.{drop_at}
use Rattle.vdesign.specs.declared.action.Action.{Action}
use Rattle.vvalue.specs.Value.{Environment}
use Rattle.velab_declaration.specs.Drives.{driven_by}
use Rattle.velab_declaration.specs.DriveMarks.{Marks}
use Rattle.velab_declaration.proofs.DriveLemmas.{Seeks, seeks_first, seeks_none, seeks_on, seeks_here}
use Rattle.velab_declaration.proofs.TableLemmas.{got_behind, drop_further}
use Rattle.velab_declaration.proofs.drives.first_again.Goals as goal

pub loop-place-init : goal.loop-place-init
loop-place-init c = λ driven variables blanks are. seeks_first driven c.args.environment.now variables c.args.actions.now c.args.words.now _ are

pub loop-place-preserved : goal.loop-place-preserved
loop-place-preserved c = λ driven variables blanks are.
    let now : Environment = c.args.environment.now in
    let actions : List Action = c.args.actions.now in
    let words : List (Option ℕ) = c.args.words.now in
    let i : ℕ = c.loop-place.place in
    let x : Action = c.index-actions-place.result in
    let so_far = c.loop-place.invariant driven variables blanks are in
    subst (λ (w : List (Option ℕ)). Seeks driven now variables actions (drop (i + 1) actions) words w c.mark_driven.new.marks) (drop_further i words)
    (seeks_on driven now variables actions words (drop i actions) (drop (i + 1) actions) (drop i words) c.loop-place.marks c.mark_driven.new.marks so_far x
    (drop_at actions i x (omega (arith, c.loop-place-test.true)) c.index-actions-place.is)
    (subst (λ (b : Bool). Marks so_far.before (driven_by now x) variables b c.mark_driven.new.marks) c.if-not-mark_driven.false
    (c.mark_driven.ensures so_far.before variables blanks so_far.are)))

pub returns-then-not-mark_driven : goal.returns-then-not-mark_driven
returns-then-not-mark_driven c = λ driven variables blanks are.
    let now : Environment = c.args.environment.now in
    let actions : List Action = c.args.actions.now in
    let words : List (Option ℕ) = c.args.words.now in
    let i : ℕ = c.loop-place.place in
    let x : Action = c.index-actions-place.result in
    let so_far = c.loop-place.invariant driven variables blanks are in
    seeks_here driven now variables actions words (drop i actions) (drop (i + 1) actions) (drop i words) c.loop-place.marks c.mark_driven.new.marks so_far x
    (drop_at actions i x (omega (arith, c.loop-place-test.true)) c.index-actions-place.is)
    c.word_at.result (c.word_at.ensures ∙ ap (λ (w : Option (Option ℕ)). unwrap_or w None) (sym (got_behind i words)))
    (subst (λ (b : Bool). Marks so_far.before (driven_by now x) variables b c.mark_driven.new.marks) c.if-not-mark_driven.true
    (c.mark_driven.ensures so_far.before variables blanks so_far.are))

pub returns : goal.returns
returns c = λ driven variables blanks are.
    let actions : List Action = c.args.actions.now in
    let words : List (Option ℕ) = c.args.words.now in
    seeks_none driven c.args.environment.now variables actions words (drop c.loop-place.place actions) (drop c.loop-place.place words) c.loop-place.marks
    (c.loop-place.invariant driven variables blanks are) (drop_all c.loop-place.place actions (omega (arith, c.loop-place-test.false)))
