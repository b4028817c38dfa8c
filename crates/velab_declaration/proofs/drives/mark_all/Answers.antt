use Rattle.std.proofs.Common.{◌+◌, ◌++◌, Bool, true, false, List, drop, ap, subst, arith}
use Rattle.std.proofs.lemmas.List.{drop_all}
use Rattle.velab_expr.proofs.ListLemmas.{drop_at}
use Rattle.vdesign.specs.declared.action.Target.{Target}
use Rattle.vvalue.specs.Value.{Environment}
use Rattle.velab_declaration.specs.Drives.{places_of, places_of_all}
use Rattle.velab_declaration.specs.DriveMarks.{Marks}
use Rattle.velab_declaration.proofs.DriveLemmas.{going_starts, going_ends, going_on, going_stops}
use Rattle.velab_declaration.proofs.drives.mark_all.Goals as goal

pub loop-target-init : goal.loop-target-init
loop-target-init c = λ driven variables blanks are. going_starts driven _ variables _ are

pub loop-target-preserved : goal.loop-target-preserved
loop-target-preserved c = λ driven variables blanks are.
    let now : Environment = c.args.environment.now in
    let targets : List Target = c.args.targets.now in
    let so_far = c.loop-target.invariant driven variables blanks are in
    going_on driven (places_of_all now targets) (places_of_all now (drop c.loop-target.target-index targets)) variables c.loop-target.marks so_far
    (places_of now c.target-item.result) (places_of_all now (drop (c.loop-target.target-index + 1) targets)) c.mark.new.marks
    (ap (places_of_all now) (drop_at targets c.loop-target.target-index c.target-item.result c.loop-target-test.true c.target-item.is))
    (subst (λ (b : Bool). Marks (driven ++ so_far.done) (places_of now c.target-item.result) variables b c.mark.new.marks) c.if-not-mark.false
    (c.mark.ensures (driven ++ so_far.done) variables blanks so_far.are))

pub returns-then-not-mark : goal.returns-then-not-mark
returns-then-not-mark c = λ driven variables blanks are.
    let now : Environment = c.args.environment.now in
    let targets : List Target = c.args.targets.now in
    let so_far = c.loop-target.invariant driven variables blanks are in
    going_stops driven (places_of_all now targets) (places_of_all now (drop c.loop-target.target-index targets)) variables c.loop-target.marks so_far
    (places_of now c.target-item.result) (places_of_all now (drop (c.loop-target.target-index + 1) targets)) c.mark.new.marks
    (ap (places_of_all now) (drop_at targets c.loop-target.target-index c.target-item.result c.loop-target-test.true c.target-item.is))
    (subst (λ (b : Bool). Marks (driven ++ so_far.done) (places_of now c.target-item.result) variables b c.mark.new.marks) c.if-not-mark.true
    (c.mark.ensures (driven ++ so_far.done) variables blanks so_far.are))

pub returns : goal.returns
returns c = λ driven variables blanks are.
    let now : Environment = c.args.environment.now in
    let targets : List Target = c.args.targets.now in
    going_ends driven (places_of_all now targets) (places_of_all now (drop c.loop-target.target-index targets)) variables c.loop-target.marks
    (c.loop-target.invariant driven variables blanks are)
    (ap (places_of_all now) (drop_all c.loop-target.target-index targets (omega (arith, c.loop-target-test.false))))
