use Rattle.std.proofs.Common.{◌++◌, refl}
use Rattle.vexpr_parse.specs.Answers.{ahead, leaves_ahead, leaf_here}
use Rattle.vexpr_parse.proofs.Kept.{kept_more}
use Rattle.vparse.proofs.ListTurns.{one_listed}
use Rattle.vparse.proofs.lists.list_behind.Goals as goal

pub list-preserved : goal.list-preserved
list-preserved g c =
    let left = ahead c.args.tokens.now in
    let kept = leaves_ahead c.args.tokens.now in
    record {
      reached =
          one_listed c.args.tokens.now _ c.args.first (left c.args.cursor.now) (left c.list.cursor) (left c.pass.new.self)
          (left c.read.new.arg2) c.list.list.items c.push-in-list.new.self.items c.in_ok-one.one _ _ c.begins.result
          c.list.invariant.reached c.begins.ensures.front c.list-test.true c.pass.ensures.left c.in_ok-push-2.ensures.items refl refl
          c.in_ok-one.ensures;
      kept = λ leaves keeps.
          kept_more leaves c.list.list.items c.push-in-list.new.self.items c.in_ok-one.one (leaves c.args.first ++ kept c.args.cursor.now)
          (kept c.list.cursor) (leaf_here c.args.tokens.now c.list.cursor) (kept c.pass.new.self) (kept c.read.new.arg2)
          c.in_ok-push-2.ensures.items (c.begins.ensures.kept c.list-test.true refl) c.pass.ensures.kept
          (keeps _ _ _ c.in_ok-one.ensures) (c.list.invariant.kept leaves keeps);
    }
