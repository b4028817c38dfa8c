use Rattle.std.proofs.Common.{◌≡◌, ◌<◌, ◌+◌, ◌++◌, ◌∷◌, [], ℕ, List, false, true, length, drop, get_or, ap, sym, ◌∙◌, arith}
use Rattle.vsrc.specs.Macros.{is_joint, without_backslashes}
use Rattle.vsrc.proofs.MacroLines.{line_stays, line_goes}
use Rattle.vsrc.proofs.macro_text.without_backslashes.Goals as goal
use Rattle.vsrc.proofs.macro_text.without_backslashes.Goals.{then-not-is_joint+in_ok-push, else-not-is_joint}

pub loop-at-preserved : goal.loop-at-preserved
loop-at-preserved c =
    let text : List ℕ = c.args.text.now in
    let rest : List ℕ = c.split_at.result.1.now in
    let some : 0 < length rest = omega arith in
    record {
      within = omega arith;
      whole = elim c.if-not-is_joint.branch [
        | then-not-is_joint+in_ok-push w ↦
            let put : c.if-not-is_joint.lines.items ≡ c.loop-at.lines.items ++ get_or rest 0 0 ∷ [] = ap (λ v. v.items) w.lines-is ∙ w.in_ok-push.ensures.items in
            let plain : is_joint rest ≡ false = sym c.is_joint.ensures ∙ w.if-not-is_joint.true in
            rw put (line_stays c.loop-at.lines.items text rest c.loop-at.at c.split_at.ensures.back some plain c.loop-at.invariant.whole)
        | else-not-is_joint w ↦
            let joint : is_joint rest ≡ true = sym c.is_joint.ensures ∙ w.if-not-is_joint.false in
            ap (λ v. v.items ++ without_backslashes (drop (c.loop-at.at + 1) text)) w.lines-is ∙ line_goes c.loop-at.lines.items text rest c.loop-at.at c.split_at.ensures.back joint c.loop-at.invariant.whole
      ];
    }
