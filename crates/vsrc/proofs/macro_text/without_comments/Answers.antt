use Rattle.std.proofs.Common.{◌≡◌, ◌+◌, ◌++◌, ℕ, List, false, true, take, ap, sym, ◌∙◌, subst, arith}
use Rattle.vsrc.specs.Macros.{begins_comment}
use Rattle.vsrc.proofs.MacroLines.{Cut, cut_begins, cut_ends, cut_stays, cut_goes}
use Rattle.vsrc.proofs.macro_text.without_comments.Goals as goal
use Rattle.vsrc.proofs.macro_text.without_comments.Goals.{then-not-begins_comment+in_ok-extend_from_slice, else-not-begins_comment}

pub loop-at-init : goal.loop-at-init
loop-at-init c = record { within = omega arith; cut = cut_begins c.new-left.result.items c.args.text.now c.new-left.ensures.items }

pub loop-at-preserved : goal.loop-at-preserved
loop-at-preserved c =
    let text : List ℕ = c.args.text.now in
    let rest : List ℕ = c.split_at.result.1.now in
    let at : ℕ = c.loop-at.at in
    let len : ℕ = c.stretch_len-len.result in
    record {
      within = omega arith;
      cut = elim c.if-not-begins_comment.branch [
        | then-not-begins_comment+in_ok-extend_from_slice w ↦
            let put : c.if-not-begins_comment.left.items ≡ c.loop-at.left.items ++ take len rest =
            ap (λ v. v.items) w.left-is ∙ w.in_ok-extend_from_slice.ensures.items ∙ ap (λ l. c.loop-at.left.items ++ l) w.split_at-then-not-begins_comment.ensures.front in
            let plain : begins_comment rest ≡ false = sym c.begins_comment.ensures ∙ w.if-not-begins_comment.true in
            cut_stays c.loop-at.left.items c.if-not-begins_comment.left.items text rest at len c.split_at.ensures.back c.loop-at-test.true c.stretch_len-len.ensures.some c.stretch_len-len.ensures.value plain put c.loop-at.invariant.cut
        | else-not-begins_comment w ↦
            let comment : begins_comment rest ≡ true = sym c.begins_comment.ensures ∙ w.if-not-begins_comment.false in
            let same : c.loop-at.left.items ≡ c.if-not-begins_comment.left.items = ap (λ v. v.items) (sym w.left-is) in
            subst (λ (l : List ℕ). Cut l text (at + len)) same
            (cut_goes c.loop-at.left.items text rest at len c.split_at.ensures.back c.loop-at-test.true c.stretch_len-len.ensures.some c.stretch_len-len.ensures.value comment c.loop-at.invariant.cut)
      ];
    }

pub returns : goal.returns
returns c = cut_ends c.loop-at.left.items c.args.text.now c.loop-at.at c.loop-at-test.false c.loop-at.invariant.cut
