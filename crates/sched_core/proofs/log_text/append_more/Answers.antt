use Rattle.std.proofs.Common.{◌≡◌, ◌<◌, ◌+◌, ◌++◌, ◌∙◌, ◌∷◌, [], ap, sym, take, get_or, length, append_assoc, ℕ, List}
use Rattle.std.proofs.lemmas.List.{take_more}
use Rattle.sched_core.specs.LogText.{more_text, member_text}
use Rattle.sched_core.proofs.ReadingLemmas.{more_text-append}
use Rattle.sched_core.proofs.log_text.append_more.Goals as goal

-- one more member behind its comma
step : (start text between now : List ℕ) (more : List (ℕ × ℕ)) (i : ℕ) → i < length more → text ≡ start ++ more_text (take i more) → between ≡ text ++ 44 ∷ [] → now ≡ between ++ member_text (get_or more i (0, 0)) → now ≡ start ++ more_text (take (i + 1) more)
step start text between now more i h e f g =
    g ∙ ap (λ t. t ++ member_text (get_or more i (0, 0))) (f ∙ ap (λ t. t ++ 44 ∷ []) e)
    ∙ simp append_assoc (ap (λ t. start ++ t) (sym (ap more_text (take_more more i (0, 0) h) ∙ more_text-append (take i more) (get_or more i (0, 0)))))

pub loop-member-preserved : goal.loop-member-preserved
loop-member-preserved c =
    step c.args.text.now.items c.loop-member.text.items c.push.new.self.items c.append_member.new.text.items c.args.more.now c.loop-member.member-index
    c.loop-member-test.true c.loop-member.invariant c.in_ok-push.ensures.items c.in_ok-append_member.ensures
