use Rattle.std.proofs.Common.{◌≡◌, ℕ, List, arith, ◌∙◌, ap, subst, ◌+◌, drop, get_or}
use Rattle.std.specs.List.{prefix_len}
use Rattle.vlex.specs.declared.bytes.Set.TheVariants.{Blanks}
use Rattle.vlex.specs.Bytes.{is_in}
use Rattle.vlex.specs.Forms.{are_digits, skip_blanks}
use Rattle.vlex.specs.Inner.{IsLongest, Never}
use Rattle.vlex.proofs.Numbers.{base_none, base_some}
use Rattle.vlex.proofs.number.base_len.Goals as goal

pub returns-in_default : goal.returns-in_default
returns-in_default c =
    let behind : c.split_at-2.result.1.now ≡ skip_blanks (drop 1 c.args.bytes.now) =
    c.split_at-2.ensures.back ∙ ap (λ n. drop n c.split_at.result.1.now) c.run_len-blanks.ensures.value ∙ ap skip_blanks c.split_at.ensures.back in
    base_none c.args.bytes.now (omega arith) (subst (Never (are_digits (get_or c.args.bytes.now 0 0))) behind c.in_default.ensures)

pub returns : goal.returns
returns c =
    let behind : c.split_at-2.result.1.now ≡ skip_blanks (drop 1 c.args.bytes.now) =
    c.split_at-2.ensures.back ∙ ap (λ n. drop n c.split_at.result.1.now) c.run_len-blanks.ensures.value ∙ ap skip_blanks c.split_at.ensures.back in
    let run : c.run_len-blanks.result ≡ prefix_len (is_in Blanks) (drop 1 c.args.bytes.now) = c.run_len-blanks.ensures.value ∙ ap (prefix_len (is_in Blanks)) c.split_at.ensures.back in
    let Digits : List ℕ → Type 0 = λ l. IsLongest (are_digits (get_or c.args.bytes.now 0 0)) l c.in-Some.len in
    base_some c.args.bytes.now c.in-Some.len (1 + c.run_len-blanks.result + c.in-Some.len) (omega arith) (ap (λ n. 1 + n + c.in-Some.len) run) (subst Digits behind c.in-Some.ensures)
