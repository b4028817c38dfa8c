use Rattle.std.proofs.Common.{subst}
use Rattle.basis.specs.Reasons.{Because}
use Rattle.vlex.specs.Lexed.{HasNoTokens, IsTokenReason}
use Rattle.vrace.proofs.design.tokens_of.Goals as goal

pub returns-in-Err-Fault-clause-err : goal.returns-in-Err-Fault-clause-err
returns-in-Err-Fault-clause-err c = λ top.
    c.of_tokens.ensures c.args.text.now top
    (subst (Because (λ _. HasNoTokens c.args.text.now.text)) c.in-Err-Fault.field-0-is c.in-Err-Fault.ensures.none)
    (subst (Because (IsTokenReason c.args.text.now)) c.in-Err-Fault.field-0-is c.in-Err-Fault.ensures.reason)
