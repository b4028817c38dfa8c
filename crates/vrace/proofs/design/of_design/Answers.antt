use Rattle.vrace.proofs.DesignLemmas.{breaks}
use Rattle.vrace.proofs.design.of_design.Goals as goal

pub returns : goal.returns
returns c = λ source tree top cut is reason none.
    breaks source c.args.tokens.now cut tree top c.args.fault c.at_token.result is reason none c.at_token.ensures
