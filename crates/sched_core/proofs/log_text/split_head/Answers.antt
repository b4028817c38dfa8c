use Rattle.sched_core.proofs.HeadLemmas.{named_plain, named_process, named_statement, named_process_holding, named_statement_holding}
use Rattle.sched_core.proofs.log_text.split_head.Goals as goal

pub returns-in-Some-clause-named : goal.returns-in-Some-clause-named
returns-in-Some-clause-named c = λ head log h f. named_process c.args.text.now c.in-Some.rest.now head log h c.in-Some.ensures.some f

pub returns-in-Some-after_prefix-clause-named : goal.returns-in-Some-after_prefix-clause-named
returns-in-Some-after_prefix-clause-named c = λ head log h f. named_statement c.args.text.now c.in-Some-after_prefix.rest.now head log h c.in-Some-after_prefix.ensures.some f

pub returns-in-Some-after_prefix-2-clause-named : goal.returns-in-Some-after_prefix-2-clause-named
returns-in-Some-after_prefix-2-clause-named c = λ head log h f. named_process_holding c.args.text.now c.in-Some-after_prefix-2.rest.now head log h c.in-Some-after_prefix-2.ensures.some f

pub returns-in-Some-after_prefix-3-clause-named : goal.returns-in-Some-after_prefix-3-clause-named
returns-in-Some-after_prefix-3-clause-named c = λ head log h f. named_statement_holding c.args.text.now c.in-Some-after_prefix-3.rest.now head log h c.in-Some-after_prefix-3.ensures.some f

pub returns-clause-named : goal.returns-clause-named
returns-clause-named c = λ head log h f. named_plain c.args.text.now head log c.in_default.ensures.none c.in_default-after_prefix.ensures.none c.in_default-after_prefix-2.ensures.none c.in_default-after_prefix-3.ensures.none f
