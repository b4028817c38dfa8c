use Rattle.std.proofs.Common.{List, ◌∷◌, ◌++◌, [], None, arith, sym, subst}
use Rattle.std.specs.Prelude.{codes}
use Rattle.vcd_read.specs.Words.{Text}
use Rattle.vcd_read.specs.Bytes.{left}
use Rattle.vcd_read.specs.Declarations.{Declares, end_word}
use Rattle.vcd_read.specs.Declaring.{all_seen}
use Rattle.vcd_read.specs.declared.header.Header.{Header}
use Rattle.vcd_read.proofs.WordLemmas.{more_come, none_come}
use Rattle.vcd_read.proofs.HeaderLemmas.{lead_nothing, lead_then, all_declared}
use Rattle.vcd_read.proofs.header.Header.read.Goals as goal

pub declarations-init : goal.declarations-init
declarations-init g c = record {
  ready = c.requires;
  budget = omega arith;
  prefix = c.new-header.ensures.prefix;
  outer = c.new-header.ensures.outer;
  unit = c.new-header.ensures.unit;
  variables = c.new-header.ensures.variables;
  come = ([], none_come (left g.R.Read.remaining c.args.words.now.bytes), lead_nothing c.new-header.result);
}

pub returns-then-not-branch-clause-declared : goal.returns-then-not-branch-clause-declared
returns-then-not-branch-clause-declared g c =
    let (list, come, lead) = c.declarations.invariant.come in
    let (ending, same) = c.in_ok-go_on.ensures.last c.if-not-branch.true in
    let first = left g.R.Read.remaining c.args.words.now.bytes in
    let old = left g.R.Read.remaining c.declarations.words.bytes in
    let new = left g.R.Read.remaining c.go_on.new.words.bytes in
    let last : List Text = codes "$enddefinitions" ∷ end_word ∷ [] in (
      list ++ last,
      more_come list last first old new come ending,
      subst (λ (header : Header). Declares None [] [] (list ++ last) header.unit (all_seen header.variables.items)) (sym same)
          (all_declared list c.new-header.result c.declarations.header c.declarations.invariant.prefix c.declarations.invariant.outer c.declarations.invariant.unit c.declarations.invariant.variables lead),
    )

pub declarations-preserved : goal.declarations-preserved
declarations-preserved g c =
    let (list, come, lead) = c.declarations.invariant.come in
    let (more, coming, leading) = c.in_ok-go_on.ensures.more c.if-not-branch.false in
    let first = left g.R.Read.remaining c.args.words.now.bytes in
    let old = left g.R.Read.remaining c.declarations.words.bytes in
    let new = left g.R.Read.remaining c.go_on.new.words.bytes in
    record {
      ready = c.go_on.ensures.ready;
      budget = omega (arith, c.declarations.invariant.budget, c.in_ok-go_on.ensures.budget);
      prefix = c.declarations.invariant.prefix;
      outer = c.declarations.invariant.outer;
      unit = c.declarations.invariant.unit;
      variables = c.declarations.invariant.variables;
      come = (
        list ++ more,
        more_come list more first old new come coming,
        lead_then list more c.new-header.result c.declarations.header c.go_on.new.self lead leading,
      );
    }
