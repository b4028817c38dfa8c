use Rattle.std.proofs.Common.{◌≡◌, true, map, arith}
use Rattle.vast.specs.NumberedModules.{by_order}
use Rattle.vast.specs.NumberedTrees.{tree_of}
use Rattle.vmodules.specs.Names.{is_declared}
use Rattle.vast.specs.NumberedWords.{word_of}
use Rattle.vmodules.specs.Connected.{by_places, misfit}
use Rattle.vmodules.specs.Inner.{entry_names, IsTold}
use Rattle.vmodules.proofs.ConnectLemmas.{not_before, order_step, order_done, names_step}
use Rattle.vmodules.proofs.ListLemmas.{handed_on}
use Rattle.vmodules.proofs.connect.by_order.Goals as goal

pub returns-in_err-add-clause-err : goal.returns-in_err-add-clause-err
returns-in_err-add-clause-err c words =
    handed_on (λ f. (is_declared (entry_names c.loop-place.connected) c.name.result.now ≡ true) × (f.at ≡ c.args.whose.number))
    (λ f. IsTold (misfit (word_of words c.args.whose) c.args.names.now (by_order (map (tree_of words) c.args.values.now))) f.at)
    c.from_residual.result c.in_err-add.field-0.0 c.from_residual.ensures.1
    (λ f there. absurd (not_before c.args.names.now (entry_names c.loop-place.connected) c.loop-place.place c.name.result.now c.len.ensures.unique c.name.ensures c.loop-place.invariant.names there.0))
    c.in_err-add.ensures.err

pub loop-place-preserved : goal.loop-place-preserved
loop-place-preserved c =
    record {
      connected = λ words. order_step words c.args.names.now c.args.values.now c.loop-place.place c.name.result.now _ c.loop-place.connected c.add.new.self
          (by_places c.args.names.now (map (tree_of words) c.args.values.now)) c.name.ensures (omega (arith, c.loop-place-test.true)) c.index-values-place.is c.in_ok-add.ensures.added (c.loop-place.invariant.connected words);
      names = names_step c.args.names.now c.loop-place.place c.name.result.now _ c.loop-place.connected c.add.new.self c.name.ensures c.in_ok-add.ensures.added c.loop-place.invariant.names;
      few = c.loop-place.invariant.few;
    }

pub returns-clause-ok : goal.returns-clause-ok
returns-clause-ok c words =
    order_done words c.args.names.now c.args.values.now c.loop-place.place c.loop-place.connected (by_places c.args.names.now (map (tree_of words) c.args.values.now))
    (omega (arith, c.loop-place-test.false)) (c.loop-place.invariant.connected words)
