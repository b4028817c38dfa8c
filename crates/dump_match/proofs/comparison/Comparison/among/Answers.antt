use Rattle.std.proofs.Common.{◌≡◌, ℕ, ◌++◌, List, drop, length, take, Some, arith, sym, ap, subst, ◌∙◌}
use Rattle.std.proofs.Math.Seq.{take-append_seam}
use Rattle.basis.proofs.Lists.{place_within}
use Rattle.vcd_read.specs.declared.header.VcdVariable.{VcdVariable}
use Rattle.dump_match.specs.Scopes.{compared_name}
use Rattle.dump_match.specs.declared.comparison.Meeting.{Meeting}
use Rattle.dump_match.specs.Named.{AreMet, IsDeclared, IsFollowed, IsLastNamed, IsLike, TakesMore}
use Rattle.dump_match.proofs.CountLemmas.{at_place}
use Rattle.dump_match.proofs.ComparedLemmas.{all_compared, compared_next, found}
use Rattle.dump_match.proofs.comparison.Comparison.among.Goals as goal

pub loop-told-preserved : goal.loop-told-preserved
loop-told-preserved c =
    let wrapped = c.args.wrapped in
    let variables = c.args.variables.now in
    let pairs = c.loop-told.comparison.pairs.items in
    let told : VcdVariable = c.told-item.result in
    let place : IsDeclared c.args.declared.now told = record {
      place = c.loop-told.told-index;
      in_dump = at_place c.args.declared.now c.loop-told.told-index told c.loop-told-test.true ∙ ap (λ (t : VcdVariable). Some t) (sym c.told-item.is);
    } in
    let old : List Meeting = c.loop-told.met.items in
    let new : List Meeting = c.take.new.met in
    let takes : TakesMore wrapped variables told c.likeness_of-likeness.result c.deref_mut.result.now new pairs c.take.new.self.pairs.items =
    c.in_ok-take.ensures.takes wrapped variables c.likeness_of-likeness.ensures.like
    (subst (λ (m : List Meeting). AreMet wrapped variables m pairs) (sym c.deref_mut.ensures.value) c.loop-told.invariant.met) in
    let same : length new ≡ length old = c.in_ok-take.ensures.len ∙ ap length c.deref_mut.ensures.value in
    let back : take c.loop-told.met.len (new ++ drop (length new) old) ≡ new =
    ap (λ (n : ℕ). take n (new ++ drop (length new) old)) (omega (arith, same, c.loop-told.met.ok.0)) ∙ take-append_seam new (drop (length new) old) in
    let this : (number : ℕ) → IsLike wrapped variables told number → IsLastNamed variables number (compared_name wrapped told.name.items) →
    IsFollowed wrapped variables c.take.new.self.pairs.items number = λ number like last. (
    let name : c.compared_name.result.now ≡ like.variable.name =
    c.compared_name.ensures ∙ ap (compared_name wrapped) c.deref.ensures.value ∙ like.name in
    let there : found c.in_ok-numbers.numbers like.variable.name ≡ Some number =
    c.in_ok-numbers.ensures number like.variable like.in_files (subst (IsLastNamed variables number) like.name last) in
    let looked : c.copied-number.result ≡ Some number =
    c.copied-number.ensures ∙ c.get.ensures.value ∙ ap (found c.in_ok-numbers.numbers) name ∙ there in
    takes.compared number (c.likeness_of-likeness.ensures.same number looked like)
    (omega (arith, place_within variables number like.variable like.in_files, c.loop-told.invariant.len, ap length c.deref_mut.ensures.value))) in
    record {
      sound = c.in_ok-take.ensures.sound;
      fresh = c.in_ok-take.ensures.fresh c.loop-told.invariant.fresh;
      named = c.in_ok-take.ensures.named wrapped variables c.args.declared.now c.likeness_of-likeness.ensures.like place c.loop-told.invariant.named;
      len = ap length back ∙ same ∙ c.loop-told.invariant.len;
      met = subst (λ (m : List Meeting). AreMet wrapped variables m c.take.new.self.pairs.items) (sym back) takes.met;
      all = compared_next wrapped variables c.args.declared.now c.loop-told.told-index told pairs c.take.new.self.pairs.items place.in_dump takes.keeps
          this c.loop-told.invariant.all;
    }

pub returns-clause-all : goal.returns-clause-all
returns-clause-all c = all_compared c.args.wrapped c.args.variables.now c.args.declared.now c.loop-told.told-index c.loop-told.comparison.pairs.items
    (omega arith) c.loop-told.invariant.all
