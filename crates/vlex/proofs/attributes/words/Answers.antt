use Rattle.std.proofs.Common.{◌≡◌, ◌<◌, ◌+◌, ◌++◌, ◌∷◌, false, nat_eq, List, [], ℕ, length, refl, sym, ◌∙◌, subst, arith}
use Rattle.std.proofs.lemmas.Bool.{ne_eqb}
use Rattle.std.proofs.lemmas.List.{length-map}
use Rattle.std.proofs.Math.ListN.{drop_of_length-le}
use Rattle.vlex.specs.declared.list.Span.{Span}
use Rattle.vlex.specs.Tokenized.{piece_at}
use Rattle.vlex.proofs.Instances.{Leaves, leaves_all, leaves_none, leaves_word, leaves_instance}
use Rattle.vlex.proofs.attributes.words.Goals as goal

pub loop-at-init : goal.loop-at-init
loop-at-init c = record {
  within = omega arith;
  leaves = leaves_all c.args.tokens.now.source.text c.args.tokens.now.spans c.new-spans.result.items [] [] c.new-spans.ensures.items refl refl;
}

pub loop-at-preserved-then-len-eq0 : goal.loop-at-preserved-then-len-eq0
loop-at-preserved-then-len-eq0 c =
    let text : List ℕ = c.args.tokens.now.source.text in
    let all : List Span = c.args.tokens.now.spans in
    let spans : List Span = c.loop-at.spans.items in
    let at : ℕ = c.loop-at.at in
    let within : at < length all = omega (arith, c.loop-at-test.true, c.len.ensures.value, length-map all (piece_at text)) in
    let pushed : c.push.new.self.items ≡ spans ++ c.span.result ∷ [] = c.in_ok-push.ensures.items in
    record {
      within = omega (arith, c.loop-at-test.true, c.len.ensures.value);
      leaves = subst (λ (s : List Span). Leaves text all s c.loop-at.last.now c.text-last.result.now (at + 1)) (sym pushed)
          (leaves_word text all spans c.loop-at.earlier.now c.loop-at.last.now at within c.span.result c.text-last.result.now c.span.ensures c.text-last.ensures
          (sym c.if-len-eq0.true ∙ c.instance_len-len.ensures.value) c.loop-at.invariant.leaves);
    }

pub loop-at-preserved : goal.loop-at-preserved
loop-at-preserved c =
    let text : List ℕ = c.args.tokens.now.source.text in
    let all : List Span = c.args.tokens.now.spans in
    let len : ℕ = c.instance_len-len.result in
    let within : c.loop-at.at < length all = omega (arith, c.loop-at-test.true, c.len.ensures.value, length-map all (piece_at text)) in
    let some : 0 < len = omega (arith, c.if-len-eq0.false) in
    let test : nat_eq len 0 ≡ false = ne_eqb len 0 c.if-len-eq0.false in
    record {
      within = c.instance_len-len.ensures.within;
      leaves = leaves_instance text all c.loop-at.spans.items c.loop-at.earlier.now c.loop-at.last.now c.loop-at.at within len (42 ∷ []) (41 ∷ []) refl refl
          c.instance_len-len.ensures.value test some c.loop-at.invariant.leaves;
    }

pub returns : goal.returns
returns c =
    let all : List Span = c.args.tokens.now.spans in
    leaves_none c.args.tokens.now.source.text all c.loop-at.spans.items c.loop-at.earlier.now c.loop-at.last.now c.loop-at.at
    (drop_of_length-le all (omega (arith, c.loop-at-test.false, c.len.ensures.value, length-map all (piece_at c.args.tokens.now.source.text)))) c.loop-at.invariant.leaves
