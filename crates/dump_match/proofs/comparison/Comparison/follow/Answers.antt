use Rattle.std.proofs.Common.{List, ℕ, Option, sym, subst}
use Rattle.std.specs.Option.{IfSome}
use Rattle.vcd_slots.specs.Following.{Follows}
use Rattle.dump_match.specs.declared.comparison.Pair.{Pair}
use Rattle.dump_match.specs.Named.{AreNamedSo}
use Rattle.dump_match.proofs.NamedLemmas.{named_more}
use Rattle.dump_match.proofs.comparison.Comparison.follow.Goals as goal

pub returns-in_ok-push-in-Some-clause-named : goal.returns-in_ok-push-in-Some-clause-named
returns-in_ok-push-in-Some-clause-named c wrapped variables declared like in_dump are =
    let follows = subst (λ (place : Option ℕ). IfSome place (λ k. Follows c.args.columns.now c.watch.new.self c.args.told.now k)) c.in-Some.is c.in_ok-watch.ensures.some in
    subst (λ (pairs : List Pair). AreNamedSo wrapped variables declared c.watch.new.self.watched.items pairs) (sym c.in_ok-push-in-Some.ensures.items)
    (named_more wrapped variables declared c.args.columns.now c.watch.new.self c.args.told.now c.args.variable c.in-Some.column c.args.self.now.pairs.items like in_dump follows are)
