use Rattle.std.proofs.Common.{length}
use Rattle.vexpr_parse.specs.Answers.{ahead}
use Rattle.vparse.specs.ModuleGives.{IsReached, KeepsList}
use Rattle.vparse.proofs.lists.list_behind.Given as goal

-- the first one and those that were read behind it stand in the list, which keeps the tokens that were passed
abbrev pub invariant-list : goal.invariant-list
invariant-list g l = record {
  reached :
      IsReached l.tokens (λ old result new. g.F.Fn.post l.fn.read (old, tt) (result, (new, tt))) l.fn.first (ahead l.tokens l.fn.cursor)
      (ahead l.tokens l.cursor) l.list.items;
  kept :
      KeepsList l.tokens (λ old result new. g.F.Fn.post l.fn.read (old, tt) (result, (new, tt))) l.fn.first l.fn.cursor l.cursor l.list.items;
}

abbrev pub decreases-list : goal.decreases-list
decreases-list g l = length (ahead l.tokens l.cursor)
