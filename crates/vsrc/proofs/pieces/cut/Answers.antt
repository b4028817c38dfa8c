use Rattle.std.proofs.Common.{[], refl, subst, arith}
use Rattle.std.proofs.Math.ListN.{drop_of_length-le}
use Rattle.vsrc.specs.Pieces.{AreUses, names_of}
use Rattle.vsrc.proofs.Cutting.{cut_next, keeps_all, keeps_on}
use Rattle.vsrc.proofs.pieces.cut.Goals as goal

pub loop-from-init : goal.loop-from-init
loop-from-init c = record {
  within = omega arith;
  keeps = keeps_all c.args.texts.now.entries c.args.texts.now.entries refl;
  are = ([], (refl, c.new-uses.ensures.items));
}

pub loop-from-preserved : goal.loop-from-preserved
loop-from-preserved c = record {
  within = omega (arith, c.in_ok-piece.ensures.piece.within, c.split_at.ensures.back_len);
  keeps = keeps_on c.loop-from.invariant.keeps c.piece_of.ensures.keeps;
  are = cut_next c.loop-from.texts.entries c.piece_of.new.texts.entries c.args.text.now c.split_at.result.1.now c.loop-from.from c.loop-from.uses.items c.add.new.uses.items c.in_ok-piece.piece
      c.split_at.ensures.back c.piece_of.ensures.keeps c.in_ok-piece.ensures.piece c.in_ok-add.ensures c.loop-from.invariant.are;
}

pub returns-clause-cut : goal.returns-clause-cut
returns-clause-cut c =
    subst (AreUses (names_of c.loop-from.texts.entries) c.args.text.now c.loop-from.uses.items) (drop_of_length-le c.args.text.now c.loop-from-test.false) c.loop-from.invariant.are
