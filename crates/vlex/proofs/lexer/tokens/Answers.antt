use Rattle.std.proofs.Common.{List, ℕ, length, map, sym, ◌∙◌, ap, subst, arith}
use Rattle.vsrc.specs.Source.{Source}
use Rattle.vlex.specs.declared.list.Span.{Span}
use Rattle.vlex.specs.Lexed.{Piece, words_by}
use Rattle.vlex.specs.Tokenized.{Tokenized, AreWordSpans, piece_at, pieces_of}
use Rattle.vlex.specs.Inner.{AreKept, HaveNone}
use Rattle.vlex.proofs.Cuts.{all_within, one_lexed}
use Rattle.vlex.proofs.Instances.{few_words, lexed_of, order_words, words_kept}
use Rattle.vlex.proofs.lexer.tokens.Goals as goal

pub new-requires : goal.new-requires
new-requires c =
    let text : List ℕ = c.args.source.now.text in
    let all : List Span = c.in_ok-cut.cut.spans in
    let token : Span → Piece = piece_at c.in_ok-cut.cut.source.text in
    let P : List Span → Type 0 = λ words. AreKept text words in
    subst P (sym c.in_ok-spans.ensures) (record {
      within = all_within 0 (words_by token all) (length text) (order_words token 0 all (length text) c.in_ok-cut.ensures.spans.in_order);
      few = omega (arith, few_words token all, c.in_ok-cut.ensures.few);
    })

pub returns-clause-words : goal.returns-clause-words
returns-clause-words c =
    let Q : Tokenized → Type 0 = λ t. AreWordSpans c.args.source.now.text t.spans in
    subst Q (sym c.new.ensures) (record {
      tokens = c.in_ok-cut.cut.spans;
      are_all = c.in_ok-cut.ensures.spans;
      left = c.in_ok-spans.ensures ∙ ap (λ (s : Source). words_by (piece_at s.text) c.in_ok-cut.cut.spans) c.in_ok-cut.ensures.source;
    })

pub returns-then-not-has_begin-clause-words : goal.returns-then-not-has_begin-clause-words
returns-then-not-has_begin-clause-words c =
    let all : List Span = c.in_ok-cut.cut.spans in
    let P : Source → Type 0 = λ s. HaveNone (map (piece_at s.text) all) in
    record {
      tokens = all;
      are_all = c.in_ok-cut.ensures.spans;
      left = sym (words_kept (piece_at c.args.source.now.text) all (subst P c.in_ok-cut.ensures.source (c.has_begin.ensures c.if-not-has_begin.true)));
    }

pub returns-clause-lexed : goal.returns-clause-lexed
returns-clause-lexed c = lexed_of c.new.result c.args.source.now (ap (λ (t : Tokenized). t.source) c.new.ensures) (returns-clause-words c)

pub returns-then-not-has_begin-clause-lexed : goal.returns-then-not-has_begin-clause-lexed
returns-then-not-has_begin-clause-lexed c = lexed_of c.in_ok-cut.cut c.args.source.now c.in_ok-cut.ensures.source (returns-then-not-has_begin-clause-words c)

pub returns-clause-only : goal.returns-clause-only
returns-clause-only c = λ others l. one_lexed c.args.source.now.text others (pieces_of c.new.result) l (returns-clause-lexed c)

pub returns-then-not-has_begin-clause-only : goal.returns-then-not-has_begin-clause-only
returns-then-not-has_begin-clause-only c = λ others l. one_lexed c.args.source.now.text others (pieces_of c.in_ok-cut.cut) l (returns-then-not-has_begin-clause-lexed c)
