use Rattle.std.proofs.Common.{rules, All, false, ◌≡◌, ◌+◌, ◌++◌, ◌<◌, ◌≤◌, List, ℕ, Bool, length, take, drop, map, arith, ap, sym, ◌∙◌, subst}
use Rattle.std.proofs.lemmas.List.{length-drop}
use Rattle.vlex.specs.declared.form.Form.{Form}
use Rattle.vlex.specs.declared.list.Span.{Span}
use Rattle.vlex.specs.Lexed.Reaches.{start, next}
use Rattle.vlex.specs.Lexed.{Cut, Piece, IsFront, IsOpen, IsStuck, Reaches, StopsAt, is_delay, readable}
use Rattle.vlex.specs.Tokenized.{Tokenized, piece_at, AreInOrder, AreTokenSpans, IsTokenAt}
use Rattle.vlex.specs.Inner.{spans_of, AreWithin}
use Rattle.vlex.proofs.Cuts.{some_front, spans_grow, order_grows, stands_grows, in_order_more, all_within, goes_onward, goes_back, all_lexed, none_lexed, seen_some, seen_within, seen_open, open_seen}
use Rattle.vlex.proofs.lexer.cut.Goals as goal

pub loop-at-init : goal.loop-at-init
loop-at-init c = record { within = search rules; reached = start; stands = search rules; order = search rules; few = search rules; onward = search rules; back = search rules }

-- something is read of what is left
pub front-requires : goal.front-requires
front-requires c =
    let some : 0 < length c.split_at.result.1.now = omega (arith, c.loop-at-test.true, c.split_at.ensures.back_len) in
    subst (λ (l : List ℕ). 0 < length l) (sym c.readable.ensures) (seen_some c.loop-at.delay c.split_at.result.1.now some)

pub loop-at-preserved : goal.loop-at-preserved
loop-at-preserved c =
    let text : List ℕ = c.text-text.result.now in
    let at : ℕ = c.loop-at.at in
    let len : ℕ = c.in-Piece.len in
    let form : Form = c.in-Piece.form in
    let delay : Bool = c.loop-at.delay in
    let spans : List Span = c.loop-at.spans.items in
    let Front : List ℕ → Type 0 = λ l. IsFront l form len in
    let front : IsFront (readable delay (drop at text)) form len = subst Front (c.readable.ensures ∙ ap (readable delay) c.split_at.ensures.back) c.in-Piece.ensures in
    let pushed : c.push_piece.new.spans.items ≡ spans ++ spans_of form at len = c.in_ok-push_piece-in-Piece.ensures in
    let went : c.is_delay-delay.result ≡ is_delay delay form (take len (drop at text)) = c.is_delay-delay.ensures ∙ ap (is_delay delay form) (c.split_at-in-Piece.ensures.front ∙ ap (take len) c.split_at.ensures.back) in
    let within : at + len ≤ length text = omega (arith, front.within, seen_within delay (drop at text), length-drop at text) in
    let Order : List Span → Type 0 = λ ss. AreInOrder 0 ss (at + len) in
    record {
      within = within;
      reached = subst (λ (b : Bool). Reaches text b (at + len)) (sym went) (next delay at form len c.loop-at.invariant.reached front);
      stands = subst (All (IsTokenAt text)) (sym pushed) (stands_grows delay text spans form at len c.loop-at.invariant.reached front c.loop-at.invariant.stands);
      order = subst Order (sym pushed) (order_grows spans form at len c.loop-at.invariant.order);
      few = omega (arith, ap length pushed, spans_grow spans form at len (some_front _ form len front), c.loop-at.invariant.few);
      onward = λ pieces l.
          let P : List Span → Type 0 = λ ss. Cut false text (map (piece_at text) ss ++ pieces) in
          let Q : Bool → Type 0 = λ b. Cut b (drop (at + len) text) pieces in
          subst P (sym pushed) (goes_onward delay text spans form at len pieces front c.loop-at.invariant.onward (subst Q went l));
      back = λ pieces l.
          let P : List Span → Type 0 = λ ss. (left : List Piece) × ((pieces ≡ map (piece_at text) ss ++ left) × Cut c.is_delay-delay.result (drop (at + len) text) left) in
          let Q : Bool → Type 0 = λ b. (left : List Piece) × ((pieces ≡ map (piece_at text) (spans ++ spans_of form at len) ++ left) × Cut b (drop (at + len) text) left) in
          subst P (sym pushed) (subst Q (sym went) (goes_back delay text spans form at len pieces front (c.loop-at.invariant.back pieces l)));
    }

pub returns-in-NotEnded-clause-none : goal.returns-in-NotEnded-clause-none
returns-in-NotEnded-clause-none c = λ pieces l.
    let P : List ℕ → Type 0 = λ t. Cut false t pieces in
    none_lexed c.loop-at.delay c.text-text.result.now c.loop-at.spans.items c.loop-at.at pieces c.loop-at-test.true
    (subst IsStuck (c.readable.ensures ∙ ap (readable c.loop-at.delay) c.split_at.ensures.back) c.in-NotEnded.ensures.0)
    (c.loop-at.invariant.back pieces (subst P (sym c.text-text.ensures.value) l))

pub returns-in-Bad-clause-none : goal.returns-in-Bad-clause-none
returns-in-Bad-clause-none c = λ pieces l.
    let P : List ℕ → Type 0 = λ t. Cut false t pieces in
    none_lexed c.loop-at.delay c.text-text.result.now c.loop-at.spans.items c.loop-at.at pieces c.loop-at-test.true
    (subst IsStuck (c.readable.ensures ∙ ap (readable c.loop-at.delay) c.split_at.ensures.back) c.in-Bad.ensures.0)
    (c.loop-at.invariant.back pieces (subst P (sym c.text-text.ensures.value) l))

pub returns-clause-spans : goal.returns-clause-spans
returns-clause-spans c =
    let text : List ℕ = c.text-text.result.now in
    let spans : List Span = c.loop-at.spans.items in
    let Q : Tokenized → Type 0 = λ t. AreTokenSpans c.args.source.now.text t.spans in
    let P : List ℕ → Type 0 = λ t. AreTokenSpans t spans in
    subst Q (sym c.new.ensures) (subst P c.text-text.ensures.value (record {
      cut = all_lexed c.loop-at.delay text spans c.loop-at.at c.loop-at-test.false c.loop-at.invariant.onward;
      stand = c.loop-at.invariant.stands;
      in_order = in_order_more 0 spans c.loop-at.at (length text) c.loop-at.invariant.within c.loop-at.invariant.order;
    }))

pub new-requires : goal.new-requires
new-requires c =
    let P : List ℕ → Type 0 = λ t. AreWithin t c.loop-at.spans.items in
    record {
      within = subst P c.text-text.ensures.value
          (all_within 0 c.loop-at.spans.items (length c.text-text.result.now)
          (in_order_more 0 c.loop-at.spans.items c.loop-at.at (length c.text-text.result.now) c.loop-at.invariant.within c.loop-at.invariant.order));
      few = omega (arith, c.loop-at.invariant.few, c.loop-at.invariant.within, c.text-text.ensures.short);
    }

pub push_piece-requires : goal.push_piece-requires
push_piece-requires c =
    let within : c.in-Piece.len ≤ length (readable c.loop-at.delay c.split_at.result.1.now) = omega (arith, c.in-Piece.ensures.within, ap length c.readable.ensures) in
    omega (arith, within, seen_within c.loop-at.delay c.split_at.result.1.now, c.split_at.ensures.back_len, c.text-text.ensures.short, c.loop-at-test.true)

pub split_at-requires-in-Piece : goal.split_at-requires-in-Piece
split_at-requires-in-Piece c =
    let within : c.in-Piece.len ≤ length (readable c.loop-at.delay c.split_at.result.1.now) = omega (arith, c.in-Piece.ensures.within, ap length c.readable.ensures) in
    omega (arith, within, seen_within c.loop-at.delay c.split_at.result.1.now)

pub returns-in-NotEnded-clause-reason : goal.returns-in-NotEnded-clause-reason
returns-in-NotEnded-clause-reason c =
    let text : List ℕ = c.text-text.result.now in
    let at : ℕ = c.loop-at.at in
    let is : c.readable.result.now ≡ readable c.loop-at.delay (drop at text) = c.readable.ensures ∙ ap (readable c.loop-at.delay) c.split_at.ensures.back in
    let P : List ℕ → Type 0 = λ t. StopsAt t at × IsOpen (drop at t) in
    let found : P c.args.source.now.text =
    subst P c.text-text.ensures.value (
      record { delay = c.loop-at.delay; reached = c.loop-at.invariant.reached; within = c.loop-at-test.true; stuck = subst IsStuck is c.in-NotEnded.ensures.0 },
      open_seen c.loop-at.delay (drop at text) (subst IsOpen is c.in-NotEnded.ensures.1),
    ) in
    (at, (found.0, c.place.ensures, found.1))

pub returns-in-Bad-clause-reason : goal.returns-in-Bad-clause-reason
returns-in-Bad-clause-reason c =
    let text : List ℕ = c.text-text.result.now in
    let at : ℕ = c.loop-at.at in
    let is : c.readable.result.now ≡ readable c.loop-at.delay (drop at text) = c.readable.ensures ∙ ap (readable c.loop-at.delay) c.split_at.ensures.back in
    let P : List ℕ → Type 0 = λ t. StopsAt t at × (IsOpen (drop at t) → ⊥) in
    let found : P c.args.source.now.text =
    subst P c.text-text.ensures.value (
      record { delay = c.loop-at.delay; reached = c.loop-at.invariant.reached; within = c.loop-at-test.true; stuck = subst IsStuck is c.in-Bad.ensures.0 },
      λ found. subst (λ t. IsOpen t → ⊥) is c.in-Bad.ensures.1 (seen_open c.loop-at.delay (drop at text) found),
    ) in
    (at, (found.0, c.place-in-Bad.ensures, found.1))
