-- *product rule*: A text, and where its tokens stand in it.
use Rattle.std.specs.Prelude.{◌≡◌, ℕ, ◌+◌, ◌≤◌, Bool, false, All, List, [], ◌∷◌, Option, length, take, drop, map, slice_get, unwrap_or}
use Rattle.std.specs.Option.{option_map}
use Rattle.vsrc.specs.Source.{Source}
use Rattle.vlex.specs.declared.list.Span.{Span}
use Rattle.vlex.specs.declared.form.Form.TheVariants.{Token}
use Rattle.vlex.specs.declared.kind.TokenKind.{TokenKind}
use Rattle.vlex.specs.Lexed.{Piece, IsFront, Reaches, Cut, readable, words_by}

pub record Tokenized : Type 0 where
  pub source : Source
  pub spans : List Span

-- the token at a span: its bytes are those of the text there
abbrev pub piece_at : List ℕ → Span → Piece
piece_at text span = record { kind = span.kind; text = take span.len (drop span.start text) }

-- the tokens, in order
abbrev pub pieces_of : Tokenized → List Piece
pieces_of t = map (piece_at t.source.text) t.spans

-- the kind and the bytes of the token of a number, where there is one
abbrev pub kind_at : Tokenized → ℕ → Option TokenKind
kind_at t index = option_map (λ piece. piece.kind) (slice_get (pieces_of t) index)

abbrev pub text_at : Tokenized → ℕ → Option (List ℕ)
text_at t index = option_map (λ piece. piece.text) (slice_get (pieces_of t) index)

-- where a token begins; after the last one, where the text ends
abbrev pub start_of : Tokenized → ℕ → ℕ
start_of t index = unwrap_or (option_map (λ span. span.start) (slice_get t.spans index)) (length t.source.text)

-- where the pieces before it end, the token of the span is the next piece
pub record IsTokenAt (text : List ℕ) (span : Span) : Type 0 where
  pub delay : Bool
  pub reached : Reaches text delay span.start
  pub front : IsFront (readable delay (drop span.start text)) (Token span.kind) span.len

-- the spans stand in order between two places, none over another
abbrev pub AreInOrder : ℕ → List Span → ℕ → Type 0
AreInOrder from [] to = from ≤ to
AreInOrder from (span ∷ spans) to = (from ≤ span.start) × AreInOrder (span.start + span.len) spans to

-- the spans are those of all tokens of the text
pub record AreTokenSpans (text : List ℕ) (spans : List Span) : Type 0 where
  pub cut : Cut false text (map (piece_at text) spans)
  pub stand : All (IsTokenAt text) spans
  pub in_order : AreInOrder 0 spans (length text)

-- the spans are those of the words of the text, which are its tokens less attributes
pub record AreWordSpans (text : List ℕ) (words : List Span) : Type 0 where
  pub tokens : List Span
  pub are_all : AreTokenSpans text tokens
  pub left : words ≡ words_by (piece_at text) tokens
