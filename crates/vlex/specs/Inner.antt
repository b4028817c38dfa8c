-- *internal*: What the parts of the lexer answer and its tokens keep.
use Rattle.std.specs.Prelude.{◌≡◌, ℕ, zero, suc, ◌+◌, ◌<◌, ◌≤◌, Bool, true, false, List, [], ◌∷◌, Option, length, take, drop, All, MatchOption}
use Rattle.vsrc.specs.Source.{text_limit}
use Rattle.vlex.specs.declared.list.Span.{Span}
use Rattle.vlex.specs.declared.form.Form.{Form}
use Rattle.vlex.specs.declared.form.Form.TheVariants.{Blank, Comment, Token}
use Rattle.vlex.specs.declared.kind.TokenKind.TheVariants.{Plain}
use Rattle.vlex.specs.declared.form.Front.{Front}
use Rattle.vlex.specs.declared.form.Front.TheVariants.{Piece, NotEnded, Bad}
use Rattle.vlex.specs.Lexed.{Piece as Word, IsFront, IsStuck, IsOpen, opens}

-- no front of the bytes passes the test
abbrev pub Never : (List ℕ → Bool) → List ℕ → Type 0
Never test bytes = (n : ℕ) → test (take n bytes) ≡ false

-- the first `len` bytes pass the test, and no longer front does
pub record IsLongest (test : List ℕ → Bool) (bytes : List ℕ) (len : ℕ) : Type 0 where
  pub within : len ≤ length bytes
  pub passes : test (take len bytes) ≡ true
  pub longest : (n : ℕ) → len < n → n ≤ length bytes → test (take n bytes) ≡ false

abbrev pub Finds : (List ℕ → Bool) → List ℕ → Option ℕ → Type 0
Finds test bytes r = MatchOption r (Never test bytes) (IsLongest test bytes)

-- what stands at the head of a text
abbrev pub IsAnswer : List ℕ → Front → Type 0
IsAnswer text (Piece form len) = IsFront text form len
IsAnswer text NotEnded = IsStuck text × IsOpen text
IsAnswer text Bad = IsStuck text × ¬ IsOpen text

-- Digits that are no size of what an apostrophe begins behind them: a plain number before blanks, and nothing without them.
abbrev pub alone : ℕ → ℕ → Front
alone digits zero = Bad
alone digits (suc blanks) = Piece (Token Plain) (1 + digits)

-- each token ends within the text
abbrev pub AreWithin : List ℕ → List Span → Type 0
AreWithin text spans = All (λ span. span.start + span.len ≤ length text) spans

-- what the tokens of a text keep: they stand within it, and are no more than a text may have bytes
pub record AreKept (text : List ℕ) (spans : List Span) : Type 0 where
  pub within : AreWithin text spans
  pub few : length spans ≤ text_limit

-- the span of a piece, if it is a token
abbrev pub spans_of : Form → ℕ → ℕ → List Span
spans_of Blank at len = []
spans_of Comment at len = []
spans_of (Token kind) at len = record { start = at; len = len; kind = kind } ∷ []

-- no attribute begins among tokens
abbrev pub HaveNone : List Word → Type 0
HaveNone tokens = (at : ℕ) → opens (drop at tokens) ≡ false
