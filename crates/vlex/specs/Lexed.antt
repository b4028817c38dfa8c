-- *trusted*: The relation between a text and its words, which are its tokens less attributes (IEEE 1364-2005, clause 3).
use Rattle.std.specs.Prelude.{◌≡◌, ℕ, zero, suc, ◌+◌, ◌-◌, ◌<◌, ◌≤◌, Bool, true, false, ◌==◌, ◌&&◌, ◌||◌, nat_le, not, if◌then◌else◌, List, [], ◌∷◌, ◌++◌, Option, None, Some, unwrap_or, option_and_then, codes, length, take, drop, map, slice_index, ◌⊎◌}
use Rattle.std.specs.List.{prefix_len, list_any}
use Rattle.std.specs.Char.{is_ascii_digit}
use Rattle.std.specs.Str.{bytes_eq}
use Rattle.vsrc.specs.Source.{Source, place_of}
use Rattle.vsrc.specs.Outside.{further, block_end, string_end}
use Rattle.vlex.specs.declared.attributes.Part.{Part}
use Rattle.vlex.specs.declared.attributes.Part.TheVariants.{Start, Named, Equals, Value}
use Rattle.vlex.specs.declared.bytes.Set.TheVariants.{Marks, Words}
use Rattle.vlex.specs.declared.form.Form.{Form}
use Rattle.vlex.specs.declared.form.Form.TheVariants.{Blank, Comment, Token}
use Rattle.vlex.specs.declared.kind.TokenKind.{TokenKind}
use Rattle.vlex.specs.declared.kind.TokenKind.TheVariants.{Name, System, Plain, Based, Text, Symbol}
use Rattle.vlex.specs.declared.fault.LexFault.{LexFault}
use Rattle.vlex.specs.declared.fault.LexFault.TheVariants.{NotEnded, BadToken}
use Rattle.vlex.specs.Bytes.{is_in}
use Rattle.vlex.specs.Forms.{form_of}

-- a token: its kind and its bytes
pub record Piece : Type 0 where
  pub kind : TokenKind
  pub text : List ℕ

-- what may not follow at once: an apostrophe after a plain number, a letter, digit, _ or $
-- after a based one, / or * after a slash, a dot after an escaped name (own)
abbrev pub is_barred : Form → ℕ → ℕ → Bool
is_barred (Token Plain) first c = c == 39
is_barred (Token Based) first c = is_in Words c
is_barred (Token Symbol) first c = first == 47 && (c == 47 || c == 42)
is_barred (Token Name) first c = first == 92 && c == 46
is_barred (Token System) first c = false
is_barred (Token Text) first c = false
is_barred Blank first c = false
is_barred Comment first c = false

-- nothing barred stands at the head of what follows a piece that begins with `first`
abbrev pub is_free : Form → ℕ → List ℕ → Bool
is_free form first [] = true
is_free form first (c ∷ cs) = not (is_barred form first c)

-- The first `len` bytes of the text are of the form, no longer front of it has one, and what follows is free.
pub record IsFront (text : List ℕ) (form : Form) (len : ℕ) : Type 0 where
  pub within : len ≤ length text
  pub shape : form_of (take len text) ≡ Some form
  pub longest : (n : ℕ) → len < n → n ≤ length text → form_of (take n text) ≡ None
  pub free : is_free form (slice_index text 0) (drop len text) ≡ true

-- Behind a # stands the number of a delay, which is no size (9.7.1, A.2.2.3): there a number goes no further than to a blank.
abbrev pub seen_number : List ℕ → List ℕ
seen_number [] = []
seen_number (c ∷ cs) = if is_ascii_digit c then take (prefix_len (is_in Marks) (c ∷ cs)) (c ∷ cs) else c ∷ cs

abbrev pub readable : Bool → List ℕ → List ℕ
readable false text = text
readable true text = seen_number text

-- whether # is the last token behind a piece, where it was before the piece or not
abbrev pub is_delay : Bool → Form → List ℕ → Bool
is_delay delay Blank bytes = delay
is_delay delay Comment bytes = delay
is_delay delay (Token kind) bytes = bytes_eq bytes (codes "#")

-- the token that a piece is, if it is one
abbrev pub token_of : Form → List ℕ → List Piece
token_of Blank bytes = []
token_of Comment bytes = []
token_of (Token kind) bytes = record { kind = kind; text = bytes } ∷ []

-- The text is the spellings of the tokens in order, with blanks and comments between them; at its head, behind a # or not.
pub data Cut : Bool → List ℕ → List Piece → Type 0 where
  done : (delay : Bool) → Cut delay [] []
  piece : (delay : Bool) (text : List ℕ) (form : Form) (len : ℕ) (pieces : List Piece) → IsFront (readable delay text) form len
      → Cut (is_delay delay form (take len text)) (drop len text) pieces → Cut delay text (token_of form (take len text) ++ pieces)

-- ---- attributes (3.8): no words of a text

-- An instance is (* name = value, name *) (A.9.1).

-- two words stand at the head
abbrev pub begins : List ℕ → List ℕ → List Piece → Bool
begins first second [] = false
begins first second (p ∷ []) = false
begins first second (p ∷ q ∷ ps) = bytes_eq p.text first && bytes_eq q.text second

-- (* and *); blanks may stand between the two (own)
abbrev pub opens : List Piece → Bool
opens = begins (codes "(") (codes "*")

abbrev pub closes : List Piece → Bool
closes = begins (codes "*") (codes ")")

abbrev pub is_name_kind : TokenKind → Bool
is_name_kind Name = true
is_name_kind System = false
is_name_kind Plain = false
is_name_kind Based = false
is_name_kind Text = false
is_name_kind Symbol = false

abbrev pub is_opening : List ℕ → Bool
is_opening word = bytes_eq word (codes "(") || bytes_eq word (codes "[") || bytes_eq word (codes "{")

abbrev pub is_closing : List ℕ → Bool
is_closing word = bytes_eq word (codes ")") || bytes_eq word (codes "]") || bytes_eq word (codes "}")

-- the most brackets that may be open in a value (own)
abbrev pub bracket_limit : ℕ
bracket_limit = 64

-- A value is any words with their brackets closed (own), without another instance (3.8) and without a semicolon; so many
-- brackets are open behind one more word.
abbrev pub in_value : ℕ → List ℕ → Bool → Option Part
in_value depth word is_nested =
    if is_opening word then (if is_nested || nat_le bracket_limit depth then None else Some (Value (depth + 1)))
    else if is_closing word then (if depth == 0 then None else Some (Value (depth - 1)))
    else if bytes_eq word (codes ";") then None
    else Some (Value depth)

-- where an instance is behind one more word: none where that can't stand there, or begins an instance itself
abbrev pub after : Part → TokenKind → List ℕ → Bool → Option Part
after Start kind word is_nested = if is_name_kind kind then Some Named else None
after Named kind word is_nested =
    if bytes_eq word (codes "=") then Some Equals else if bytes_eq word (codes ",") then Some Start else None
after Equals kind word is_nested = if bytes_eq word (codes ",") then None else in_value 0 word is_nested
after (Value depth) kind word is_nested =
    if depth == 0 && bytes_eq word (codes ",") then Some Start else in_value depth word is_nested

abbrev pub may_end : Part → Bool
may_end Start = false
may_end Named = true
may_end Equals = false
may_end (Value depth) = depth == 0

-- how many words it is to the instance's end, where it is well formed
abbrev pub words_to_end : Part → List Piece → Option ℕ
words_to_end part [] = None
words_to_end part (p ∷ ps) =
    if may_end part && closes (p ∷ ps) then Some 2
    else option_and_then (λ next. further 1 (words_to_end next ps)) (after part p.kind p.text (opens (p ∷ ps)))

-- Behind these words: before items, statements, ports and connections, and behind operators (A.1.3 to A.8.6); also where the
-- grammar has none behind the same words (own).
unfoldable pub lead_words : List (List ℕ)
lead_words =
    codes "endmodule" ∷ codes ";" ∷ codes "begin" ∷ codes "end" ∷ codes "endcase" ∷ codes "else" ∷ codes "default"
    ∷ codes "initial" ∷ codes "always" ∷ codes "forever" ∷ codes "(" ∷ codes ")" ∷ codes "," ∷ codes ":" ∷ codes "?"
    ∷ codes "+" ∷ codes "-" ∷ codes "!" ∷ codes "~" ∷ codes "&" ∷ codes "~&" ∷ codes "|" ∷ codes "~|" ∷ codes "^"
    ∷ codes "~^" ∷ codes "^~" ∷ codes "*" ∷ codes "/" ∷ codes "%" ∷ codes "<<" ∷ codes ">>" ∷ codes "<<<"
    ∷ codes ">>>" ∷ codes "<" ∷ codes "<=" ∷ codes ">" ∷ codes ">=" ∷ codes "==" ∷ codes "!=" ∷ codes "==="
    ∷ codes "!==" ∷ codes "&&" ∷ codes "||" ∷ []

abbrev pub is_lead_word : List ℕ → Bool
is_lead_word word = list_any (λ other. bytes_eq other word) lead_words

-- and at the text's start, where the word before is empty
abbrev pub is_lead : List ℕ → Bool
is_lead word = length word == 0 || is_lead_word word

-- a delay or an event of one word: the word before the last one is # or @
abbrev pub may_stand : List ℕ → List ℕ → Bool
may_stand earlier last = is_lead last || bytes_eq earlier (codes "#") || bytes_eq earlier (codes "@")

-- of how many words is the instance that stands at the head, behind these two: 0 where none does
abbrev pub instance_len : List ℕ → List ℕ → List Piece → ℕ
instance_len earlier last pieces =
    if opens pieces && may_stand earlier last then unwrap_or (further 2 (words_to_end Start (drop 2 pieces))) 0
    else 0

abbrev pub first_text : List Piece → List ℕ
first_text [] = []
first_text (p ∷ ps) = p.text

-- What is left of a list each of whose elements has a token, behind the texts of two other tokens; n, its length or more, bounds
-- the steps.
abbrev pub without : {A : Type 0} → (A → Piece) → ℕ → List ℕ → List ℕ → List A → List A
without token zero earlier last all = []
without token (suc n) earlier last all =
    let len = instance_len earlier last (map token all) in
    if len == 0 then take 1 all ++ without token n last (first_text (map token all)) (drop 1 all)
    else without token n (codes "*") (codes ")") (drop len all)

-- the elements without those whose tokens are of an attribute
unfoldable pub words_by : {A : Type 0} → (A → Piece) → List A → List A
words_by token all = without token (length all) [] [] all

abbrev pub words_of : List Piece → List Piece
words_of = words_by (λ piece. piece)

-- ---- the words of a text: its tokens less attributes

abbrev pub Lexed : List ℕ → List Piece → Type 0
Lexed text words = (cut : List Piece) × (Cut false text cut × (words ≡ words_of cut))

-- no front of the text is a piece
abbrev pub IsStuck : List ℕ → Type 0
IsStuck text = (form : Form) (len : ℕ) → IsFront text form len → ⊥

-- a comment or a string begins the text, and isn't closed (3.3, 3.6)
abbrev pub IsOpen : List ℕ → Type 0
IsOpen [] = ⊥
IsOpen (c ∷ []) = c ≡ 34
IsOpen (c ∷ d ∷ cs) =
    ((c ≡ 47) × (d ≡ 42) × (block_end cs ≡ None))
    ⊎ ((c ≡ 34) × (string_end (d ∷ cs) ≡ None))

-- no cut into tokens is the text's
abbrev pub HasNoCut : List ℕ → Type 0
HasNoCut text = (pieces : List Piece) → Cut false text pieces → ⊥

-- a list of tokens is the text's only one
abbrev pub IsOnlyLexed : List ℕ → List Piece → Type 0
IsOnlyLexed text pieces = (others : List Piece) → Lexed text others → others ≡ pieces

-- no list of tokens is the text's
abbrev pub HasNoTokens : List ℕ → Type 0
HasNoTokens text = (pieces : List Piece) → Lexed text pieces → ⊥

-- the pieces from the head of the text on go up to this place, behind a # or not
pub data Reaches (text : List ℕ) : Bool → ℕ → Type 0 where
  start : Reaches text false 0
  next : (delay : Bool) (at : ℕ) (form : Form) (len : ℕ) → Reaches text delay at → IsFront (readable delay (drop at text)) form len
      → Reaches text (is_delay delay form (take len (drop at text))) (at + len)

-- the pieces go up to a place within the text, and no piece stands there
pub record StopsAt (text : List ℕ) (at : ℕ) : Type 0 where
  pub delay : Bool
  pub reached : Reaches text delay at
  pub within : at < length text
  pub stuck : IsStuck (readable delay (drop at text))

-- what each fault says of the text: where its pieces stop a comment or a string is open, or not
abbrev pub IsTokenReason : Source → LexFault → Type 0
IsTokenReason source (NotEnded place) = (at : ℕ) × (StopsAt source.text at × (place ≡ place_of source at) × IsOpen (drop at source.text))
IsTokenReason source (BadToken place) = (at : ℕ) × (StopsAt source.text at × (place ≡ place_of source at) × ¬ IsOpen (drop at source.text))
