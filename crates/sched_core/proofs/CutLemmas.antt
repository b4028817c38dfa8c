-- Texts, cut at their line feeds.
use Rattle.std.proofs.Common.{◌≡◌, ◌≢◌, ℕ, zero, suc, ◌+◌, ◌-◌, ◌<◌, Bool, true, false, List, [], ◌∷◌, ◌++◌, length, get_or, drop, append_assoc, Some, refl, sym, ap, subst, ◌∙◌, arith}
use Rattle.std.proofs.lemmas.List.{drop_more}
use Rattle.std.proofs.lemmas.Bool.{ne_eqb}
use Rattle.std.specs.Prelude.{nat_eq, slice_get}
use Rattle.sched_core.specs.Bags.{with_byte, with_line, lines_of, is_whole, with_each}
use Rattle.sched_core.specs.Inner.Bags.{HasNoFeed}

pub no_feed-more : (line : List ℕ) (byte : ℕ) → HasNoFeed line → nat_eq byte 10 ≡ false → HasNoFeed (line ++ byte ∷ [])
no_feed-more [] byte none isnt = (isnt, tt)
no_feed-more (one ∷ line) byte none isnt = (none.0, no_feed-more line byte none.1 isnt)

-- a line feed ends the line that was gathered
pub ended : (line : List ℕ) (byte : ℕ) (rest : List ℕ) → HasNoFeed line → nat_eq byte 10 ≡ true →
    lines_of (line ++ byte ∷ rest) ≡ (line ++ byte ∷ []) ∷ lines_of rest
ended [] byte rest none is = ap (λ (b : Bool). with_byte b byte (lines_of rest)) is
ended (one ∷ line) byte rest none is =
    ap (λ (b : Bool). with_byte b one (lines_of (line ++ byte ∷ rest))) none.0 ∙ ap (with_byte false one) (ended line byte rest none.1 is)

-- what no line feed ends is one line
pub one_piece : (byte : ℕ) (line : List ℕ) → HasNoFeed (byte ∷ line) → lines_of (byte ∷ line) ≡ (byte ∷ line) ∷ []
one_piece byte [] none = ap (λ (b : Bool). with_byte b byte []) none.0
one_piece byte (next ∷ line) none =
    ap (λ (b : Bool). with_byte b byte (lines_of (next ∷ line))) none.0 ∙ ap (with_byte false byte) (one_piece next line none.1)

pub rest_put : (line : List ℕ) (bag : List (List ℕ)) → HasNoFeed line → line ≢ [] → with_line line bag ≡ with_each (lines_of line) bag
rest_put [] bag none some = absurd (some refl)
rest_put (byte ∷ line) bag none some = sym (ap (λ (lines : List (List ℕ)). with_each lines bag) (one_piece byte line none))

-- whether a line is whole is what its last byte says
pub ended_by : (line : List ℕ) (n byte : ℕ) → n ≡ length line - 1 → Some byte ≡ slice_get line n → nat_eq byte 10 ≡ is_whole line
ended_by [] n byte last is = cc
ended_by (one ∷ []) zero byte last is = let same : byte ≡ one = cc in ap (λ (b : ℕ). nat_eq b 10) same
ended_by (one ∷ []) (suc n) byte last is = absurd (omega (arith, last))
ended_by (one ∷ next ∷ more) zero byte last is = absurd (omega (arith, last))
ended_by (one ∷ next ∷ more) (suc n) byte last is = ended_by (next ∷ more) n byte (omega (arith, last)) is

-- a byte more of a text whose lines are gathered
pub went_on : (line grown text : List ℕ) (i : ℕ) → HasNoFeed line → i < length text → grown ≡ line ++ get_or text i 0 ∷ [] → nat_eq (get_or text i 0) 10 ≡ false →
    HasNoFeed grown × (lines_of (grown ++ drop (i + 1) text) ≡ lines_of (line ++ drop i text))
went_on line grown text i none within is isnt = (
  subst HasNoFeed (sym is) (no_feed-more line (get_or text i 0) none isnt),
  ap lines_of (ap (λ (front : List ℕ). front ++ drop (i + 1) text) is
      ∙ append_assoc line (get_or text i 0 ∷ []) (drop (i + 1) text)
      ∙ ap (λ (behind : List ℕ). line ++ behind) (sym (drop_more text i 0 within))),
)

-- the line feed
pub line_came : (line grown text : List ℕ) (i : ℕ) → HasNoFeed line → i < length text → grown ≡ line ++ get_or text i 0 ∷ [] → nat_eq (get_or text i 0) 10 ≡ true →
    lines_of (line ++ drop i text) ≡ grown ∷ lines_of (drop (i + 1) text)
line_came line grown text i none within is feed =
    ap (λ (behind : List ℕ). lines_of (line ++ behind)) (drop_more text i 0 within)
    ∙ ended line (get_or text i 0) (drop (i + 1) text) none feed
    ∙ ap (λ (x : List ℕ). x ∷ lines_of (drop (i + 1) text)) (sym is)

-- what is left to put in, after a line feed
pub line_put : (line grown left text : List ℕ) (i : ℕ) (now after start : List (List ℕ)) → HasNoFeed line → i < length text →
    grown ≡ line ++ get_or text i 0 ∷ [] → get_or text i 0 ≡ 10 → left ≡ [] → after ≡ with_line grown now → with_each (lines_of (line ++ drop i text)) now ≡ start →
    HasNoFeed left × (with_each (lines_of (left ++ drop (i + 1) text)) after ≡ start)
line_put line grown left text i now after start none within is feed empty put was = (
  subst HasNoFeed (sym empty) tt,
  (λ k. with_each (lines_of (empty k ++ drop (i + 1) text)) (put k))
      ∙ ap (λ (lines : List (List ℕ)). with_each lines now) (sym (line_came line grown text i none within is (ap (λ (b : ℕ). nat_eq b 10) feed)))
      ∙ was,
)

-- after another byte
pub byte_put : (line grown left text : List ℕ) (i : ℕ) (now after start : List (List ℕ)) → HasNoFeed line → i < length text →
    grown ≡ line ++ get_or text i 0 ∷ [] → get_or text i 0 ≢ 10 → left ≡ grown → after ≡ now → with_each (lines_of (line ++ drop i text)) now ≡ start →
    HasNoFeed left × (with_each (lines_of (left ++ drop (i + 1) text)) after ≡ start)
byte_put line grown left text i now after start none within is other same kept was =
    let on = went_on line grown text i none within is (ne_eqb (get_or text i 0) 10 other) in (
      subst HasNoFeed (sym same) on.0,
      (λ k. with_each (lines_of (same k ++ drop (i + 1) text)) (kept k)) ∙ ap (λ (lines : List (List ℕ)). with_each lines now) on.1 ∙ was,
    )
