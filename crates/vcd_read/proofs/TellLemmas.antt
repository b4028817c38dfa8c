-- What each command tells.
use Rattle.std.proofs.Common.{◌≡◌, ℕ, Bool, true, false, List, [], ◌∷◌, ◌++◌, sym, subst, append_assoc, append-nil}
use Rattle.std.specs.Prelude.{codes}
use Rattle.std.specs.List.{list_all}
use Rattle.vcd_read.specs.Words.{Text}
use Rattle.vcd_read.specs.Numbers.{IsDecimal}
use Rattle.vcd_read.specs.Declarations.{HaveNoEnd, end_word}
use Rattle.vcd_read.specs.Commands.{Item, at, value, off, on, Tells, done, time, bit, vector, real, comment, vars, all, stops, goes_on, ends, IsReal, IsVector, is_digit}
use Rattle.vcd_read.specs.Telling.{Tell, Opens}

pub tell_time : (inside : Bool) (digits : Text) (t : ℕ) → IsDecimal digits t → inside ≡ false → Tell ((35 ∷ digits) ∷ []) inside inside (at t ∷ [])
tell_time inside digits t number outside =
    subst (λ (b : Bool). Tell ((35 ∷ digits) ∷ []) b b (at t ∷ [])) (sym outside) (λ rest more d. time digits t rest more number d)

pub tell_bit : (inside : Bool) (digit : ℕ) (name code digits : Text) → is_digit digit ≡ true → code ≡ name → digits ≡ digit ∷ [] →
    Tell ((digit ∷ name) ∷ []) inside inside (value code digits ∷ [])
tell_bit inside digit name code digits is p q rest more d =
    subst (λ (text : Text). Tells inside ((digit ∷ name) ∷ rest) (value text digits ∷ more)) (sym p)
    (subst (λ (text : Text). Tells inside ((digit ∷ name) ∷ rest) (value name text ∷ more)) (sym q) (bit inside digit name rest more is d))

pub tell_vector : (inside : Bool) (letter : ℕ) (digits code kept : Text) → list_all is_digit digits ≡ true → kept ≡ digits → IsVector letter →
    Tell ((letter ∷ digits) ∷ code ∷ []) inside inside (value code kept ∷ [])
tell_vector inside letter digits code kept is p are rest more d =
    subst (λ (text : Text). Tells inside ((letter ∷ digits) ∷ code ∷ rest) (value code text ∷ more)) (sym p) (vector inside letter digits code rest more are is d)

pub tell_real : (inside : Bool) (letter : ℕ) (number code : Text) → IsReal letter → Tell ((letter ∷ number) ∷ code ∷ []) inside inside []
tell_real inside letter number code is rest more d = real inside letter number code rest more is d

pub tell_comment : (inside : Bool) (words : List Text) → inside ≡ false → HaveNoEnd words → Tell (codes "$comment" ∷ (words ++ end_word ∷ [])) inside inside []
tell_comment inside words outside without =
    subst (λ (b : Bool). Tell (codes "$comment" ∷ (words ++ end_word ∷ [])) b b []) (sym outside)
    (λ rest more d. subst (λ (list : List Text). Tells false (codes "$comment" ∷ list) more) (sym (append_assoc words (end_word ∷ []) rest))
    (comment words rest more without d))

-- a block opens
pub tell_opens : (word : Text) (items : List Item) (old new : Bool) → Opens word items → old ≡ false → new ≡ true → Tell (word ∷ []) old new items
tell_opens word items old new opens p q rest more d =
    subst (λ (b : Bool). Tells b (word ∷ rest) (items ++ more)) (sym p) (opens rest more (subst (λ (b : Bool). Tells b rest more) q d))

open_by : (word keyword : Text) (items : List Item) → Opens keyword items → word ≡ keyword → Opens word items
open_by word keyword items opens p = subst (λ (text : Text). Opens text items) (sym p) opens

pub open_vars : (word : Text) → word ≡ codes "$dumpvars" → Opens word []
open_vars word p = open_by word (codes "$dumpvars") [] (λ rest more d. vars rest more d) p

pub open_all : (word : Text) → word ≡ codes "$dumpall" → Opens word []
open_all word p = open_by word (codes "$dumpall") [] (λ rest more d. all rest more d) p

pub open_off : (word : Text) → word ≡ codes "$dumpoff" → Opens word (off ∷ [])
open_off word p = open_by word (codes "$dumpoff") (off ∷ []) (λ rest more d. stops rest more d) p

pub open_on : (word : Text) → word ≡ codes "$dumpon" → Opens word (on ∷ [])
open_on word p = open_by word (codes "$dumpon") (on ∷ []) (λ rest more d. goes_on rest more d) p

pub tell_ends : (old new : Bool) → old ≡ true → new ≡ false → Tell (end_word ∷ []) old new []
tell_ends old new p q rest more d =
    subst (λ (b : Bool). Tells b (end_word ∷ rest) more) (sym p) (ends rest more (subst (λ (b : Bool). Tells b rest more) q d))

pub tell_then : (these those : List Text) (a b c : Bool) (items others : List Item) → Tell these a b items → Tell those b c others →
    Tell (these ++ those) a c (items ++ others)
tell_then these those a b c items others x y rest more d =
    subst (λ (words : List Text). Tells a words ((items ++ others) ++ more)) (sym (append_assoc these those rest))
    (subst (λ (list : List Item). Tells a (these ++ (those ++ rest)) list) (sym (append_assoc items others more))
    (x (those ++ rest) (others ++ more) (y rest more d)))

-- outside of blocks all is told
pub all_told : (old new : Bool) (words : List Text) → Tell words old new [] → new ≡ false → Tells old words []
all_told old new words tell outside =
    subst (λ (list : List Text). Tells old list []) (append-nil words)
    (tell [] [] (subst (λ (b : Bool). Tells b [] []) (sym outside) done))
