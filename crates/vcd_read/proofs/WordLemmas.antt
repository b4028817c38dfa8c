-- The words of bytes that come one by one.
use Rattle.std.proofs.Common.{◌≡◌, ℕ, Bool, true, false, if◌then◌else◌, List, [], ◌∷◌, ◌++◌, Option, None, Some, refl, ap, sym, ◌∙◌, append_assoc, append-nil, subst}
use Rattle.std.specs.Char.{is_ascii_whitespace}
use Rattle.std.specs.Io.KnownBytes.{Consumes, IsAtEnd}
use Rattle.vcd_read.specs.Words.{Text, words_behind, words_of, with_word}
use Rattle.vcd_read.specs.Declarations.{IsNoEnd, HaveNoEnd}
use Rattle.vcd_read.specs.Bytes.{AreWords, AreAll, Come, IsNextWord, NoneIsLeft, HaveCome}

one_behind : (c : ℕ) (cs : List ℕ) (letters : Text) → is_ascii_whitespace c ≡ false → words_behind (c ∷ cs) letters ≡ words_behind cs (letters ++ c ∷ [])
one_behind c cs letters other = ap (λ (b : Bool). if b then with_word letters (words_behind cs []) else words_behind cs (letters ++ c ∷ [])) other

blank_behind : (c : ℕ) (cs : List ℕ) (letters : Text) → is_ascii_whitespace c ≡ true → words_behind (c ∷ cs) letters ≡ with_word letters (words_of cs)
blank_behind c cs letters blank = ap (λ (b : Bool). if b then with_word letters (words_behind cs []) else words_behind cs (letters ++ c ∷ [])) blank

-- whatever is taken, the words are those of a step further on, if a step keeps them
pub steps : (these those : List ℕ → List Text) (first old new : Option (List ℕ)) (bytes : List ℕ) → AreWords these first old → Consumes old new bytes →
    ((rest : List ℕ) → these (bytes ++ rest) ≡ those rest) → AreWords those first new
steps these those None old new bytes p q same = tt
steps these those (Some text) None new bytes p q same = absurd p
steps these those (Some text) (Some xs) None bytes p q same = absurd q
steps these those (Some text) (Some xs) (Some ys) bytes p q same = p ∙ ap these q ∙ same ys

-- at first no letter has come
pub none_yet : (first : Option (List ℕ)) → HaveCome [] first first
none_yet None = tt
none_yet (Some text) = refl

-- a letter more
pub letter_comes : (first old new : Option (List ℕ)) (letters : Text) (c : ℕ) → HaveCome letters first old → Consumes old new (c ∷ []) →
    is_ascii_whitespace c ≡ false → HaveCome (letters ++ c ∷ []) first new
letter_comes first old new letters c p q other =
    steps (λ rest. words_behind rest letters) (λ rest. words_behind rest (letters ++ c ∷ [])) first old new (c ∷ []) p q (λ rest. one_behind c rest letters other)

-- a blank more, where no letter has come
pub blank_comes : (first old new : Option (List ℕ)) (c : ℕ) → HaveCome [] first old → Consumes old new (c ∷ []) →
    is_ascii_whitespace c ≡ true → HaveCome [] first new
blank_comes first old new c p q blank =
    steps (λ rest. words_behind rest []) (λ rest. words_behind rest []) first old new (c ∷ []) p q (λ rest. blank_behind c rest [] blank)

-- a blank ends the letters
pub word_ends : (first old new : Option (List ℕ)) (letter : ℕ) (letters : Text) (c : ℕ) → HaveCome (letter ∷ letters) first old → Consumes old new (c ∷ []) →
    is_ascii_whitespace c ≡ true → IsNextWord (letter ∷ letters) first new
word_ends first old new letter letters c p q blank =
    steps (λ rest. words_behind rest (letter ∷ letters)) (λ rest. (letter ∷ letters) ∷ words_of rest) first old new (c ∷ []) p q
    (λ rest. blank_behind c rest (letter ∷ letters) blank)

-- the end of the bytes does
pub last_ends : (first old new : Option (List ℕ)) (letter : ℕ) (letters : Text) → HaveCome (letter ∷ letters) first old → IsAtEnd old → Consumes old new [] →
    IsNextWord (letter ∷ letters) first new
last_ends None old new letter letters p e q = tt
last_ends (Some text) None new letter letters p e q = absurd p
last_ends (Some text) (Some xs) None letter letters p e q = absurd q
last_ends (Some text) (Some xs) (Some ys) letter letters p e q =
    p ∙ ap (λ rest. words_behind rest (letter ∷ letters)) e ∙ ap (λ rest. (letter ∷ letters) ∷ words_of rest) (sym e ∙ q)

-- and where no letter has come, no word is left
pub none_left : (first old new : Option (List ℕ)) → HaveCome [] first old → IsAtEnd old → Consumes old new [] → NoneIsLeft first new
none_left None old new p e q = tt
none_left (Some text) None new p e q = absurd p
none_left (Some text) (Some xs) None p e q = absurd q
none_left (Some text) (Some xs) (Some ys) p e q = p ∙ ap (λ rest. words_behind rest []) e

-- none have come at first
pub none_come : (first : Option (List ℕ)) → Come [] first first
none_come None = tt
none_come (Some text) = refl

-- words, and more behind them
pub more_come : (these those : List Text) (first old new : Option (List ℕ)) → Come these first old → Come those old new → Come (these ++ those) first new
more_come these those None old new p q = tt
more_come these those (Some text) None new p q = absurd p
more_come these those (Some text) (Some xs) None p q = absurd q
more_come these those (Some text) (Some xs) (Some ys) p q = p ∙ ap (λ words. these ++ words) q ∙ sym (append_assoc these those (words_of ys))

pub no_end_more : (words : List Text) (word : Text) → HaveNoEnd words → IsNoEnd word → HaveNoEnd (words ++ word ∷ [])
no_end_more [] word all one = (one, tt)
no_end_more (first ∷ words) word all one = (all.0, no_end_more words word all.1 one)

-- where none is left, those that came are all
pub all_come : (words : List Text) (first old new : Option (List ℕ)) → Come words first old → NoneIsLeft old new → AreAll words first new
all_come words None old new p q = tt
all_come words (Some text) None new p q = absurd p
all_come words (Some text) (Some xs) None p q = absurd q
all_come words (Some text) (Some xs) (Some ys) p q = p ∙ ap (λ (list : List Text). words ++ list) q ∙ append-nil words

-- words, one more, and those behind it
pub words_come : (these those : List Text) (word other : Text) (first old next new : Option (List ℕ)) → Come these first old → IsNextWord word old next →
    other ≡ word → Come those next new → Come (these ++ other ∷ those) first new
words_come these those word other first old next new p q same r =
    more_come these (other ∷ those) first old new p
    (more_come (other ∷ []) those old next new (subst (λ (text : Text). Come (text ∷ []) old next) (sym same) q) r)
