-- The words that stand for each table.
use Rattle.std.proofs.Common.{Bool, true, false, refl}
use Rattle.std.specs.Prelude.{bit_and, bit_or, bit_xor}
use Rattle.vbits.specs.declared.bit4.Bit4.{Bit4}
use Rattle.vbits.specs.declared.bit4.Bit4.TheVariants.{Zero, One, X, Z}
use Rattle.vbits.specs.Letters.{is_unknown, is_one, is_same, differ, not_letter, and_letter, or_letter, xor_letter, xnor_letter, join_letter}
use Rattle.vbits.proofs.Wordwise.{Word, Wordwise, word_a, word_b, word_c, word_d, word_m, and_words, or_words, xor_words, Agrees, AgreesOne, Tells, TellsOne, Denies}

-- the two words stand for the table
pub record Stands (table : Bit4 → Bit4 → Bit4) (value unknown : Word) : Type 0 where
  pub value_words : Wordwise value
  pub unknown_words : Wordwise unknown
  pub agrees : (x y : Bit4) → Agrees table value unknown x y

abbrev pub and_value : Word
and_value a b c d m = bit_and (bit_or a b) (bit_or c d)

abbrev pub and_unknown : Word
and_unknown a b c d m = bit_and (bit_and (bit_or a b) (bit_or c d)) (bit_or b d)

and_agrees : (x y : Bit4) → Agrees and_letter and_value and_unknown x y
and_agrees Zero y = elim y as (λ y. Agrees and_letter and_value and_unknown Zero y) [ Zero ↦ refl | One ↦ refl | X ↦ refl | Z ↦ refl ]
and_agrees One y = elim y as (λ y. Agrees and_letter and_value and_unknown One y) [ Zero ↦ refl | One ↦ refl | X ↦ refl | Z ↦ refl ]
and_agrees X y = elim y as (λ y. Agrees and_letter and_value and_unknown X y) [ Zero ↦ refl | One ↦ refl | X ↦ refl | Z ↦ refl ]
and_agrees Z y = elim y as (λ y. Agrees and_letter and_value and_unknown Z y) [ Zero ↦ refl | One ↦ refl | X ↦ refl | Z ↦ refl ]

pub and_stands : Stands and_letter and_value and_unknown
and_stands = record {
  value_words = and_words _ _ (or_words _ _ word_a word_b) (or_words _ _ word_c word_d);
  unknown_words = and_words _ _ (and_words _ _ (or_words _ _ word_a word_b) (or_words _ _ word_c word_d)) (or_words _ _ word_b word_d);
  agrees = and_agrees;
}

abbrev pub or_value : Word
or_value a b c d m = bit_or (bit_or (bit_or a b) c) d

abbrev pub or_unknown : Word
or_unknown a b c d m = bit_xor (bit_or (bit_or b d) (bit_or (bit_xor (bit_or a b) b) (bit_xor (bit_or c d) d))) (bit_or (bit_xor (bit_or a b) b) (bit_xor (bit_or c d) d))

or_agrees : (x y : Bit4) → Agrees or_letter or_value or_unknown x y
or_agrees Zero y = elim y as (λ y. Agrees or_letter or_value or_unknown Zero y) [ Zero ↦ refl | One ↦ refl | X ↦ refl | Z ↦ refl ]
or_agrees One y = elim y as (λ y. Agrees or_letter or_value or_unknown One y) [ Zero ↦ refl | One ↦ refl | X ↦ refl | Z ↦ refl ]
or_agrees X y = elim y as (λ y. Agrees or_letter or_value or_unknown X y) [ Zero ↦ refl | One ↦ refl | X ↦ refl | Z ↦ refl ]
or_agrees Z y = elim y as (λ y. Agrees or_letter or_value or_unknown Z y) [ Zero ↦ refl | One ↦ refl | X ↦ refl | Z ↦ refl ]

pub or_stands : Stands or_letter or_value or_unknown
or_stands = record {
  value_words = or_words _ _ (or_words _ _ (or_words _ _ word_a word_b) word_c) word_d;
  unknown_words = xor_words _ _ (or_words _ _ (or_words _ _ word_b word_d) (or_words _ _ (xor_words _ _ (or_words _ _ word_a word_b) word_b) (xor_words _ _ (or_words _ _ word_c word_d) word_d))) (or_words _ _ (xor_words _ _ (or_words _ _ word_a word_b) word_b) (xor_words _ _ (or_words _ _ word_c word_d) word_d));
  agrees = or_agrees;
}

abbrev pub xor_value : Word
xor_value a b c d m = bit_or (bit_xor a c) (bit_or b d)

abbrev pub xor_unknown : Word
xor_unknown a b c d m = bit_or b d

xor_agrees : (x y : Bit4) → Agrees xor_letter xor_value xor_unknown x y
xor_agrees Zero y = elim y as (λ y. Agrees xor_letter xor_value xor_unknown Zero y) [ Zero ↦ refl | One ↦ refl | X ↦ refl | Z ↦ refl ]
xor_agrees One y = elim y as (λ y. Agrees xor_letter xor_value xor_unknown One y) [ Zero ↦ refl | One ↦ refl | X ↦ refl | Z ↦ refl ]
xor_agrees X y = elim y as (λ y. Agrees xor_letter xor_value xor_unknown X y) [ Zero ↦ refl | One ↦ refl | X ↦ refl | Z ↦ refl ]
xor_agrees Z y = elim y as (λ y. Agrees xor_letter xor_value xor_unknown Z y) [ Zero ↦ refl | One ↦ refl | X ↦ refl | Z ↦ refl ]

pub xor_stands : Stands xor_letter xor_value xor_unknown
xor_stands = record {
  value_words = or_words _ _ (xor_words _ _ word_a word_c) (or_words _ _ word_b word_d);
  unknown_words = or_words _ _ word_b word_d;
  agrees = xor_agrees;
}

abbrev pub xnor_value : Word
xnor_value a b c d m = bit_or (bit_xor (bit_xor a c) m) (bit_or b d)

abbrev pub xnor_unknown : Word
xnor_unknown a b c d m = bit_or b d

xnor_agrees : (x y : Bit4) → Agrees xnor_letter xnor_value xnor_unknown x y
xnor_agrees Zero y = elim y as (λ y. Agrees xnor_letter xnor_value xnor_unknown Zero y) [ Zero ↦ refl | One ↦ refl | X ↦ refl | Z ↦ refl ]
xnor_agrees One y = elim y as (λ y. Agrees xnor_letter xnor_value xnor_unknown One y) [ Zero ↦ refl | One ↦ refl | X ↦ refl | Z ↦ refl ]
xnor_agrees X y = elim y as (λ y. Agrees xnor_letter xnor_value xnor_unknown X y) [ Zero ↦ refl | One ↦ refl | X ↦ refl | Z ↦ refl ]
xnor_agrees Z y = elim y as (λ y. Agrees xnor_letter xnor_value xnor_unknown Z y) [ Zero ↦ refl | One ↦ refl | X ↦ refl | Z ↦ refl ]

pub xnor_stands : Stands xnor_letter xnor_value xnor_unknown
xnor_stands = record {
  value_words = or_words _ _ (xor_words _ _ (xor_words _ _ word_a word_c) word_m) (or_words _ _ word_b word_d);
  unknown_words = or_words _ _ word_b word_d;
  agrees = xnor_agrees;
}

abbrev pub join_value : Word
join_value a b c d m = bit_or a (bit_or (bit_or (bit_xor a c) b) d)

abbrev pub join_unknown : Word
join_unknown a b c d m = bit_or (bit_or (bit_xor a c) b) d

join_agrees : (x y : Bit4) → Agrees join_letter join_value join_unknown x y
join_agrees Zero y = elim y as (λ y. Agrees join_letter join_value join_unknown Zero y) [ Zero ↦ refl | One ↦ refl | X ↦ refl | Z ↦ refl ]
join_agrees One y = elim y as (λ y. Agrees join_letter join_value join_unknown One y) [ Zero ↦ refl | One ↦ refl | X ↦ refl | Z ↦ refl ]
join_agrees X y = elim y as (λ y. Agrees join_letter join_value join_unknown X y) [ Zero ↦ refl | One ↦ refl | X ↦ refl | Z ↦ refl ]
join_agrees Z y = elim y as (λ y. Agrees join_letter join_value join_unknown Z y) [ Zero ↦ refl | One ↦ refl | X ↦ refl | Z ↦ refl ]

pub join_stands : Stands join_letter join_value join_unknown
join_stands = record {
  value_words = or_words _ _ word_a (or_words _ _ (or_words _ _ (xor_words _ _ word_a word_c) word_b) word_d);
  unknown_words = or_words _ _ (or_words _ _ (xor_words _ _ word_a word_c) word_b) word_d;
  agrees = join_agrees;
}

abbrev pub not_value : Word
not_value a b c d m = bit_or (bit_xor a m) b

abbrev pub not_unknown : Word
not_unknown a b c d m = b

pub not_value-words : Wordwise not_value
not_value-words = or_words _ _ (xor_words _ _ word_a word_m) word_b

pub not_agrees : (x : Bit4) → AgreesOne not_letter not_value not_unknown x
not_agrees Zero = refl
not_agrees One = refl
not_agrees X = refl
not_agrees Z = refl

-- ---- tests

abbrev pub differ_word : Word
differ_word a b c d m = bit_xor (bit_or (bit_xor a c) (bit_or b d)) (bit_or b d)

pub differ_word-words : Wordwise differ_word
differ_word-words = xor_words _ _ (or_words _ _ (xor_words _ _ word_a word_c) (or_words _ _ word_b word_d)) (or_words _ _ word_b word_d)

pub differ_word-tells : (x y : Bit4) → Tells differ differ_word x y
differ_word-tells Zero y = elim y as (λ y. Tells differ differ_word Zero y) [ Zero ↦ refl | One ↦ refl | X ↦ refl | Z ↦ refl ]
differ_word-tells One y = elim y as (λ y. Tells differ differ_word One y) [ Zero ↦ refl | One ↦ refl | X ↦ refl | Z ↦ refl ]
differ_word-tells X y = elim y as (λ y. Tells differ differ_word X y) [ Zero ↦ refl | One ↦ refl | X ↦ refl | Z ↦ refl ]
differ_word-tells Z y = elim y as (λ y. Tells differ differ_word Z y) [ Zero ↦ refl | One ↦ refl | X ↦ refl | Z ↦ refl ]

abbrev pub same_word : Word
same_word a b c d m = bit_or (bit_xor a c) (bit_xor b d)

pub same_word-words : Wordwise same_word
same_word-words = or_words _ _ (xor_words _ _ word_a word_c) (xor_words _ _ word_b word_d)

pub same_word-tells : (x y : Bit4) → Denies is_same same_word x y
same_word-tells Zero y = elim y as (λ y. Denies is_same same_word Zero y) [ Zero ↦ refl | One ↦ refl | X ↦ refl | Z ↦ refl ]
same_word-tells One y = elim y as (λ y. Denies is_same same_word One y) [ Zero ↦ refl | One ↦ refl | X ↦ refl | Z ↦ refl ]
same_word-tells X y = elim y as (λ y. Denies is_same same_word X y) [ Zero ↦ refl | One ↦ refl | X ↦ refl | Z ↦ refl ]
same_word-tells Z y = elim y as (λ y. Denies is_same same_word Z y) [ Zero ↦ refl | One ↦ refl | X ↦ refl | Z ↦ refl ]

abbrev pub unknown_word : Word
unknown_word a b c d m = b

pub unknown_word-tells : (x : Bit4) → TellsOne is_unknown unknown_word x
unknown_word-tells Zero = refl
unknown_word-tells One = refl
unknown_word-tells X = refl
unknown_word-tells Z = refl

abbrev pub one_word : Word
one_word a b c d m = bit_xor (bit_or a b) b

pub one_word-words : Wordwise one_word
one_word-words = xor_words _ _ (or_words _ _ word_a word_b) word_b

pub one_word-tells : (x : Bit4) → TellsOne is_one one_word x
one_word-tells Zero = refl
one_word-tells One = refl
one_word-tells X = refl
one_word-tells Z = refl

abbrev pub is_zero : Bit4 → Bool
is_zero Zero = true
is_zero One = false
is_zero X = false
is_zero Z = false

abbrev pub zero_word : Word
zero_word a b c d m = bit_xor (bit_or a b) m

pub zero_word-words : Wordwise zero_word
zero_word-words = xor_words _ _ (or_words _ _ word_a word_b) word_m

pub zero_word-tells : (x : Bit4) → TellsOne is_zero zero_word x
zero_word-tells Zero = refl
zero_word-tells One = refl
zero_word-tells X = refl
zero_word-tells Z = refl
