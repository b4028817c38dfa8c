-- The words of the lines of a header.
use Rattle.std.proofs.Common.{◌≡◌, ℕ, suc, ◌<◌, ◌≤◌, ◌^◌, true, List, [], ◌∷◌, ◌++◌, length, get_or, Option, Some, None, refl, ap, sym, ◌∙◌, subst, arith, append_assoc}
use Rattle.std.specs.Prelude.{codes, decimal, nat_le}
use Rattle.std.specs.Char.{is_ascii_digit}
use Rattle.std.specs.Str.{all_ascii_digits}
use Rattle.std.specs.Str.Parse.{digits_value}
use Rattle.std.proofs.lemmas.Bool.{leb-true}
use Rattle.basis.proofs.Bools.{and_left}
use Rattle.std.proofs.lemmas.Fmt.{decimal-digits_value, decimal_nonempty}
use Rattle.basis.specs.declared.timescale.Span.{Span}
use Rattle.basis.specs.declared.timescale.Count.{Count}
use Rattle.basis.specs.declared.timescale.Count.TheVariants.{One, Ten, Hundred}
use Rattle.basis.specs.declared.timescale.Unit.{Unit as TimeUnit}
use Rattle.basis.specs.declared.timescale.Unit.TheVariants.{Second, Millisecond, Microsecond, Nanosecond, Picosecond, Femtosecond}
use Rattle.basis.specs.Timescales.{count_number, unit_word}
use Rattle.basis.proofs.Decimals.{decimal_digits}
use Rattle.basis.proofs.Digits.{decimal_numerals}
use Rattle.vdesign.specs.declared.expression.Bounds.{Bounds}
use Rattle.vdesign.specs.declared.design.Kind.{Kind}
use Rattle.vdesign.specs.declared.design.Kind.TheVariants.{Reg, Integer, Wire, Time}
use Rattle.vdesign.specs.Design.{Variable}
use Rattle.vcd_read.specs.Words.{Text, words_of}
use Rattle.vcd_read.specs.Timescale.{count_of, span_of_parts, unit_of}
use Rattle.vcd_read.specs.Declarations.{HaveNoEnd, IsNoEnd, declared_variable, end_word, Declares, note, scope, timescale, upscope, variable}
use Rattle.vcd_read.specs.Declarations as declarations
use Rattle.vcd_text.specs.DumpText.{bounds_text, closings, code, identifier, kind_word, line, scope_line, timescale_line, variable_line, variable_lines}
use Rattle.vcd_law.specs.Headers.{AreNamed, AreSmall, IsNamed, IsWord, Plain, all_seen, inmost, inner, own_name, variable_seen}
use Rattle.vcd_law.proofs.WordsBack.{decimal_is, plain_code, plain_numbers, plain_word, word_comes}
use Rattle.vcd_law.proofs.PartsBack.{code_some}

-- ---- words

-- the text is these words, whatever follows
abbrev pub AreOf : List ℕ → List Text → Type 0
AreOf text ws = (rest : List ℕ) → words_of (text ++ rest) ≡ ws ++ words_of rest

pub words_then : (s t : List ℕ) (us vs : List Text) → AreOf s us → AreOf t vs → AreOf (s ++ t) (us ++ vs)
words_then s t us vs x y rest =
    ap words_of (append_assoc s t rest) ∙ x (t ++ rest) ∙ ap (λ (ws : List Text). us ++ ws) (y rest) ∙ sym (append_assoc us vs (words_of rest))

-- a word and a blank more
word_more : (text : List ℕ) (us : List Text) (w : Text) (c : ℕ) (cs : Text) → w ≡ c ∷ cs → Plain w → AreOf text us → AreOf (text ++ w ++ codes " ") (us ++ w ∷ [])
word_more text us w c cs is plain x =
    subst (λ (v : Text). AreOf (text ++ v ++ codes " ") (us ++ v ∷ [])) (sym is) (λ rest.
    ap words_of (append_assoc (text ++ c ∷ cs) (32 ∷ []) rest ∙ append_assoc text (c ∷ cs) (32 ∷ rest)) ∙ x ((c ∷ cs) ++ 32 ∷ rest)
    ∙ ap (λ (ws : List Text). us ++ ws) (word_comes c cs 32 rest (subst Plain is plain) refl) ∙ sym (append_assoc us ((c ∷ cs) ∷ []) (words_of rest)))

plain_both : (a b : Text) → Plain a → Plain b → Plain (a ++ b)
plain_both [] b p q = q
plain_both (c ∷ cs) b p q = (p.0, plain_both cs b p.1 q)

some_letter : (w : Text) → 0 < length w → (c : ℕ) × (cs : Text) × (w ≡ c ∷ cs)
some_letter [] lt = absurd (omega arith)
some_letter (c ∷ cs) lt = (c, cs, refl)

word_form : (w : Text) → IsWord w → (c : ℕ) × (cs : Text) × (w ≡ c ∷ cs)
word_form [] is = absurd is
word_form (c ∷ cs) is = (c, cs, refl)

word_plain : (w : Text) → IsWord w → Plain w
word_plain [] is = absurd is
word_plain (c ∷ cs) is = is

number_more : (text : List ℕ) (us : List Text) (n : ℕ) → n < 2 ^ 64 → AreOf text us → AreOf (text ++ decimal n ++ codes " ") (us ++ decimal n ∷ [])
number_more text us n small x =
    let form = some_letter (decimal n) (decimal_nonempty n small) in
    word_more text us (decimal n) form.0 form.1 form.2 (plain_numbers (decimal n) (decimal_digits n small)) x

-- ---- a variable

kind_some : (kind : Kind) → (c : ℕ) × (cs : Text) × (kind_word kind ≡ c ∷ cs) × Plain (kind_word kind)
kind_some Reg = (114, codes "eg", refl, plain_word (codes "reg") refl)
kind_some Integer = (105, codes "nteger", refl, plain_word (codes "integer") refl)
kind_some Time = (116, codes "ime", refl, plain_word (codes "time") refl)
kind_some Wire = (119, codes "ire", refl, plain_word (codes "wire") refl)

-- the range as a word
abbrev range_text : Bounds → Text
range_text bounds = 91 ∷ (decimal bounds.left ++ codes ":" ++ decimal bounds.right ++ codes "]")

abbrev range_words : Option Bounds → List Text
range_words None = []
range_words (Some bounds) = range_text bounds ∷ []

range_plain : (bounds : Bounds) → AreSmall (Some bounds) → Plain (range_text bounds)
range_plain bounds small = (
  omega arith,
  plain_both (decimal bounds.left ++ codes ":" ++ decimal bounds.right) (codes "]")
      (plain_both (decimal bounds.left ++ codes ":") (decimal bounds.right)
      (plain_both (decimal bounds.left) (codes ":") (plain_numbers (decimal bounds.left) (decimal_digits bounds.left small.0)) (plain_word (codes ":") refl))
      (plain_numbers (decimal bounds.right) (decimal_digits bounds.right small.1))) (plain_word (codes "]") refl),
)

no_end_range : (bounds : Option Bounds) → HaveNoEnd (range_words bounds)
no_end_range None = tt
no_end_range (Some bounds) = (λ same. let first : 91 ≡ 36 = ap (λ (w : Text). get_or w 0 0) same in omega arith, tt)

-- an identifier is no `$end`: as a name that would be escaped
no_end_name : (v : Variable) → declarations.name_of (identifier (own_name v)) ≡ own_name v → IsNoEnd (identifier (own_name v))
no_end_name v whole same =
    let own : own_name v ≡ end_word = sym whole ∙ ap declarations.name_of same in
    let first : ◌≡◌ {A = ℕ} 36 92 = ap (λ (w : Text). get_or w 0 0) (sym same ∙ ap identifier own) in
    omega arith

-- the name, its range, and the end
tail_words : (w : Text) (c : ℕ) (cs : Text) (bounds : Option Bounds) → w ≡ c ∷ cs → Plain w → AreSmall bounds → (rest : List ℕ) →
    words_of (w ++ (bounds_text bounds ++ (codes " $end" ++ 10 ∷ rest))) ≡ w ∷ (range_words bounds ++ end_word ∷ words_of rest)
tail_words w c cs None is plain small rest =
    subst (λ (v : Text). words_of (v ++ (codes " $end" ++ 10 ∷ rest)) ≡ v ∷ end_word ∷ words_of rest) (sym is)
    (word_comes c cs 32 (codes "$end" ++ 10 ∷ rest) (subst Plain is plain) refl)
tail_words w c cs (Some bounds) is plain small rest =
    let behind : List ℕ = codes "$end" ++ 10 ∷ rest in
    let range : Text = decimal bounds.left ++ codes ":" ++ decimal bounds.right ++ codes "]" in
    subst (λ (v : Text). words_of (v ++ (32 ∷ ((91 ∷ range) ++ 32 ∷ behind))) ≡ v ∷ (91 ∷ range) ∷ end_word ∷ words_of rest) (sym is)
    (word_comes c cs 32 ((91 ∷ range) ++ 32 ∷ behind) (subst Plain is plain) refl
    ∙ ap (λ (ws : List Text). (c ∷ cs) ∷ ws) (word_comes 91 range 32 behind (range_plain bounds small) refl))

abbrev variable_words : ℕ → Variable → List Text
variable_words n v = codes "$var" ∷ kind_word v.kind ∷ decimal v.length ∷ code n ∷ identifier (own_name v) ∷ (range_words v.bounds ++ end_word ∷ [])

variable_of : (n : ℕ) (prefix : Text) (v : Variable) → IsNamed prefix v → AreOf (variable_line n v) (variable_words n v)
variable_of n prefix v named rest =
    let kind = kind_some v.kind in
    let name = code_some n in
    let own = word_form (identifier (own_name v)) named.word in
    let first : List ℕ = codes "$var " ++ kind_word v.kind ++ codes " " in
    let second : List ℕ = first ++ decimal v.length ++ codes " " in
    let head : List ℕ = second ++ code n ++ codes " " in
    let behind : List ℕ = codes " $end" ++ 10 ∷ rest in
    let one : AreOf first (codes "$var" ∷ kind_word v.kind ∷ []) =
    word_more (codes "$var ") (codes "$var" ∷ []) (kind_word v.kind) kind.0 kind.1 kind.2 kind.3 (λ rest. refl) in
    let two : AreOf second (codes "$var" ∷ kind_word v.kind ∷ decimal v.length ∷ []) =
    number_more first (codes "$var" ∷ kind_word v.kind ∷ []) v.length named.length one in
    let three : AreOf head (codes "$var" ∷ kind_word v.kind ∷ decimal v.length ∷ code n ∷ []) =
    word_more second (codes "$var" ∷ kind_word v.kind ∷ decimal v.length ∷ []) (code n) name.0 name.1 name.2 (plain_code n) two in
    let text : variable_line n v ++ rest ≡ head ++ (identifier (own_name v) ++ (bounds_text v.bounds ++ behind)) =
    append_assoc (head ++ identifier (own_name v) ++ bounds_text v.bounds ++ codes " $end") (10 ∷ []) rest
    ∙ append_assoc (head ++ identifier (own_name v) ++ bounds_text v.bounds) (codes " $end") (10 ∷ rest)
    ∙ append_assoc (head ++ identifier (own_name v)) (bounds_text v.bounds) behind
    ∙ append_assoc head (identifier (own_name v)) (bounds_text v.bounds ++ behind) in
    ap words_of text ∙ three (identifier (own_name v) ++ (bounds_text v.bounds ++ behind))
    ∙ ap (λ (ws : List Text). codes "$var" ∷ kind_word v.kind ∷ decimal v.length ∷ code n ∷ ws)
    (tail_words (identifier (own_name v)) own.0 own.1 v.bounds own.2 (word_plain (identifier (own_name v)) named.word) named.bounds rest
    ∙ ap (λ (ws : List Text). identifier (own_name v) ∷ ws) (sym (append_assoc (range_words v.bounds) (end_word ∷ []) (words_of rest))))

-- ---- what declarations lead to

-- what names begin with round the innermost of scopes, and round those
abbrev pub outer : List Text → List Text
outer [] = []
outer (prefix ∷ prefixes) = inmost prefixes ∷ outer prefixes

-- the text is declarations that lead from one unit of times to another, and from these open scopes to those, and declare these variables
pub record LeadsBy (from to : Option Span) (old new : List Text) (text : List ℕ) (variables : List declarations.Variable) : Type 0 where
  pub words : List Text
  pub are : AreOf text words
  pub goes_on : (rest : List Text) (unit : Option Span) (more : List declarations.Variable) → Declares to (inmost new) (outer new) rest unit more →
      Declares from (inmost old) (outer old) (words ++ rest) unit (variables ++ more)

-- whatever the unit is
abbrev pub Leads : List Text → List Text → List ℕ → List declarations.Variable → Type 0
Leads old new text variables = (unit : Option Span) → LeadsBy unit unit old new text variables

pub lead_none : (open_now : List Text) → Leads open_now open_now [] []
lead_none open_now unit = record { words = []; are = λ rest. refl; goes_on = λ rest unit more d. d }

pub lead_by : (o p q : Option Span) (a b c : List Text) (s t : List ℕ) (us vs : List declarations.Variable) → LeadsBy o p a b s us → LeadsBy p q b c t vs →
    LeadsBy o q a c (s ++ t) (us ++ vs)
lead_by o p q a b c s t us vs x y = record {
  words = x.words ++ y.words;
  are = words_then s t x.words y.words x.are y.are;
  goes_on = λ rest unit more d.
      subst (λ (ws : List Text). Declares o (inmost a) (outer a) ws unit ((us ++ vs) ++ more)) (sym (append_assoc x.words y.words rest))
      (subst (λ (list : List declarations.Variable). Declares o (inmost a) (outer a) (x.words ++ (y.words ++ rest)) unit list) (sym (append_assoc us vs more))
      (x.goes_on (y.words ++ rest) unit (vs ++ more) (y.goes_on rest unit more d)));
}

pub lead_then : (a b c : List Text) (s t : List ℕ) (us vs : List declarations.Variable) → Leads a b s us → Leads b c t vs → Leads a c (s ++ t) (us ++ vs)
lead_then a b c s t us vs x y unit = lead_by unit unit unit a b c s t us vs (x unit) (y unit)

pub lead_closings : (shut left : List Text) → Leads (shut ++ left) left (closings (length shut)) []
lead_closings [] left = lead_none left
lead_closings (prefix ∷ shut) left =
    lead_then (prefix ∷ (shut ++ left)) (shut ++ left) left (line (codes "$upscope $end")) (closings (length shut)) [] []
    (λ before. record {
      words = codes "$upscope" ∷ end_word ∷ [];
      are = λ rest. refl;
      goes_on = λ rest unit more d. upscope before unit (inmost (shut ++ left)) prefix (outer (shut ++ left)) rest more d;
    }) (lead_closings shut left)

pub lead_scope : (prefixes : List Text) (name : Text) → IsWord name → Leads prefixes (inner prefixes name ∷ prefixes) (scope_line name) []
lead_scope prefixes name word before =
    let form = word_form name word in
    record {
      words = codes "$scope" ∷ codes "module" ∷ name ∷ end_word ∷ [];
      are = λ rest.
          let text : scope_line name ++ rest ≡ codes "$scope module " ++ (name ++ (codes " $end" ++ 10 ∷ rest)) =
          append_assoc (codes "$scope module " ++ name ++ codes " $end") (10 ∷ []) rest
          ∙ append_assoc (codes "$scope module " ++ name) (codes " $end") (10 ∷ rest)
          ∙ append_assoc (codes "$scope module ") name (codes " $end" ++ 10 ∷ rest) in
          ap words_of text ∙ ap (λ (ws : List Text). codes "$scope" ∷ codes "module" ∷ ws) (tail_words name form.0 form.1 None form.2 (word_plain name word) tt rest);
      goes_on = λ rest unit more d. scope before unit (inmost prefixes) (outer prefixes) (codes "module") name rest more d;
    }

lead_variable : (prefixes : List Text) (n : ℕ) (v : Variable) → IsNamed (inmost prefixes) v → Leads prefixes prefixes (variable_line n v) (variable_seen n v ∷ [])
lead_variable prefixes n v named before = record {
  words = variable_words n v;
  are = variable_of n (inmost prefixes) v named;
  goes_on = λ rest unit more d.
      let range : List Text = range_words v.bounds in
      let name : inmost prefixes ++ declarations.name_of (identifier (own_name v)) ≡ v.name = ap (λ (own : Text). inmost prefixes ++ own) named.whole ∙ sym named.name in
      subst (λ (text : Text). Declares before (inmost prefixes) (outer prefixes) (variable_words n v ++ rest) unit
      (record { name = text; width = v.length; code = code n } ∷ more)) name
      (subst (λ (ws : List Text). Declares before (inmost prefixes) (outer prefixes)
      (codes "$var" ∷ kind_word v.kind ∷ decimal v.length ∷ code n ∷ identifier (own_name v) ∷ ws) unit
      (declared_variable (inmost prefixes) (identifier (own_name v)) v.length (code n) ∷ more)) (sym (append_assoc range (end_word ∷ []) rest))
      (variable before unit (inmost prefixes) (outer prefixes) (kind_word v.kind) (decimal v.length) (code n) (identifier (own_name v)) range rest v.length more
      (decimal_is v.length named.length) (no_end_name v named.whole) (no_end_range v.bounds) d));
}

pub lead_variables : (prefixes : List Text) (n : ℕ) (vs : List Variable) → AreNamed (inmost prefixes) vs → Leads prefixes prefixes (variable_lines n vs) (all_seen n vs)
lead_variables prefixes n [] named = lead_none prefixes
lead_variables prefixes n (v ∷ vs) named =
    lead_then prefixes prefixes prefixes (variable_line n v) (variable_lines (suc n) vs) (variable_seen n v ∷ []) (all_seen (suc n) vs)
    (lead_variable prefixes n v named.0) (lead_variables prefixes (suc n) vs named.1)

-- ---- notes

pub lead_version : Leads [] [] (line (codes "$version vrace $end")) []
lead_version before = record {
  words = codes "$version" ∷ codes "vrace" ∷ end_word ∷ [];
  are = λ rest. refl;
  goes_on = λ rest unit more d. note before unit [] [] (codes "$version") (codes "vrace" ∷ []) rest more refl
      (λ same. let first : 118 ≡ 36 = ap (λ (w : Text). get_or w 0 0) same in omega arith, tt) d;
}

count_small : (count : Count) → count_number count < 2 ^ 64
count_small One = omega arith
count_small Ten = omega arith
count_small Hundred = omega arith

-- it is no end
abbrev Fine : Text → Type 0
Fine w = (get_or w 0 0 ≡ 36 → ⊥) × Plain w × ((c : ℕ) × (cs : Text) × (w ≡ c ∷ cs))

unit_fine : (unit : TimeUnit) → Fine (unit_word unit)
unit_fine Second = (λ same. omega arith, plain_word (codes "s") refl, (115, [], refl))
unit_fine Millisecond = (λ same. omega arith, plain_word (codes "ms") refl, (109, codes "s", refl))
unit_fine Microsecond = (λ same. omega arith, plain_word (codes "us") refl, (117, codes "s", refl))
unit_fine Nanosecond = (λ same. omega arith, plain_word (codes "ns") refl, (110, codes "s", refl))
unit_fine Picosecond = (λ same. omega arith, plain_word (codes "ps") refl, (112, codes "s", refl))
unit_fine Femtosecond = (λ same. omega arith, plain_word (codes "fs") refl, (102, codes "s", refl))

-- digits are no end
digits_fine : (ds : Text) → all_ascii_digits ds ≡ true → 0 < length ds → get_or ds 0 0 ≡ 36 → ⊥
digits_fine [] digits some same = omega arith
digits_fine (c ∷ cs) digits some same =
    let first : is_ascii_digit c ≡ true = and_left (is_ascii_digit c) (all_ascii_digits cs) digits in
    let low : 48 ≤ c = leb-true 48 c (and_left (nat_le 48 c) (nat_le c 57) first) in
    omega arith

count_fine : (count : Count) → get_or (decimal (count_number count)) 0 0 ≡ 36 → ⊥
count_fine count =
    digits_fine (decimal (count_number count)) (decimal_digits (count_number count) (count_small count)) (decimal_nonempty (count_number count) (count_small count))

-- the decimal of what digits are worth
decimal_of : (ds : Text) → all_ascii_digits ds ≡ true → 0 < length ds → (get_or ds 0 0 ≡ 48 → ⊥) → digits_value 10 ds < 2 ^ 64 → decimal (digits_value 10 ds) ≡ ds
decimal_of ds digits some first small = decimal-digits_value decimal_numerals ds digits some (λ is. absurd (first is)) small

-- its number and its unit are read
count_back : (count : Count) → count_of (decimal (count_number count)) ≡ Some count
count_back One =
    let some : 0 < 1 = omega arith in
    let small : 1 < 2 ^ 64 = omega arith in
    ap count_of (decimal_of (49 ∷ []) refl some (λ (first : 49 ≡ 48). omega arith) small)
count_back Ten =
    let some : 0 < 2 = omega arith in
    let small : 10 < 2 ^ 64 = omega arith in
    ap count_of (decimal_of (49 ∷ 48 ∷ []) refl some (λ (first : 49 ≡ 48). omega arith) small)
count_back Hundred =
    let some : 0 < 3 = omega arith in
    let small : 100 < 2 ^ 64 = omega arith in
    ap count_of (decimal_of (49 ∷ 48 ∷ 48 ∷ []) refl some (λ (first : 49 ≡ 48). omega arith) small)

unit_back : (unit : TimeUnit) → unit_of (unit_word unit) ≡ Some unit
unit_back Second = refl
unit_back Millisecond = refl
unit_back Microsecond = refl
unit_back Nanosecond = refl
unit_back Picosecond = refl
unit_back Femtosecond = refl

pub lead_timescale : (span : Span) → LeadsBy None (Some span) [] [] (timescale_line span) []
lead_timescale span =
    let number : Text = decimal (count_number span.count) in
    let word : Text = unit_word span.unit in
    let fine = unit_fine span.unit in
    let head : List ℕ = codes "$timescale " ++ number ++ codes " " in
    let one : AreOf head (codes "$timescale" ∷ number ∷ []) =
    number_more (codes "$timescale ") (codes "$timescale" ∷ []) (count_number span.count) (count_small span.count) (λ rest. refl) in
    record {
      words = codes "$timescale" ∷ number ∷ word ∷ end_word ∷ [];
      are = λ rest.
          let text : timescale_line span ++ rest ≡ head ++ (word ++ (codes " $end" ++ 10 ∷ rest)) =
          append_assoc (head ++ word ++ codes " $end") (10 ∷ []) rest ∙ append_assoc (head ++ word) (codes " $end") (10 ∷ rest)
          ∙ append_assoc head word (codes " $end" ++ 10 ∷ rest) in
          ap words_of text ∙ one (word ++ (codes " $end" ++ 10 ∷ rest))
          ∙ ap (λ (ws : List Text). codes "$timescale" ∷ number ∷ ws) (tail_words word fine.2.0 fine.2.1 None fine.2.2 fine.1 tt rest);
      goes_on = λ rest unit more d. timescale unit [] [] (number ∷ word ∷ []) rest span more
          (λ same. count_fine span.count (ap (λ (w : Text). get_or w 0 0) same), (λ same. fine.0 (ap (λ (w : Text). get_or w 0 0) same), tt))
          (λ i. span_of_parts (count_back span.count i) (unit_back span.unit i)) d;
    }
