-- The modules of a text by name, the names that have instances, and the only module that has none.
use Rattle.std.proofs.Common.{◌≡◌, ℕ, zero, suc, ◌+◌, ◌≤◌, arith, Bool, true, false, cond, ◌||◌, not, if◌then◌else◌, nat_lt, List, [], ◌∷◌, ◌++◌, map, filter, length, position, slice_get, Bor, Option, Some, None, refl, sym, ap, ◌∙◌, true≢false, append_assoc}
use Rattle.std.specs.Prelude.{option_and_then, option_map}
use Rattle.std.specs.List.{prefix_len, position_or_len}
use Rattle.std.specs.Option.{option_copied}
use Rattle.std.specs.Str.{bytes_eq}
use Rattle.std.specs.Cmp.Lexicographic.{nat_list_eq_equiv}
use Rattle.std.proofs.lemmas.List.{length-map}
use Rattle.std.proofs.lemmas.Bool.Decides.{nat_tests}
use Rattle.std.proofs.lemmas.List.Folds.{list_any-append, find_at}
use Rattle.std.proofs.lemmas.Slice.Eq.{bytes_eq-Decides}
use Rattle.vwords.specs.Words.{Text}
use Rattle.vast.specs.NumberedWords.{Word}
use Rattle.vast.specs.NumberedModules.{ModuleTree, SourceTree}
use Rattle.vast.specs.NumberedTrees.{module_tree}
use Rattle.vast.specs.declared.module.ModuleTree.{ModuleTree as Parsed}
use Rattle.vmodules.specs.Names.{is_declared, letters_of}
use Rattle.vmodules.specs.Hierarchy.{module_names, module_of, instantiated_names, roots, only_of, second_of}
use Rattle.vmodules.specs.Inner.{Units, units_tree, unit_tree, second_behind, HoldSame}

-- ---- modules by name

-- what stands at a place, where the list is long enough
slice_within : {A : Type 0} (n : ℕ) (xs : List A) → option_and_then (slice_get xs) (cond (nat_lt n (length xs)) (Some n) None) ≡ slice_get xs n
slice_within n xs = by (nat_lt n (length xs)) refl
  where
    beyond : {A : Type 0} (n : ℕ) (xs : List A) → length xs ≤ n → None ≡ slice_get xs n
    beyond zero [] le = refl
    beyond (suc n) [] le = refl
    beyond zero (x ∷ xs) le = absurd (omega (arith, le))
    beyond (suc n) (x ∷ xs) le = beyond n xs (omega (arith, le))

    by : (b : Bool) → nat_lt n (length xs) ≡ b → option_and_then (slice_get xs) (cond b (Some n) None) ≡ slice_get xs n
    by true e = refl
    by false e = beyond n xs (grind (arith, nat_tests))

slice_map : {A B : Type 0} (f : A → B) (xs : List A) (i : ℕ) → option_map f (slice_get xs i) ≡ slice_get (map f xs) i
slice_map f [] zero = refl
slice_map f [] (suc i) = refl
slice_map f (x ∷ xs) zero = refl
slice_map f (x ∷ xs) (suc i) = slice_map f xs i

prefix_names : (letters : Text) (modules : SourceTree) → prefix_len (λ t. not (bytes_eq letters t)) (letters_of (module_names modules)) ≡ position_or_len (λ (m : ModuleTree). bytes_eq m.name.letters letters) modules
prefix_names letters [] = refl
prefix_names letters (m ∷ ms) = λ i. cond (not (nat_list_eq_equiv.symm letters m.name.letters i)) (1 + prefix_names letters ms i) 0

-- the first of a name stands at the first place of that name
module_at : (letters : Text) (modules : SourceTree) → option_and_then (slice_get modules) (position (bytes_eq letters) (letters_of (module_names modules))) ≡ module_of modules letters
module_at letters modules =
    ap (option_and_then (slice_get modules)) (λ i. found (prefix_names letters modules i) (count i))
    ∙ slice_within (position_or_len (λ (m : ModuleTree). bytes_eq m.name.letters letters) modules) modules
    ∙ sym (find_at (λ (m : ModuleTree). bytes_eq m.name.letters letters) modules)
  where
    found : ℕ → ℕ → Option ℕ
    found n m = cond (nat_lt n m) (Some n) None

    count : length (letters_of (module_names modules)) ≡ length modules
    count = length-map (module_names modules) (λ (w : Word). w.letters) ∙ length-map modules (λ (m : ModuleTree). m.name)

pub found_unit : (units : Units) (names : List Text) (name : Text) (place : Option ℕ) → names ≡ letters_of (module_names (units_tree units)) → place ≡ position (bytes_eq name) names →
    option_and_then (slice_get (units_tree units)) place ≡ module_of (units_tree units) name
found_unit units names name place are is =
    ap (option_and_then (slice_get (units_tree units))) (is ∙ ap (position (bytes_eq name)) are) ∙ module_at name (units_tree units)

pub unit_there : (words : List Text) (list : List Parsed) (i : ℕ) (unit : Option (Bor Parsed)) → option_copied unit ≡ slice_get list i → unit_tree words unit ≡ slice_get (map (module_tree words) list) i
unit_there words list i unit is = copied unit ∙ ap (option_map (module_tree words)) is ∙ slice_map (module_tree words) list i
  where
    copied : (u : Option (Bor Parsed)) → unit_tree words u ≡ option_map (module_tree words) (option_copied u)
    copied None = refl
    copied (Some u) = refl

-- ---- lists that hold the same names

pub append_nil : {A : Type 0} (xs : List A) → xs ++ [] ≡ xs
append_nil [] = refl
append_nil (x ∷ xs) = ap (λ l. x ∷ l) (append_nil xs)

pub same_front : (xs ys rest : List Text) → HoldSame xs ys → HoldSame (xs ++ rest) (ys ++ rest)
same_front xs ys rest same text =
    list_any-append (bytes_eq text) xs rest
    ∙ ap (λ b. b || is_declared rest text) (same text)
    ∙ sym (list_any-append (bytes_eq text) ys rest)

-- a name that is added where it is new
pub holds_added : (old now : List Text) (name : Text) (new : Bool) → new ≡ not (is_declared old name) → now ≡ (if new then old ++ name ∷ [] else old) →
    HoldSame now (old ++ name ∷ [])
holds_added old now name true is grows text = ap (λ l. is_declared l text) grows
holds_added old now name false is grows text =
    ap (λ l. is_declared l text) grows
    ∙ by (bytes_eq text name) refl
    ∙ sym (list_any-append (bytes_eq text) old (name ∷ []))
  where
    there : (b : Bool) → false ≡ not b → b ≡ true
    there true e = refl
    there false e = absurd (true≢false (sym e))

    by : (b : Bool) → bytes_eq text name ≡ b → is_declared old text ≡ (is_declared old text || (bytes_eq text name || false))
    by true e =
        let among : is_declared old text ≡ true = ap (is_declared old) ((bytes_eq-Decides text name).0 e) ∙ there (is_declared old name) is in
        among ∙ sym (ap (λ b. b || (bytes_eq text name || false)) among)
    by false e = sym (ap (λ b. is_declared old text || (b || false)) e ∙ or_nothing (is_declared old text))
      where
        or_nothing : (b : Bool) → (b || false) ≡ b
        or_nothing true = refl
        or_nothing false = refl

-- names of one part more
pub holds_step : (done next piece rest left all : List Text) → left ≡ piece ++ rest → HoldSame next (done ++ piece) → HoldSame (done ++ left) all → HoldSame (next ++ rest) all
holds_step done next piece rest left all opens new same text =
    same_front next (done ++ piece) rest new text
    ∙ ap (λ l. is_declared l text) (append_assoc done piece rest ∙ ap (λ l. done ++ l) (sym opens))
    ∙ same text

pub holds_all : (done left all : List Text) → left ≡ [] → HoldSame (done ++ left) all → HoldSame done all
holds_all done left all none same text = ap (λ l. is_declared l text) (sym (append_nil done) ∙ ap (λ l. done ++ l) (sym none)) ∙ same text

-- ---- the only module outside

pub outside_same : (xs ys : List Text) (modules : List ModuleTree) → HoldSame xs ys →
    filter (λ m. not (is_declared xs m.name.letters)) modules ≡ filter (λ m. not (is_declared ys m.name.letters)) modules
outside_same xs ys modules same = λ i. filter (λ m. not (same m.name.letters i)) modules

-- the only module outside the names that have instances
pub root_is : (words same_words : List Text) (list same_list : List Parsed) (names : List Text) (unit : Option (Bor Parsed)) → same_words ≡ words → same_list ≡ list →
    HoldSame names (instantiated_names (map (module_tree same_words) same_list)) →
    unit_tree same_words unit ≡ only_of (filter (λ m. not (is_declared names m.name.letters)) (map (module_tree same_words) same_list)) →
    unit_tree words unit ≡ only_of (roots (map (module_tree words) list))
root_is words same_words list same_list names unit e d same is =
    sym (ap (λ (w : List Text). unit_tree w unit) e)
    ∙ is
    ∙ ap only_of (outside_same names (instantiated_names (map (module_tree same_words) same_list)) (map (module_tree same_words) same_list) same)
    ∙ (λ i. only_of (roots (map (module_tree (e i)) (d i))))

-- ---- the second module outside

-- a module that is outside, and one that isn't
pub one_outside : (m : ModuleTree) (more : List ModuleTree) → second_behind false (m ∷ more) ≡ second_behind true more
one_outside m [] = refl
one_outside m (other ∷ more) = refl

pub kept_outside : (names : List Text) (m : ModuleTree) (more : List ModuleTree) → is_declared names m.name.letters ≡ false →
    filter (λ m. not (is_declared names m.name.letters)) (m ∷ more) ≡ m ∷ filter (λ m. not (is_declared names m.name.letters)) more
kept_outside names m more e = ap (λ b. if not b then m ∷ rest else rest) e
  where
    rest : List ModuleTree
    rest = filter (λ m. not (is_declared names m.name.letters)) more

pub left_inside : (names : List Text) (m : ModuleTree) (more : List ModuleTree) → is_declared names m.name.letters ≡ true →
    filter (λ m. not (is_declared names m.name.letters)) (m ∷ more) ≡ filter (λ m. not (is_declared names m.name.letters)) more
left_inside names m more e = ap (λ b. if not b then m ∷ rest else rest) e
  where
    rest : List ModuleTree
    rest = filter (λ m. not (is_declared names m.name.letters)) more

-- the second module outside the names that have instances
pub second_is : (words same_words : List Text) (list same_list : List Parsed) (names : List Text) (at : Option ℕ) → same_words ≡ words → same_list ≡ list →
    HoldSame names (instantiated_names (map (module_tree same_words) same_list)) →
    at ≡ option_map (λ (w : Word). w.number) (second_of (filter (λ m. not (is_declared names m.name.letters)) (map (module_tree same_words) same_list))) →
    at ≡ option_map (λ (w : Word). w.number) (second_of (roots (map (module_tree words) list)))
second_is words same_words list same_list names at e d same is =
    is
    ∙ ap (λ l. option_map (λ (w : Word). w.number) (second_of l)) (outside_same names (instantiated_names (map (module_tree same_words) same_list)) (map (module_tree same_words) same_list) same)
    ∙ (λ i. option_map (λ (w : Word). w.number) (second_of (roots (map (module_tree (e i)) (d i)))))
