-- Names with what is connected to them.
use Rattle.std.proofs.Common.{◌≡◌, ◌<◌, ◌≤◌, ℕ, zero, suc, ◌+◌, Bool, true, false, cond, ◌||◌, not, if◌then◌else◌, List, [], ◌∷◌, ◌++◌, map, length, take, drop, slice_get, get_or, Bor, Option, Some, None, is_some, refl, sym, ap, ◌∙◌, true≢false, append_assoc, add-one}
use Rattle.std.specs.Prelude.{option_and_then}
use Rattle.std.specs.List.{find}
use Rattle.std.specs.Map.{lookup}
use Rattle.std.specs.Str.{bytes_eq}
use Rattle.std.specs.Cmp.Lexicographic.{nat_list_eq_equiv}
use Rattle.std.proofs.lemmas.List.{map-append, drop_all}
use Rattle.std.proofs.lemmas.Option.{same_Some}
use Rattle.basis.proofs.Lists.{drop_at_place}
use Rattle.vwords.specs.Words.{Text}
use Rattle.vast.specs.NumberedWords.{Word}
use Rattle.vast.specs.NumberedExpressions.{ExpressionTree}
use Rattle.vast.specs.NumberedTrees.{tree_of}
use Rattle.vast.specs.NumberedModules.{ConnectionTree}
use Rattle.vast.specs.declared.expression.Expression.{Expression}
use Rattle.vmodules.specs.Names.{is_declared, has_double}
use Rattle.vmodules.specs.Connected.{NamedConnection, named_connection, by_places, misfit_behind, value_for}
use Rattle.vmodules.specs.Inner.{ConnectionEntry, entry_tree, entries_tree, entry_names, value_tree}
use Rattle.vmodules.proofs.NameLemmas.{doubles}
use Rattle.vmodules.proofs.ListLemmas.{drop_at}
use Rattle.vmodules.proofs.HierarchyLemmas.{append_nil}

abbrev pub Entry : Type 0
Entry = Bor Text × Option (Bor Expression)

abbrev pub pairs : List Entry → List ConnectionEntry
pairs = map (λ entry. (entry.0.now, entry.1))

-- ---- entries by name

pub known : (name : Text) (entries : List Entry) → is_some (lookup (λ (k : Bor Text). bytes_eq name k.now) entries) ≡ is_declared (entry_names (pairs entries)) name
known name [] = refl
known name (e ∷ es) = by (bytes_eq name e.0.now) (known name es)
  where
    by : (b : Bool) → is_some (lookup (λ (k : Bor Text). bytes_eq name k.now) es) ≡ is_declared (entry_names (pairs es)) name →
        is_some (cond b (Some e.1) (lookup (λ (k : Bor Text). bytes_eq name k.now) es)) ≡ (b || is_declared (entry_names (pairs es)) name)
    by true later = refl
    by false later = later

value_at : (words : List Text) (name : Text) (entries : List Entry) →
    option_and_then (value_tree words) (lookup (λ (k : Bor Text). bytes_eq name k.now) entries) ≡ value_for (entries_tree words (pairs entries)) name
value_at words name [] = refl
value_at words name (e ∷ es) = by (bytes_eq name e.0.now) (value_at words name es) ∙ ap rest (nat_list_eq_equiv.symm name e.0.now)
  where
    rest : Bool → Option ExpressionTree
    rest b = option_and_then (λ (c : NamedConnection). c.value) (cond b (Some (entry_tree words (e.0.now, e.1))) (find (λ (c : NamedConnection). bytes_eq c.name name) (entries_tree words (pairs es))))

    by : (b : Bool) → option_and_then (value_tree words) (lookup (λ (k : Bor Text). bytes_eq name k.now) es) ≡ value_for (entries_tree words (pairs es)) name →
        option_and_then (value_tree words) (cond b (Some e.1) (lookup (λ (k : Bor Text). bytes_eq name k.now) es)) ≡ rest b
    by true later = refl
    by false later = later

pub value_is : (words : List Text) (name : Text) (entries : List Entry) (connections : List ConnectionEntry) (found : Option (Option (Bor Expression))) → pairs entries ≡ connections →
    found ≡ lookup (λ (k : Bor Text). bytes_eq name k.now) entries → option_and_then (value_tree words) found ≡ value_for (entries_tree words connections) name
value_is words name entries connections found are is =
    ap (option_and_then (value_tree words)) is ∙ value_at words name entries ∙ ap (λ (l : List ConnectionEntry). value_for (entries_tree words l) name) are

pub is_none : {A : Type 0} (x : Option A) → is_some x ≡ false → x ≡ None
is_none None e = refl
is_none (Some x) e = absurd (true≢false e)

-- ---- places of a list

pub drop_got : {A : Type 0} (xs : List A) (i : ℕ) (x : A) → slice_get xs i ≡ Some x → drop i xs ≡ x ∷ drop (i + 1) xs
drop_got xs i x e = drop_at_place xs i x e ∙ ap (λ (n : ℕ). x ∷ drop n xs) (sym (add-one i))

take_here : {A : Type 0} (xs : List A) (i : ℕ) (x : A) → slice_get xs i ≡ Some x → take (suc i) xs ≡ take i xs ++ x ∷ []
take_here [] zero x e = absurd cc
take_here [] (suc i) x e = absurd cc
take_here (y ∷ ys) zero x e = ap (λ z. z ∷ []) (same_Some y x e)
take_here (y ∷ ys) (suc i) x e = ap (λ l. y ∷ l) (take_here ys i x e)

pub take_got : {A : Type 0} (xs : List A) (i : ℕ) (x : A) → slice_get xs i ≡ Some x → take (i + 1) xs ≡ take i xs ++ x ∷ []
take_got xs i x e = ap (λ (n : ℕ). take n xs) (add-one i) ∙ take_here xs i x e

take_drop : {A : Type 0} (xs : List A) (i : ℕ) → take i xs ++ drop i xs ≡ xs
take_drop xs zero = refl
take_drop [] (suc i) = refl
take_drop (x ∷ xs) (suc i) = ap (λ l. x ∷ l) (take_drop xs i)

-- a name of a list in which none stands twice isn't among those before it
pub not_before : (names done : List Text) (i : ℕ) (name : Text) → has_double names ≡ false → slice_get names i ≡ Some name → done ≡ take i names → is_declared done name ≡ true → ⊥
not_before names done i name unique is are there =
    true≢false (sym (doubles (take i names) (drop (i + 1) names) names name (ap (λ l. take i names ++ l) (sym (drop_got names i name is)) ∙ take_drop names i)
    (ap (λ l. is_declared l name) (sym are) ∙ there)) ∙ unique)

-- ---- by order

pub order_step : (words names : List Text) (values : List Expression) (i : ℕ) (name : Text) (value : Bor Expression) (connections next : List ConnectionEntry) (all : List NamedConnection) →
    slice_get names i ≡ Some name → i < length values → value.now ≡ get_or values i value.now → next ≡ connections ++ (name, Some value) ∷ [] →
    entries_tree words connections ++ by_places (drop i names) (map (tree_of words) (drop i values)) ≡ all →
    entries_tree words next ++ by_places (drop (i + 1) names) (map (tree_of words) (drop (i + 1) values)) ≡ all
order_step words names values i name value connections next all named within valued added same =
    ap (λ (l : List ConnectionEntry). entries_tree words l ++ left) added
    ∙ ap (λ (l : List NamedConnection). l ++ left) (map-append (entry_tree words) connections ((name, Some value) ∷ []))
    ∙ append_assoc (entries_tree words connections) (entry_tree words (name, Some value) ∷ []) left
    ∙ sym (λ j. entries_tree words connections ++ by_places (drop_got names i name named j) (map (tree_of words) (drop_at values i value.now within valued j)))
    ∙ same
  where
    left : List NamedConnection
    left = by_places (drop (i + 1) names) (map (tree_of words) (drop (i + 1) values))

-- nothing is left
pub nothing_left : {A : Type 0} (done left all : List A) → left ≡ [] → done ++ left ≡ all → done ≡ all
nothing_left done left all none same = sym (append_nil done) ∙ ap (λ l. done ++ l) (sym none) ∙ same

pub order_done : (words names : List Text) (values : List Expression) (i : ℕ) (connections : List ConnectionEntry) (all : List NamedConnection) → length values ≤ i →
    entries_tree words connections ++ by_places (drop i names) (map (tree_of words) (drop i values)) ≡ all → entries_tree words connections ≡ all
order_done words names values i connections all le =
    nothing_left (entries_tree words connections) (by_places (drop i names) (map (tree_of words) (drop i values))) all
    (ap (λ (l : List Expression). by_places (drop i names) (map (tree_of words) l)) (drop_all i values le) ∙ no_places (drop i names))
  where
    no_places : (xs : List Text) → by_places xs [] ≡ []
    no_places [] = refl
    no_places (x ∷ xs) = refl

pub names_step : (names : List Text) (i : ℕ) (name : Text) (value : Option (Bor Expression)) (connections next : List ConnectionEntry) → slice_get names i ≡ Some name →
    next ≡ connections ++ (name, value) ∷ [] → entry_names connections ≡ take i names → entry_names next ≡ take (i + 1) names
names_step names i name value connections next is added same =
    ap entry_names added ∙ map-append (λ (t : ConnectionEntry). t.0) connections ((name, value) ∷ []) ∙ ap (λ l. l ++ name ∷ []) same ∙ sym (take_got names i name is)

-- ---- by name

module _ (names before : List Text) (connection : ConnectionTree) (more : List ConnectionTree) where
  abbrev opened : Bool → Bool → Option Word
  opened there again = if not there || again then Some connection.name else misfit_behind names (before ++ connection.name.letters ∷ []) more

  -- the next name isn't there
  pub misfit_absent : is_declared names connection.name.letters ≡ false → misfit_behind names before (connection ∷ more) ≡ Some connection.name
  misfit_absent e = ap (λ b. opened b (is_declared before connection.name.letters)) e

  -- it is, and stands before
  pub misfit_again : is_declared names connection.name.letters ≡ true → is_declared before connection.name.letters ≡ true → misfit_behind names before (connection ∷ more) ≡ Some connection.name
  misfit_again e f = λ i. opened (e i) (f i)

  -- it fits
  pub misfit_next : is_declared names connection.name.letters ≡ true → is_declared before connection.name.letters ≡ false →
      misfit_behind names before (connection ∷ more) ≡ misfit_behind names (before ++ connection.name.letters ∷ []) more
  misfit_next e f = λ i. opened (e i) (f i)

-- one connection more
pub name_step : (words : List Text) (connections next : List ConnectionEntry) (entry : ConnectionEntry) (connection : ConnectionTree) (rest : List ConnectionTree) (all : List NamedConnection) → next ≡ connections ++ entry ∷ [] →
    entry_tree words entry ≡ named_connection connection →
    entries_tree words connections ++ map named_connection (connection ∷ rest) ≡ all → entries_tree words next ++ map named_connection rest ≡ all
name_step words connections next entry connection rest all added is same =
    ap (λ (l : List ConnectionEntry). entries_tree words l ++ map named_connection rest) added
    ∙ ap (λ (l : List NamedConnection). l ++ map named_connection rest) (map-append (entry_tree words) connections (entry ∷ []))
    ∙ append_assoc (entries_tree words connections) (entry_tree words entry ∷ []) (map named_connection rest)
    ∙ ap (λ (c : NamedConnection). entries_tree words connections ++ c ∷ map named_connection rest) is
    ∙ same

-- its name behind the others
pub names_pushed : (connections next : List ConnectionEntry) (entry : ConnectionEntry) → next ≡ connections ++ entry ∷ [] → entry_names next ≡ entry_names connections ++ entry.0 ∷ []
names_pushed connections next entry added = ap entry_names added ∙ map-append (λ (t : ConnectionEntry). t.0) connections (entry ∷ [])
