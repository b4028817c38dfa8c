-- Macros by the index of their names, and texts that are cut into pieces.
use Rattle.std.proofs.Common.{◌≡◌, ℕ, zero, suc, ◌+◌, ◌<◌, nat_lt, Bool, true, false, not, cond, List, [], ◌∷◌, ◌++◌, length, take, drop, slice_get, get_or, position, Option, None, Some, is_some, IfSome, Vec, Bor, Result, Err, refl, sym, ◌∙◌, ap, arith, subst, true≢false}
use Rattle.std.specs.List.{position_or_len}
use Rattle.std.specs.Map.{lookup, keys_of}
use Rattle.std.specs.Option.{option_and_then, option_copied}
use Rattle.std.specs.Str.{bytes_eq}
use Rattle.std.specs.Cmp.Lexicographic.{nat_list_eq_equiv, bytes_decides}
use Rattle.std.proofs.lemmas.Option.{same_Some, none-some}
use Rattle.std.proofs.lemmas.List.{drop-drop, length-drop}
use Rattle.std.proofs.lemmas.Bool.{ltb-true}
use Rattle.indexmap.specs.IndexMap.{insert_entry}
use Rattle.vsrc.specs.declared.refusal.Refusal.{Refusal}
use Rattle.vsrc.specs.declared.refusal.Why.TheVariants.{Directive}
use Rattle.vsrc.specs.declared.pieces.Kind.{Kind}
use Rattle.vsrc.specs.declared.pieces.Kind.TheVariants.{Kept, Use, Refused}
use Rattle.vsrc.specs.declared.pieces.Piece.{Piece}
use Rattle.vsrc.specs.declared.pieces.Macro.{Macro}
use Rattle.vsrc.specs.Outside.{stretch_len}
use Rattle.vsrc.specs.Words.{name_len}
use Rattle.vsrc.specs.Macros.{Macros, Made, looked_up, piece, piece_len, put_given, redefine, refused_at, make_use, why_unknown}
use Rattle.vsrc.proofs.MacroText.{used_none, used_some}
use Rattle.vsrc.specs.Pieces.{head_of, next_of, is_use, uses_in, AreUses, AreCut, EachIsCut, IsCut, IsCutIfAny, IsKind, IsPiece, Keeps, Leads, begins_use, found_text, macros_of, names_of, of_text, text_of, texts_of, used_name}

-- ---- pieces

-- the piece that stands at the rest is one more
pub leads_on : (names : List (List ℕ)) (text rest : List ℕ) (pieces : List Piece) (piece : Piece) → Leads names text pieces rest → IsPiece names rest piece
    → Leads names text (pieces ++ piece ∷ []) (drop piece.len rest)
leads_on names text rest [] piece is here = (subst (λ (t : List ℕ). IsPiece names t piece) (sym is) here, ap (drop piece.len) is)
leads_on names text rest (p ∷ ps) piece leads here = (leads.0, leads_on names (drop p.len text) rest ps piece leads.1 here)

uses_append : (ps qs : List Piece) → uses_in (ps ++ qs) ≡ uses_in ps ++ uses_in qs
uses_append [] qs = refl
uses_append (p ∷ ps) qs = by (is_use p.kind) refl (uses_append ps qs)
  where
    by : (b : Bool) → is_use p.kind ≡ b → uses_in (ps ++ qs) ≡ uses_in ps ++ uses_in qs → uses_in (p ∷ (ps ++ qs)) ≡ uses_in (p ∷ ps) ++ uses_in qs
    by true y on = rw y (ap (λ l. p ∷ l) on)
    by false y on = rw y on

-- what the next of the uses is, where some are left
next_use : (uses left : List Piece) (next : ℕ) (p default : Piece) → drop next uses ≡ p ∷ left
    → (next < length uses) × ((get_or uses next default ≡ p) × (drop (suc next) uses ≡ left))
next_use [] left zero p default is = absurd (omega (arith, ap length is))
next_use [] left (suc next) p default is = absurd (omega (arith, ap length is))
next_use (u ∷ us) left zero p default is = (omega arith, (ap (λ l. get_or l 0 default) is, ap (drop 1) is))
next_use (u ∷ us) left (suc next) p default is =
    let on = next_use us left next p default is in
    (omega (arith, on.0), on.1)

-- what stands at the head of what is left of a text, with its uses
pub record Head (names : List (List ℕ)) (rest : List ℕ) (uses : List Piece) (next : ℕ) : Type 0 where
  pub within : begins_use rest ≡ true → next < length uses
  pub here : IsPiece names rest (head_of rest uses next)
  pub left : AreUses names (drop (head_of rest uses next).len rest) (drop (next_of rest next) uses) []

pub head_is : (names : List (List ℕ)) (rest : List ℕ) (uses : List Piece) (next : ℕ) → 0 < length rest → AreUses names rest (drop next uses) [] → Head names rest uses next
head_is names [] uses next some are = absurd (omega arith)
head_is names (c ∷ cs) uses next some ([], leads) = absurd (omega (arith, ap length leads.0))
head_is names (c ∷ cs) uses next some (p ∷ ps, leads) = by p.kind refl
  where
    at_use : begins_use (c ∷ cs) ≡ true → is_use p.kind ≡ true → Head names (c ∷ cs) uses next
    at_use there counts =
        let more : uses_in (p ∷ ps) ≡ p ∷ uses_in ps = rw counts refl in
        let on = next_use uses (uses_in ps) next p (record { len = 0; kind = Kept }) (leads.1 ∙ more) in
        let same : head_of (c ∷ cs) uses next ≡ p = rw there on.1.0 in
        let step : suc next ≡ next_of (c ∷ cs) next = rw there (omega arith) in
        record {
          within = λ _. on.0;
          here = subst (λ (h : Piece). IsPiece names (c ∷ cs) h) (sym same) leads.0.0;
          left = subst (λ (h : Piece). AreUses names (drop h.len (c ∷ cs)) (drop (next_of (c ∷ cs) next) uses) []) (sym same)
              (ps, (leads.0.1, ap (λ n. drop n uses) (sym step) ∙ on.1.1));
        }

    kept : begins_use (c ∷ cs) ≡ false → is_use p.kind ≡ false → p.kind ≡ Kept → Head names (c ∷ cs) uses next
    kept plain counts is =
        let more : uses_in (p ∷ ps) ≡ uses_in ps = rw counts refl in
        let len : p.len ≡ stretch_len (c ∷ cs) = leads.0.0.value ∙ ap (λ b. cond b (1 + name_len cs) (stretch_len (c ∷ cs))) plain in
        let same : head_of (c ∷ cs) uses next ≡ p = rw plain (λ i. record { len = sym len i; kind = sym is i }) in
        let step : next ≡ next_of (c ∷ cs) next = rw plain refl in
        record {
          within = λ there. absurd (true≢false (sym there ∙ plain));
          here = subst (λ (h : Piece). IsPiece names (c ∷ cs) h) (sym same) leads.0.0;
          left = subst (λ (h : Piece). AreUses names (drop h.len (c ∷ cs)) (drop (next_of (c ∷ cs) next) uses) []) (sym same)
              (ps, (leads.0.1, ap (λ n. drop n uses) (sym step) ∙ leads.1 ∙ more));
        }

    by : (k : Kind) → p.kind ≡ k → Head names (c ∷ cs) uses next
    by Kept is = kept (subst (IsKind names (c ∷ cs)) is leads.0.0.kind) (ap is_use is) is
    by (Use index) is = at_use (subst (IsKind names (c ∷ cs)) is leads.0.0.kind).0 (ap is_use is)
    by Refused is = at_use (subst (IsKind names (c ∷ cs)) is leads.0.0.kind).0 (ap is_use is)

-- and where that is told from the whole text
pub step_is : (names : List (List ℕ)) (text rest : List ℕ) (from : ℕ) (uses : List Piece) (next : ℕ) → rest ≡ drop from text → from < length text
    → AreUses names (drop from text) (drop next uses) [] → Head names rest uses next
step_is names text rest from uses next is within are =
    subst (λ (r : List ℕ). Head names r uses next) (sym is) (head_is names (drop from text) uses next (omega (arith, length-drop from text)) are)

-- a turn: the piece at the head, and the uses behind it
pub record Turn (names : List (List ℕ)) (text rest : List ℕ) (from : ℕ) (uses : List Piece) (head : Piece) (after : ℕ) : Type 0 where
  pub here : IsPiece names rest head
  pub left : AreUses names (drop (from + head.len) text) (drop after uses) []

pub turn_is : (names : List (List ℕ)) (text rest : List ℕ) (from : ℕ) (uses : List Piece) (next : ℕ) (head : Piece) (after : ℕ) → rest ≡ drop from text → from < length text
    → AreUses names (drop from text) (drop next uses) [] → head ≡ head_of rest uses next → after ≡ next_of rest next → Turn names text rest from uses head after
turn_is names text rest from uses next head after is within are e f =
    let h : Head names rest uses next = step_is names text rest from uses next is within are in
    record {
      here = subst (λ (p : Piece). IsPiece names rest p) (sym e) h.here;
      left = subst (λ (r : List ℕ). AreUses names r (drop after uses) []) (ap (drop head.len) is ∙ drop-drop head.len from text)
          (subst (λ n. AreUses names (drop head.len rest) (drop n uses) []) (sym f)
          (subst (λ (p : Piece). AreUses names (drop p.len rest) (drop (next_of rest next) uses) []) (sym e) h.left));
    }

-- names that stay at their indices
module _ (old new : List (List ℕ)) (grown : (index : ℕ) (name : List ℕ) → slice_get old index ≡ Some name → slice_get new index ≡ Some name) where
  kind_grown : (rest : List ℕ) (kind : Kind) → IsKind old rest kind → IsKind new rest kind
  kind_grown rest Kept is = is
  kind_grown rest (Use index) is = (is.0, (is.1.0, grown index (used_name rest) is.1.1))
  kind_grown rest Refused is = is

  pub leads_grown : (text rest : List ℕ) (pieces : List Piece) → Leads old text pieces rest → Leads new text pieces rest
  leads_grown text rest [] leads = leads
  leads_grown text rest (p ∷ ps) leads = (
    record { some = leads.0.some; within = leads.0.within; value = leads.0.value; kind = kind_grown text p.kind leads.0.kind },
    leads_grown (drop p.len text) rest ps leads.1,
  )

  cut_grown : (found : Option Macro) → IsCutIfAny old found → IsCutIfAny new found
  cut_grown None is = tt
  cut_grown (Some found) is = (is.0, (leads_grown found.text.items [] is.0 is.1.0, is.1.1))

  each_grown : {A : Type 0} (es : List (Vec ℕ A × Option Macro)) → EachIsCut old es → EachIsCut new es
  each_grown [] each = tt
  each_grown (e ∷ es) each = (cut_grown e.1 each.0, each_grown es each.1)

-- ---- the table

abbrev Text : Type 0
Text = Option (List ℕ)

abbrev expand_text : Option Text → Text
expand_text found = option_and_then (λ text. text) found

choose : (b : Bool) (text : Text) (other : Option Text) → expand_text (cond b (Some text) other) ≡ cond b text (expand_text other)
choose true text other = refl
choose false text other = refl

hidden : (b : Bool) (text old : Text) (other : Option Text) → cond b text (expand_text (cond b (Some old) other)) ≡ cond b text (expand_text other)
hidden true text old other = refl
hidden false text old other = refl

-- a table with a macro, or none, at a key
module _ {A : Type 0} (key : Vec ℕ A) (value : Option Macro) where
  abbrev pub Entries : Type 0
  Entries = List (Vec ℕ A × Option Macro)

  abbrev pub inserted : Entries → Entries
  inserted es = insert_entry (λ (x y : Vec ℕ A). bytes_eq x.items y.items) es key value

  says : (es : Entries) (name : List ℕ) → macros_of (inserted es) name ≡ redefine key.items (text_of value) (macros_of es) name
  says [] name = choose (bytes_eq name key.items) (text_of value) None ∙ ap (λ b. cond b (text_of value) None) (nat_list_eq_equiv.symm name key.items)
  says (e ∷ es) name = by (bytes_eq key.items e.0.items) refl (says es name)
    where
      by : (b : Bool) → bytes_eq key.items e.0.items ≡ b → macros_of (inserted es) name ≡ redefine key.items (text_of value) (macros_of es) name
          → macros_of (inserted (e ∷ es)) name ≡ redefine key.items (text_of value) (macros_of (e ∷ es)) name
      by true y on =
          let turn : bytes_eq key.items name ≡ bytes_eq name e.0.items = nat_list_eq_equiv.symm key.items name ∙ ap (bytes_eq name) ((bytes_decides key.items e.0.items).0 y) in
          rw y (choose (bytes_eq name e.0.items) (text_of value) (lookup (bytes_eq name) (texts_of es))
          ∙ sym (hidden (bytes_eq name e.0.items) (text_of value) (text_of e.1) (lookup (bytes_eq name) (texts_of es)))
          ∙ ap (λ b. cond b (text_of value) (macros_of (e ∷ es) name)) (sym turn))
      by false y on = rw y (other (bytes_eq name e.0.items) refl)
        where
          other : (b : Bool) → bytes_eq name e.0.items ≡ b → macros_of (e ∷ inserted es) name ≡ redefine key.items (text_of value) (macros_of (e ∷ es)) name
          other true z =
              let apart : bytes_eq key.items name ≡ false = ap (bytes_eq key.items) ((bytes_decides name e.0.items).0 z) ∙ y in
              rw (z, apart) refl
          other false z = rw z on

  pub insert_redefines : (es : Entries) → macros_of (inserted es) ≡ redefine key.items (text_of value) (macros_of es)
  insert_redefines es = λ i name. says es name i

  pub insert_grows : (es : Entries) (index : ℕ) (name : List ℕ) → slice_get (names_of es) index ≡ Some name → slice_get (names_of (inserted es)) index ≡ Some name
  insert_grows [] index name at = absurd (none-some _ at)
  insert_grows (e ∷ es) index name at = by (bytes_eq key.items e.0.items) refl (λ i there. insert_grows es i name there) index at
    where
      by : (b : Bool) → bytes_eq key.items e.0.items ≡ b → ((i : ℕ) → slice_get (names_of es) i ≡ Some name → slice_get (names_of (inserted es)) i ≡ Some name)
          → (index : ℕ) → slice_get (names_of (e ∷ es)) index ≡ Some name → slice_get (names_of (inserted (e ∷ es))) index ≡ Some name
      by true y on index at = rw y at
      by false y on zero at = rw y at
      by false y on (suc index) at = rw y (on index at)

  pub insert_index_is : (es : Entries) → slice_get (names_of (inserted es)) (position_or_len (λ (k : Vec ℕ A). bytes_eq key.items k.items) (keys_of es)) ≡ Some key.items
  insert_index_is [] = refl
  insert_index_is (e ∷ es) = by (bytes_eq key.items e.0.items) refl (insert_index_is es)
    where
      by : (b : Bool) → bytes_eq key.items e.0.items ≡ b
          → slice_get (names_of (inserted es)) (position_or_len (λ (k : Vec ℕ A). bytes_eq key.items k.items) (keys_of es)) ≡ Some key.items
          → slice_get (names_of (inserted (e ∷ es))) (position_or_len (λ (k : Vec ℕ A). bytes_eq key.items k.items) (keys_of (e ∷ es))) ≡ Some key.items
      by true y on = rw y (ap Some (sym ((bytes_decides key.items e.0.items).0 y)))
      by false y on =
          let more : 1 + position_or_len (λ (k : Vec ℕ A). bytes_eq key.items k.items) (keys_of es) ≡ suc (position_or_len (λ (k : Vec ℕ A). bytes_eq key.items k.items) (keys_of es)) =
          omega arith in
          rw y (ap (λ n. slice_get (e.0.items ∷ names_of (inserted es)) n) more ∙ on)

  -- the index that it has from then on
  pub insert_at : (es new : Entries) (index : ℕ) (name : List ℕ) → new ≡ inserted es → index ≡ position_or_len (λ (k : Vec ℕ A). bytes_eq key.items k.items) (keys_of es)
      → key.items ≡ name → slice_get (names_of new) index ≡ Some name
  insert_at es new index name is at named =
      ap (λ (l : Entries). slice_get (names_of l) index) is ∙ ap (λ i. slice_get (names_of (inserted es)) i) at ∙ insert_index_is es ∙ ap Some named

  insert_each : (names : List (List ℕ)) (es : Entries) → IsCutIfAny names value → EachIsCut names es → EachIsCut names (inserted es)
  insert_each names [] is each = (is, tt)
  insert_each names (e ∷ es) is each = by (bytes_eq key.items e.0.items) refl (insert_each names es is each.1)
    where
      by : (b : Bool) → bytes_eq key.items e.0.items ≡ b → EachIsCut names (inserted es) → EachIsCut names (inserted (e ∷ es))
      by true y on = rw y (is, each.1)
      by false y on = rw y (each.0, on)

  pub insert_cuts : (es : Entries) → IsCutIfAny (names_of es) value → AreCut es → AreCut (inserted es)
  insert_cuts es is each = insert_each (names_of (inserted es)) es (cut_grown (names_of es) (names_of (inserted es)) (insert_grows es) value is)
      (each_grown (names_of es) (names_of (inserted es)) (insert_grows es) es each)

-- a new name without a macro
pub keeps_insert : {A : Type 0} (key : Vec ℕ A) (es : List (Vec ℕ A × Option Macro)) → macros_of es key.items ≡ None
    → Keeps es (insert_entry (λ (x y : Vec ℕ A). bytes_eq x.items y.items) es key None)
keeps_insert {A} key es none = record {
  same = insert_redefines key None es ∙ (λ i name. absent name (bytes_eq key.items name) refl i);
  grown = insert_grows key None es;
  cut = insert_cuts key None es tt;
}
  where
    absent : (name : List ℕ) (b : Bool) → bytes_eq key.items name ≡ b → redefine key.items None (macros_of es) name ≡ macros_of es name
    absent name true y = rw y (sym (ap (macros_of es) (sym ((bytes_decides key.items name).0 y)) ∙ none))
    absent name false y = rw y refl

pub keeps_all : {A : Type 0} (old new : List (Vec ℕ A × Option Macro)) → new ≡ old → Keeps old new
keeps_all {A} old new is = subst (λ (es : List (Vec ℕ A × Option Macro)). Keeps old es) (sym is) (record { same = refl; grown = λ index name at. at; cut = λ each. each })

pub keeps_on : {A : Type 0} {old mid new : List (Vec ℕ A × Option Macro)} → Keeps old mid → Keeps mid new → Keeps old new
keeps_on a b = record { same = b.same ∙ a.same; grown = λ index name at. b.grown index name (a.grown index name at); cut = λ each. b.cut (a.cut each) }

-- a piece more
pub cut_next : {A : Type 0} (mid new : List (Vec ℕ A × Option Macro)) (text rest : List ℕ) (from : ℕ) (uses more : List Piece) (piece : Piece)
    → rest ≡ drop from text → Keeps mid new → IsPiece (names_of new) rest piece → more ≡ uses ++ uses_in (piece ∷ []) → AreUses (names_of mid) text uses (drop from text)
    → AreUses (names_of new) text more (drop (from + piece.len) text)
cut_next mid new text rest from uses more piece is keeps here put are =
    let pieces : List Piece = are.0 in
    let grown : Leads (names_of new) text pieces (drop from text) = leads_grown (names_of mid) (names_of new) keeps.grown text (drop from text) pieces are.1.0 in
    let on : Leads (names_of new) text (pieces ++ piece ∷ []) (drop piece.len (drop from text)) =
    leads_on (names_of new) text (drop from text) pieces piece grown (subst (λ (r : List ℕ). IsPiece (names_of new) r piece) is here) in (
      pieces ++ piece ∷ [],
      (
        subst (λ (r : List ℕ). Leads (names_of new) text (pieces ++ piece ∷ []) r) (drop-drop piece.len from text) on,
        put ∙ ap (λ l. l ++ uses_in (piece ∷ [])) are.1.1 ∙ sym (uses_append pieces (piece ∷ [])),
      ),
    )

-- ---- names by their index

module _ {A : Type 0} (name : List ℕ) where
  abbrev place : List (Vec ℕ A × Option Macro) → ℕ
  place es = position_or_len (λ (k : Vec ℕ A). bytes_eq name k.items) (keys_of es)

  name_first : (es : List (Vec ℕ A × Option Macro)) → place es < length (keys_of es) → slice_get (names_of es) (place es) ≡ Some name
  name_first [] within = absurd (omega arith)
  name_first (e ∷ es) within = by (bytes_eq name e.0.items) refl (name_first es)
    where
      by : (b : Bool) → bytes_eq name e.0.items ≡ b → (place es < length (keys_of es) → slice_get (names_of es) (place es) ≡ Some name)
          → slice_get (names_of (e ∷ es)) (place (e ∷ es)) ≡ Some name
      by true y on = rw y (ap Some (sym ((bytes_decides name e.0.items).0 y)))
      by false y on =
          let less : 1 + place es < suc (length (keys_of es)) = subst (λ b. cond (not b) (1 + place es) 0 < suc (length (keys_of es))) y within in
          let more : 1 + place es ≡ suc (place es) = omega arith in
          rw y (ap (λ n. slice_get (e.0.items ∷ names_of es) n) more ∙ on (omega (arith, less)))

-- the index of a name that was found
pub name_at : {A : Type 0} (name : List ℕ) (es : List (Vec ℕ A × Option Macro)) (index : ℕ) → position (λ (k : Vec ℕ A). bytes_eq name k.items) (keys_of es) ≡ Some index
    → slice_get (names_of es) index ≡ Some name
name_at {A} name es index found = by (nat_lt (position_or_len (λ (k : Vec ℕ A). bytes_eq name k.items) (keys_of es)) (length (keys_of es))) refl
  where
    by : (b : Bool) → nat_lt (position_or_len (λ (k : Vec ℕ A). bytes_eq name k.items) (keys_of es)) (length (keys_of es)) ≡ b → slice_get (names_of es) index ≡ Some name
    by true y =
        subst (λ i. slice_get (names_of es) i ≡ Some name)
        (same_Some _ _ (sym (ap (λ b. cond b (Some (position_or_len (λ (k : Vec ℕ A). bytes_eq name k.items) (keys_of es))) None) y) ∙ found))
        (name_first name es (ltb-true _ _ y))
    by false y = absurd (none-some index (sym (ap (λ b. cond b (Some (position_or_len (λ (k : Vec ℕ A). bytes_eq name k.items) (keys_of es))) None) y) ∙ found))

found_by : {A : Type 0} (name : List ℕ) (es : List (Vec ℕ A × Option Macro)) → macros_of es name ≡ option_and_then text_of (lookup (λ (k : Vec ℕ A). bytes_eq name k.items) es)
found_by {A} name [] = refl
found_by {A} name (e ∷ es) = by (bytes_eq name e.0.items) refl (found_by name es)
  where
    by : (b : Bool) → bytes_eq name e.0.items ≡ b → macros_of es name ≡ option_and_then text_of (lookup (λ (k : Vec ℕ A). bytes_eq name k.items) es)
        → macros_of (e ∷ es) name ≡ option_and_then text_of (lookup (λ (k : Vec ℕ A). bytes_eq name k.items) (e ∷ es))
    by true y on = rw y refl
    by false y on = rw y on

-- a name that wasn't found
pub name_absent : {A : Type 0} (name : List ℕ) (es : List (Vec ℕ A × Option Macro)) → false ≡ is_some (lookup (λ (k : Vec ℕ A). bytes_eq name k.items) es) → macros_of es name ≡ None
name_absent {A} name es none = found_by name es ∙ go (lookup (λ (k : Vec ℕ A). bytes_eq name k.items) es) none
  where
    go : (r : Option (Option Macro)) → false ≡ is_some r → option_and_then text_of r ≡ None
    go None h = refl
    go (Some found) h = absurd (true≢false (sym h))

-- what was found, behind a reference
pub found_copied : (found : Option (Bor Macro)) → found_text found ≡ text_of (option_copied found)
found_copied None = refl
found_copied (Some found) = refl

pub found_cut : (names : List (List ℕ)) (found : Option (Bor Macro)) → IsCutIfAny names (option_copied found) → IfSome found (λ found. IsCut names found.now)
found_cut names None is = tt
found_cut names (Some found) is = is

-- the entry at an index
pub cut_at : {A : Type 0} (names : List (List ℕ)) (es : List (Vec ℕ A × Option Macro)) (index : ℕ) (entry : Vec ℕ A × Option Macro)
    → slice_get es index ≡ Some entry → EachIsCut names es → IsCutIfAny names entry.1
cut_at names [] index entry at each = absurd (none-some _ at)
cut_at {A} names (e ∷ es) zero entry at each = subst (λ (x : Vec ℕ A × Option Macro). IsCutIfAny names x.1) (same_Some _ _ at) each.0
cut_at names (e ∷ es) (suc index) entry at each = cut_at names es index entry at each.1

named_at : {A : Type 0} (es : List (Vec ℕ A × Option Macro)) (index : ℕ) (entry : Vec ℕ A × Option Macro) → slice_get es index ≡ Some entry
    → slice_get (names_of es) index ≡ Some entry.0.items
named_at [] index entry at = absurd (none-some _ at)
named_at {A} (e ∷ es) zero entry at = ap (λ (x : Vec ℕ A × Option Macro). Some x.0.items) (same_Some _ _ at)
named_at (e ∷ es) (suc index) entry at = named_at es index entry at

pub macro_is : {A : Type 0} (es : List (Vec ℕ A × Option Macro)) (index : ℕ) (key : Vec ℕ A) (found : Option Macro) (name : List ℕ) → slice_get es index ≡ Some (key, found)
    → lookup (λ (k : Vec ℕ A). bytes_eq key.items k.items) es ≡ Some found → slice_get (names_of es) index ≡ Some name → text_of found ≡ macros_of es name
macro_is {A} es index key found name at one named =
    let is : key.items ≡ name = same_Some _ _ (sym (named_at es index (key, found) at) ∙ named) in
    sym (ap (option_and_then text_of) one) ∙ sym (found_by key.items es) ∙ ap (macros_of es) is

-- ---- what a piece makes

pub piece_kept : (nested : List ℕ → Made → Result Made Refusal) (at len : ℕ) (rest : List ℕ) (made : Made) → begins_use rest ≡ false → 0 < length rest → len ≡ piece_len rest
    → piece nested at rest made ≡ put_given (take len rest) at made
piece_kept nested at len [] made plain some value = absurd (omega arith)
piece_kept nested at len (c ∷ cs) made plain some value =
    let is : len ≡ stretch_len (c ∷ cs) = value ∙ ap (λ b. cond b (1 + name_len cs) (stretch_len (c ∷ cs))) plain in
    ap (λ b. cond b (nested (take (name_len cs) cs) made) (put_given (take (stretch_len (c ∷ cs)) (c ∷ cs)) at made)) plain
    ∙ ap (λ n. put_given (take n (c ∷ cs)) at made) (sym is)

pub piece_used : (nested : List ℕ → Made → Result Made Refusal) (at : ℕ) (rest : List ℕ) (made : Made) → begins_use rest ≡ true
    → piece nested at rest made ≡ nested (used_name rest) made
piece_used nested at [] made there = absurd (true≢false (sym there))
piece_used nested at (c ∷ cs) made there =
    ap (λ b. cond b (nested (take (name_len cs) cs) made) (put_given (take (stretch_len (c ∷ cs)) (c ∷ cs)) at made)) there

module _ (names : List (List ℕ)) (rest : List ℕ) (head : Piece) (levels : ℕ) (macros : Macros) (at : ℕ) (made : Made) (here : IsPiece names rest head) where
  pub piece_refused : head.kind ≡ Refused → piece (make_use levels macros at) at rest made ≡ Err (refused_at at Directive)
  piece_refused is =
      let kind : IsKind names rest Refused = subst (IsKind names rest) is here.kind in
      piece_used (make_use levels macros at) at rest made kind.0
      ∙ used_none levels macros at (used_name rest) made (refused_at at Directive) (ap (λ b. looked_up b (macros (used_name rest)) (used_name rest) at) kind.1)

  pub piece_missing : (index : ℕ) → head.kind ≡ Use index → ((name : List ℕ) → slice_get names index ≡ Some name → None ≡ macros name)
      → piece (make_use levels macros at) at rest made ≡ Err (refused_at at (why_unknown (used_name rest)))
  piece_missing index is none =
      let kind : IsKind names rest (Use index) = subst (IsKind names rest) is here.kind in
      piece_used (make_use levels macros at) at rest made kind.0
      ∙ used_none levels macros at (used_name rest) made (refused_at at (why_unknown (used_name rest)))
      (ap (λ b. looked_up b (macros (used_name rest)) (used_name rest) at) kind.1.0 ∙ ap (λ t. looked_up true t (used_name rest) at) (sym (none (used_name rest) kind.1.1)))

  pub piece_found : (index : ℕ) (text : List ℕ) → head.kind ≡ Use index → ((name : List ℕ) → slice_get names index ≡ Some name → Some text ≡ macros name)
      → piece (make_use levels macros at) at rest made ≡ of_text levels macros at text made
  piece_found index text is some =
      let kind : IsKind names rest (Use index) = subst (IsKind names rest) is here.kind in
      piece_used (make_use levels macros at) at rest made kind.0
      ∙ used_some levels macros at (used_name rest) text made
      (ap (λ b. looked_up b (macros (used_name rest)) (used_name rest) at) kind.1.0 ∙ ap (λ t. looked_up true t (used_name rest) at) (sym (some (used_name rest) kind.1.1)))
