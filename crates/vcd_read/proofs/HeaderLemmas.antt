-- What declarations make of a header.
use Rattle.std.proofs.Common.{◌≡◌, ℕ, true, false, List, [], ◌∷◌, ◌++◌, Option, None, Some, is_some, refl, ap, sym, subst, ◌∙◌, append_assoc, append-nil}
use Rattle.std.specs.Prelude.{codes, map, reverse}
use Rattle.basis.specs.declared.timescale.Span.{Span}
use Rattle.vcd_read.specs.Words.{Text}
use Rattle.vcd_read.specs.Numbers.{IsDecimal}
use Rattle.vcd_read.specs.Timescale.{span_in}
use Rattle.vcd_read.specs.Declarations.{Variable, Declares, done, note, scope, timescale, upscope, variable, is_note, HaveNoEnd, IsNoEnd, end_word, declared_variable}
use Rattle.vcd_read.specs.Declaring.{Lead, all_seen, outer_of}
use Rattle.vcd_read.specs.declared.header.Header.{Header}
use Rattle.vcd_read.specs.declared.header.VcdVariable.{VcdVariable}

nothing_added : (old new : List VcdVariable) → new ≡ old → all_seen new ≡ all_seen old ++ []
nothing_added old new same = ap all_seen same ∙ sym (append-nil (all_seen old))

-- this unit and these prefixes are those
elsewhere : (u v unit : Option Span) (a b : Text) (us vs rest : List Text) (more : List Variable) → u ≡ v → a ≡ b → us ≡ vs →
    Declares u a us rest unit more → Declares v b vs rest unit more
elsewhere u v unit a b us vs rest more o p q d =
    subst (λ (before : Option Span). Declares before b vs rest unit more) o
    (subst (λ (prefix : Text). Declares u prefix vs rest unit more) p (subst (λ (outer : List Text). Declares u a outer rest unit more) q d))

pub lead_scope : (old new : Header) (kind name : Text) → new.prefix.items ≡ old.prefix.items ++ (name ++ 46 ∷ []) →
    outer_of new ≡ old.prefix.items ∷ outer_of old → new.unit ≡ old.unit → new.variables.items ≡ old.variables.items →
    Lead (codes "$scope" ∷ kind ∷ name ∷ end_word ∷ []) old new
lead_scope old new kind name p q o same = record {
  variables = [];
  added = nothing_added old.variables.items new.variables.items same;
  goes_on = λ rest unit more d. scope old.unit unit old.prefix.items (outer_of old) kind name rest more
      (elsewhere new.unit old.unit unit new.prefix.items (old.prefix.items ++ (name ++ 46 ∷ [])) (outer_of new) (old.prefix.items ∷ outer_of old) rest more o p q d);
}

pub lead_upscope : (old new : Header) → outer_of old ≡ new.prefix.items ∷ outer_of new → new.unit ≡ old.unit → new.variables.items ≡ old.variables.items →
    Lead (codes "$upscope" ∷ end_word ∷ []) old new
lead_upscope old new q o same = record {
  variables = [];
  added = nothing_added old.variables.items new.variables.items same;
  goes_on = λ rest unit more d. elsewhere new.unit old.unit unit old.prefix.items old.prefix.items (new.prefix.items ∷ outer_of new) (outer_of old)
      (codes "$upscope" ∷ end_word ∷ rest) more o refl (sym q) (upscope new.unit unit new.prefix.items old.prefix.items (outer_of new) rest more d);
}

pub lead_variable : (old new : Header) (kind size code reference : Text) (range : List Text) (width : ℕ) → IsDecimal size width →
    IsNoEnd reference → HaveNoEnd range →
    new.prefix.items ≡ old.prefix.items → outer_of new ≡ outer_of old → new.unit ≡ old.unit →
    all_seen new.variables.items ≡ all_seen old.variables.items ++ declared_variable old.prefix.items reference width code ∷ [] →
    Lead (codes "$var" ∷ kind ∷ size ∷ code ∷ reference ∷ (range ++ end_word ∷ [])) old new
lead_variable old new kind size code reference range width number named without p q o added = record {
  variables = declared_variable old.prefix.items reference width code ∷ [];
  added = added;
  goes_on = λ rest unit more d.
      subst (λ (words : List Text). Declares old.unit old.prefix.items (outer_of old) (codes "$var" ∷ kind ∷ size ∷ code ∷ reference ∷ words) unit
      (declared_variable old.prefix.items reference width code ∷ more)) (sym (append_assoc range (end_word ∷ []) rest))
      (variable old.unit unit old.prefix.items (outer_of old) kind size code reference range rest width more number named without
      (elsewhere new.unit old.unit unit new.prefix.items old.prefix.items (outer_of new) (outer_of old) rest more o p q d));
}

pub lead_note : (old : Header) (keyword : Text) (words : List Text) → is_note keyword ≡ true → HaveNoEnd words →
    Lead (keyword ∷ (words ++ end_word ∷ [])) old old
lead_note old keyword words is without = record {
  variables = [];
  added = nothing_added old.variables.items old.variables.items refl;
  goes_on = λ rest unit more d.
      subst (λ (list : List Text). Declares old.unit old.prefix.items (outer_of old) (keyword ∷ list) unit more) (sym (append_assoc words (end_word ∷ []) rest))
      (note old.unit unit old.prefix.items (outer_of old) keyword words rest more is without d);
}

pub none_is : (unit : Option Span) → is_some unit ≡ false → unit ≡ None
none_is None none = refl
none_is (Some span) none = absurd cc

pub lead_unit : (old new : Header) (words : List Text) (span : Span) → HaveNoEnd words → span_in words ≡ Some span → old.unit ≡ None → new.unit ≡ Some span →
    new.prefix.items ≡ old.prefix.items → outer_of new ≡ outer_of old → new.variables.items ≡ old.variables.items →
    Lead (codes "$timescale" ∷ (words ++ end_word ∷ [])) old new
lead_unit old new words span without is none some p q same = record {
  variables = [];
  added = nothing_added old.variables.items new.variables.items same;
  goes_on = λ rest unit more d.
      subst (λ (list : List Text). Declares old.unit old.prefix.items (outer_of old) (codes "$timescale" ∷ list) unit more) (sym (append_assoc words (end_word ∷ []) rest))
      (subst (λ (before : Option Span). Declares before old.prefix.items (outer_of old) (codes "$timescale" ∷ (words ++ end_word ∷ rest)) unit more) (sym none)
      (timescale unit old.prefix.items (outer_of old) words rest span more without is
      (elsewhere new.unit (Some span) unit new.prefix.items old.prefix.items (outer_of new) (outer_of old) rest more some p q d)));
}

pub lead_nothing : (old : Header) → Lead [] old old
lead_nothing old = record {
  variables = [];
  added = nothing_added old.variables.items old.variables.items refl;
  goes_on = λ rest unit more d. d;
}

pub lead_then : (these those : List Text) (a b c : Header) → Lead these a b → Lead those b c → Lead (these ++ those) a c
lead_then these those a b c x y = record {
  variables = x.variables ++ y.variables;
  added = y.added ∙ ap (λ (list : List Variable). list ++ y.variables) x.added ∙ append_assoc (all_seen a.variables.items) x.variables y.variables;
  goes_on = λ rest unit more d.
      subst (λ (words : List Text). Declares a.unit a.prefix.items (outer_of a) words unit ((x.variables ++ y.variables) ++ more)) (sym (append_assoc these those rest))
      (subst (λ (list : List Variable). Declares a.unit a.prefix.items (outer_of a) (these ++ (those ++ rest)) unit list) (sym (append_assoc x.variables y.variables more))
      (x.goes_on (those ++ rest) unit (y.variables ++ more) (y.goes_on rest unit more d)));
}

-- with the end of the declarations all are declared
pub all_declared : (words : List Text) (first last : Header) → first.prefix.items ≡ [] → first.outer.items ≡ [] → first.unit ≡ None →
    first.variables.items ≡ [] → Lead words first last →
    Declares None [] [] (words ++ codes "$enddefinitions" ∷ end_word ∷ []) last.unit (all_seen last.variables.items)
all_declared words first last p q o r lead =
    subst (λ (list : List Variable). Declares None [] [] (words ++ codes "$enddefinitions" ∷ end_word ∷ []) last.unit list)
    (append-nil lead.variables ∙ sym (lead.added ∙ ap (λ (list : List VcdVariable). all_seen list ++ lead.variables) r))
    (elsewhere first.unit None last.unit first.prefix.items [] (outer_of first) [] (words ++ codes "$enddefinitions" ∷ end_word ∷ []) (lead.variables ++ []) o p
    (ap (λ list. reverse (map (λ prefix. prefix.items) list)) q)
    (lead.goes_on (codes "$enddefinitions" ∷ end_word ∷ []) last.unit [] (done last.unit last.prefix.items (outer_of last))))
