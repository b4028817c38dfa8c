-- Under which number a name is found, and which variables are compared.
use Rattle.std.proofs.Common.{◌≡◌, ◌≢◌, ℕ, ◌+◌, ◌<◌, ◌≤◌, length, Bool, List, [], ◌∷◌, ◌++◌, Option, Some, Bor, Result, Ok, Err, OnOk, inl, inr, arith, ap, refl, subst, sym, ◌∙◌}
use Rattle.std.specs.BTreeMap.{BTreeMap, UpdatesBy, get_by}
use Rattle.std.specs.Cmp.Lexicographic.{slice_cmp}
use Rattle.std.specs.Ordering.{nat_cmp}
use Rattle.std.specs.Str.{bytes_eq}
use Rattle.std.specs.Prelude.{slice_get}
use Rattle.std.proofs.lemmas.Bool.{cases_lt, false_from_ne_true}
use Rattle.std.proofs.lemmas.Map.{update_other, update_same}
use Rattle.std.proofs.lemmas.Map.Text.{btree_map_updates_str}
use Rattle.std.proofs.lemmas.Option.{same_Some}
use Rattle.std.proofs.lemmas.Slice.Eq.{bytes_eq-Decides}
use Rattle.basis.proofs.Lists.{place_within, stands_in_front, stands_last}
use Rattle.vdesign.specs.Design.{Variable}
use Rattle.vcd_read.specs.declared.header.VcdVariable.{VcdVariable}
use Rattle.dump_match.specs.Scopes.{compared_name}
use Rattle.dump_match.specs.declared.comparison.Pair.{Pair}
use Rattle.dump_match.specs.declared.comparison.Likeness.{Likeness}
use Rattle.dump_match.specs.declared.comparison.Likeness.TheVariants.{OtherWidth, Same}
use Rattle.dump_match.specs.declared.comparison.Meeting.{Meeting}
use Rattle.dump_match.specs.declared.comparison.Meeting.TheVariants.{Compared, OtherWidth as WithOther}
use Rattle.dump_match.specs.Named.{AreAllCompared, AreComparedBelow, AreMet, FindsBelow, FindsLast, IfSame, IsCompared, IsFollowed, IsLastNamed, IsLike}
use Rattle.dump_match.specs.Named.{KeepsCompared, MeetsAt, TakesMore}

-- ---- names and numbers

abbrev pub found : BTreeMap (Bor (List ℕ)) ℕ → List ℕ → Option ℕ
found m name = get_by (λ (k : Bor (List ℕ)). slice_cmp nat_cmp name k.now) m

module _ (m n : BTreeMap (Bor (List ℕ)) ℕ) (text : List ℕ) (number : ℕ)
    (updates : UpdatesBy (λ x y. slice_cmp nat_cmp x.now y.now) (λ k. slice_cmp nat_cmp text k.now) m n (Some number)) where
  found_there : (name : List ℕ) → text ≡ name → found n name ≡ Some number
  found_there name is = btree_map_updates_str text m n (Some number) updates name ∙
      update_same bytes_eq (found m) text (Some number) name ((bytes_eq-Decides text name).1 is)

  found_still : (name : List ℕ) → text ≢ name → found n name ≡ found m name
  found_still name apart = btree_map_updates_str text m n (Some number) updates name ∙
      update_other bytes_eq (found m) text (Some number) name
      (false_from_ne_true (bytes_eq text name) (λ same. apart ((bytes_eq-Decides text name).0 same)))

  -- with the next variable
  pub finds_more : (variables : List Variable) (v : Variable) → slice_get variables number ≡ Some v → text ≡ v.name →
      FindsBelow variables number (found m) → FindsBelow variables (number + 1) (found n)
  finds_more variables v there is finds i variable lt at none = elim (cases_lt i number) [
    | inl before ↦ found_still variable.name (λ same. none number v before (omega arith) there (sym is ∙ same)) ∙
        finds i variable before at (λ later other after below at_later. none later other after (omega (arith, below)) at_later)
    | inr le ↦ (
        let e : i ≡ number = omega (arith, le, lt) in
        let same : variable ≡ v = same_Some variable v (sym at ∙ ap (slice_get variables) e ∙ there) in
        found_there variable.name (is ∙ ap (λ (x : Variable). x.name) (sym same)) ∙ ap Some (sym e))
  ]

pub finds_last : (variables : List Variable) (n : ℕ) (find : List ℕ → Option ℕ) → n ≡ length variables → FindsBelow variables n find →
    FindsLast variables find
finds_last variables n find all below number variable at none =
    below number variable (omega (arith, place_within variables number variable at, all)) at
    (λ later other lt within at_later. none later other lt at_later)

-- ---- what is compared

pub compared_more : (pairs : List Pair) (pair : Pair) → KeepsCompared pairs (pairs ++ pair ∷ [])
compared_more pairs pair number c = record {
  place = c.place;
  pair = c.pair;
  in_pairs = stands_in_front pairs (pair ∷ []) c.place c.pair c.in_pairs;
  variable = c.variable;
}

pub compared_last : (pairs : List Pair) (pair : Pair) → IsCompared (pairs ++ pair ∷ []) pair.variable
compared_last pairs pair = record { place = length pairs; pair = pair; in_pairs = stands_last pairs pair; variable = refl }

module _ (wrapped : Bool) (variables : List Variable) where
  -- variables that are like one of the files have as many bits
  followed : (told : VcdVariable) (number : ℕ) (pairs : List Pair) → IsLike wrapped variables told number →
      (1 ≤ told.width → told.width ≤ 64 → IsCompared pairs number) → IsFollowed wrapped variables pairs number
  followed told number pairs like compared other alike low high =
      let same : like.variable ≡ alike.variable = same_Some like.variable alike.variable (sym like.in_files ∙ alike.in_files) in
      let width : told.width ≡ other.width = like.width ∙ ap (λ (v : Variable). v.length) same ∙ sym alike.width in
      compared (omega (arith, width, low)) (omega (arith, width, high))

  -- the same pairs are enough
  takes_none : (told : VcdVariable) (likeness : Likeness) (old new : List Meeting) (pairs more : List Pair) → more ≡ pairs →
      ((place : ℕ) → slice_get new place ≡ Some Compared → slice_get old place ≡ Some Compared) →
      ((number : ℕ) → likeness ≡ Same number → number < length old → slice_get old number ≡ Some Compared) →
      AreMet wrapped variables old pairs → TakesMore wrapped variables told likeness old new pairs more
  takes_none told likeness old new pairs more is kept there met = record {
    met = λ number at. subst (λ (ps : List Pair). IsFollowed wrapped variables ps number) (sym is) (met number (kept number at));
    keeps = λ number c. subst (λ (ps : List Pair). IsCompared ps number) (sym is) c;
    compared = λ number same lt. subst (λ (ps : List Pair). IsFollowed wrapped variables ps number) (sym is) (met number (there number same lt));
  }

  -- where it has another width
  width_taken : (told : VcdVariable) (likeness : Likeness) (number : ℕ) (old new : List Meeting) (before : Meeting) (pairs : List Pair) →
      likeness ≡ OtherWidth number → MeetsAt old new number WithOther before → AreMet wrapped variables old pairs →
      TakesMore wrapped variables told likeness old new pairs pairs
  width_taken told likeness number old new before pairs is meets met = takes_none told likeness old new pairs pairs refl
      (λ place at. elim (meets.only place at) [ inl was ↦ was | inr x ↦ absurd (let e = x.1 in cc) ]) (λ other same lt. absurd cc) met

  -- or what it is like was compared before
  repeated_taken : (told : VcdVariable) (likeness : Likeness) (number : ℕ) (old new : List Meeting) (before : Meeting) (pairs : List Pair) →
      likeness ≡ Same number → MeetsAt old new number Compared before → before ≡ Compared → AreMet wrapped variables old pairs →
      TakesMore wrapped variables told likeness old new pairs pairs
  repeated_taken told likeness number old new before pairs is meets was_compared met = takes_none told likeness old new pairs pairs refl
      (λ place at. elim (meets.only place at) [ inl was ↦ was | inr x ↦ absurd (x.2 was_compared) ])
      (λ other same lt. (let e : number ≡ other = cc in
      subst (λ (k : ℕ). slice_get old k ≡ Some Compared) e (meets.there (omega (arith, e, lt)) was_compared))) met

  -- one more pair
  one_taken : (told : VcdVariable) (likeness : Likeness) (number : ℕ) (old new : List Meeting) (before : Meeting) (pairs more : List Pair) →
      likeness ≡ Same number → IfSame likeness (IsLike wrapped variables told) → KeepsCompared pairs more →
      (1 ≤ told.width → told.width ≤ 64 → IsCompared more number) → MeetsAt old new number Compared before →
      AreMet wrapped variables old pairs → TakesMore wrapped variables told likeness old new pairs more
  one_taken told likeness number old new before pairs more is like keeps compared meets met =
      let alike : IsLike wrapped variables told number = subst (λ (l : Likeness). IfSame l (IsLike wrapped variables told)) is like in
      let follows : IsFollowed wrapped variables more number = followed told number more alike compared in
      record {
        met = λ place at. elim (meets.only place at) [
          | inl was ↦ λ other like low high. keeps place (met place was other like low high)
          | inr here ↦ subst (IsFollowed wrapped variables more) (sym here.0) follows
        ];
        keeps = keeps;
        compared = λ place same lt. (let e : number ≡ place = cc in subst (IsFollowed wrapped variables more) e follows);
      }

  -- the same where a call succeeds
  pub takes_width : {T E : Type 0} (r : Result T E) (told : VcdVariable) (likeness : Likeness) (number : ℕ) (old new : List Meeting)
      (before : Meeting) (pairs : List Pair) → likeness ≡ OtherWidth number → MeetsAt old new number WithOther before →
      AreMet wrapped variables old pairs → OnOk r (TakesMore wrapped variables told likeness old new pairs pairs)
  takes_width (Ok x) told likeness number old new before pairs is meets met = width_taken told likeness number old new before pairs is meets met
  takes_width (Err e) told likeness number old new before pairs is meets met = tt

  pub takes_repeated : {T E : Type 0} (r : Result T E) (told : VcdVariable) (likeness : Likeness) (number : ℕ) (old new : List Meeting)
      (before : Meeting) (pairs : List Pair) → likeness ≡ Same number → MeetsAt old new number Compared before → before ≡ Compared →
      AreMet wrapped variables old pairs → OnOk r (TakesMore wrapped variables told likeness old new pairs pairs)
  takes_repeated (Ok x) told likeness number old new before pairs is meets was met =
      repeated_taken told likeness number old new before pairs is meets was met
  takes_repeated (Err e) told likeness number old new before pairs is meets was met = tt

  pub takes_one : {T E : Type 0} (r : Result T E) (told : VcdVariable) (likeness : Likeness) (number : ℕ) (old new : List Meeting)
      (before : Meeting) (pairs more : List Pair) → likeness ≡ Same number → IfSame likeness (IsLike wrapped variables told) →
      OnOk r (KeepsCompared pairs more) → OnOk r (1 ≤ told.width → told.width ≤ 64 → IsCompared more number) →
      MeetsAt old new number Compared before → AreMet wrapped variables old pairs →
      OnOk r (TakesMore wrapped variables told likeness old new pairs more)
  takes_one (Ok x) told likeness number old new before pairs more is like keeps compared meets met =
      one_taken told likeness number old new before pairs more is like keeps compared meets met
  takes_one (Err e) told likeness number old new before pairs more is like keeps compared meets met = tt

  -- with the next variable of the dump
  pub compared_next : (declared : List VcdVariable) (n : ℕ) (told : VcdVariable) (pairs more : List Pair) → slice_get declared n ≡ Some told →
      KeepsCompared pairs more → ((number : ℕ) → IsLike wrapped variables told number →
      IsLastNamed variables number (compared_name wrapped told.name.items) → IsFollowed wrapped variables more number) →
      AreComparedBelow wrapped variables declared n pairs → AreComparedBelow wrapped variables declared (n + 1) more
  compared_next declared n told pairs more there keeps this below place other number lt at like last low high = elim (cases_lt place n) [
    | inl before ↦ keeps number (below place other number before at like last low high)
    | inr le ↦ (
        let e : place ≡ n = omega (arith, le, lt) in
        let same : other ≡ told = same_Some other told (sym at ∙ ap (slice_get declared) e ∙ there) in
        let alike : IsLike wrapped variables told number = subst (λ (t : VcdVariable). IsLike wrapped variables t number) same like in
        let behind : IsLastNamed variables number (compared_name wrapped told.name.items) =
        subst (λ (t : VcdVariable). IsLastNamed variables number (compared_name wrapped t.name.items)) same last in
        this number alike behind other like low high)
  ]

  pub all_compared : (declared : List VcdVariable) (n : ℕ) (pairs : List Pair) → n ≡ length declared →
      AreComparedBelow wrapped variables declared n pairs → AreAllCompared wrapped variables declared pairs
  all_compared declared n pairs all below told number in_dump like last low high =
      below in_dump.place told number (omega (arith, place_within declared in_dump.place told in_dump.in_dump, all)) in_dump.in_dump like last low high

-- the same of what is the same
pub all_at : (w w' : Bool) (vs vs' : List Variable) (ds ds' : List VcdVariable) (pairs : List Pair) → w ≡ w' → vs ≡ vs' → ds ≡ ds' →
    AreAllCompared w vs ds pairs → AreAllCompared w' vs' ds' pairs
all_at w w' vs vs' ds ds' pairs o a b are =
    subst (λ (wrapped : Bool). AreAllCompared wrapped vs' ds' pairs) o
    (subst (λ (v : List Variable). AreAllCompared w v ds' pairs) a
    (subst (λ (d : List VcdVariable). AreAllCompared w vs d pairs) b are))
