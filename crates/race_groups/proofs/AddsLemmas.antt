-- Groups that were added.
use Rattle.std.proofs.Common.{◌≡◌, ℕ, List, [], ◌∷◌, ◌++◌, map, get_or, slice_get, slice_set, Some, sym, ap, ◌∙◌, subst, inl, inr}
use Rattle.std.proofs.Common.{append-nil, append_assoc}
use Rattle.std.specs.List.{Contains}
use Rattle.std.proofs.lemmas.List.{map-append}
use Rattle.std.proofs.Math.Seq.{map-set_same}
use Rattle.std.proofs.lemmas.List.Elements.{Contains-append_cases, Contains-push_cases}
use Rattle.racebook.proofs.ListLemmas.{contains_at}
use Rattle.race_groups.specs.declared.group.Difference.{Difference}
use Rattle.race_groups.specs.declared.group.Group.{Group}
use Rattle.race_groups.specs.Found.{IsLogOf}
use Rattle.race_groups.specs.Inner.{Adds, IsCaused, GroupHead, group_head, group_heads}
use Rattle.race_groups.specs.Tracing.{IsTraced, Tracing}
use Rattle.race_groups.proofs.ListLemmas.{nothing_in, to_map}

-- ---- lists of groups

pub adds_none : (tracing : Tracing) (P : Difference → Type 0) (old new : List GroupHead) → new ≡ old → Adds tracing P old new
adds_none tracing P old new is = record {
  more = [];
  is = is ∙ sym (append-nil old);
  causes = λ t has. nothing_in t has;
  firsts = λ t has. nothing_in t has;
}

pub adds_on : (tracing : Tracing) (P : Difference → Type 0) (old mid new : List GroupHead) → Adds tracing P old mid →
    Adds tracing P mid new → Adds tracing P old new
adds_on tracing P old mid new a b = record {
  more = a.more ++ b.more;
  is = b.is ∙ ap (λ l. l ++ b.more) a.is ∙ append_assoc old a.more b.more;
  causes = λ t has. elim (Contains-append_cases a.more b.more t has) [
    | inl one ↦ a.causes t one
    | inr other ↦ b.causes t other
  ];
  firsts = λ t has. elim (Contains-append_cases a.more b.more t has) [
    | inl one ↦ a.firsts t one
    | inr other ↦ b.firsts t other
  ];
}

pub adds_weaker : (tracing : Tracing) (P Q : Difference → Type 0) (old new : List GroupHead) → ((d : Difference) → P d → Q d) →
    Adds tracing P old new → Adds tracing Q old new
adds_weaker tracing P Q old new from a = record {
  more = a.more;
  is = a.is;
  causes = a.causes;
  firsts =
      λ t has. from t.first (a.firsts t has);
}

only : (t u : GroupHead) → Contains (t ∷ []) u → t ≡ u
only t u has = elim (Contains-push_cases [] t u has) [
  | inl none ↦ nothing_in u none
  | inr is ↦ is
]

pub adds_one : (tracing : Tracing) (P : Difference → Type 0) (old new : List GroupHead) (t : GroupHead) → new ≡ old ++ t ∷ [] → IsCaused tracing t →
    P t.first → Adds tracing P old new
adds_one tracing P old new t is caused so = record {
  more = t ∷ [];
  is = is;
  causes = λ u has. subst (IsCaused tracing) (only t u has) caused;
  firsts = λ u has. subst (λ (v : GroupHead). P v.first) (only t u has) so;
}

-- a group that was pushed
pub adds_group : (tracing : Tracing) (difference : Difference) (old new : List Group) (group : Group) (log : List (ℕ × ℕ)) →
    new ≡ old ++ group ∷ [] → group.log ≡ log → IsTraced tracing log group.cause →
    IsLogOf difference log → group.first ≡ difference → Adds tracing (λ d. d ≡ difference) (group_heads old) (group_heads new)
adds_group tracing difference old new group log is log_is caused of first =
    adds_one tracing (λ d. d ≡ difference) (group_heads old) (group_heads new) (group_head group) (ap group_heads is ∙ map-append group_head old (group ∷ [])) (
      subst (λ (l : List (ℕ × ℕ)). IsTraced tracing l group.cause) (sym log_is) caused,
      subst (λ (d : Difference). IsLogOf d group.log) (sym first) (subst (IsLogOf difference) (sym log_is) of),
    ) first

-- what of a group is told stays, where one is changed elsewhere
pub told_alike : (groups : List Group) (place : ℕ) (group other : Group) → group_head group ≡ group_head (get_or groups place other) →
    group_heads (slice_set groups place group) ≡ group_heads groups
told_alike groups place group other same = map-set_same group_head groups place group other same

-- behind others, where causes are traced alike
pub adds_then : (tracing there : Tracing) (P : Difference → Type 0) (old mid new : List GroupHead) → there ≡ tracing → Adds tracing P old mid →
    Adds there P mid new → Adds tracing P old new
adds_then tracing there P old mid new is one other = adds_on tracing P old mid new one (subst (λ (x : Tracing). Adds x P mid new) is other)

-- one of these differences
pub adds_race : {R : Type 0} (tracing there : Tracing) (f : R → Difference) (races : List R) (i : ℕ) (race : R) (old mid new : List GroupHead) →
    there ≡ tracing → slice_get races i ≡ Some race →
    Adds tracing (Contains (map f races)) old mid → Adds there (λ d. d ≡ f race) mid new → Adds tracing (Contains (map f races)) old new
adds_race tracing there f races i race old mid new is at one other =
    adds_then tracing there (Contains (map f races)) old mid new is one
    (adds_weaker there (λ d. d ≡ f race) (Contains (map f races)) mid new (λ d same. subst (Contains (map f races)) (sym same)
    (to_map f races race (contains_at races i race at))) other)
