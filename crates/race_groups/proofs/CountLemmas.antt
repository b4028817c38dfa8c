-- What groups sum up as they grow.
use Rattle.std.specs.Prelude.{⊤}
use Rattle.std.proofs.Common.{◌≡◌, ◌≢◌, ℕ, zero, suc, ◌+◌, ◌<◌, ◌≤◌, ◌⊎◌, Bool, true, false, List, [], ◌∷◌, ◌++◌, length, take, slice_get, Option}
use Rattle.std.proofs.Common.{slice_set, Some, Result, Ok, Err, OnOk, OnErr, refl, sym, ap, ◌∙◌, subst, inl, inr, append-nil, arith}
use Rattle.std.specs.List.{Contains}
use Rattle.std.proofs.lemmas.Bool.{cases_lt}
use Rattle.std.proofs.lemmas.Option.{same_Some}
use Rattle.std.proofs.lemmas.List.{length-take-le, length_push, same_from_push, take-append-le, take_all}
use Rattle.std.proofs.lemmas.List.Elements.{Contains-push, Contains-push_cases, Contains-append_cases, Contains-append_left}
use Rattle.std.proofs.lemmas.List.Elements.{Contains-append_right}
use Rattle.basis.proofs.Lists.{last_or_before, place_within, stands_in_front, stands_last, taken_at}
use Rattle.racebook.proofs.ListLemmas.{contains_at}
use Rattle.cause.specs.declared.cause.Cause.{Cause}
use Rattle.race_groups.specs.declared.group.Difference.{Difference}
use Rattle.race_groups.specs.declared.group.Group.{Group}
use Rattle.race_groups.specs.declared.group.Name.{Name}
use Rattle.race_groups.specs.Blame.{HasSameCause}
use Rattle.race_groups.specs.Found.{AllSummarize, AreNamedOnce, IsNameIn, IsLogOf, IsNameInOne, IsNamedAt, Summarizes, name_of}
use Rattle.race_groups.specs.Inner.{AreNamedApart, Counts, CountsStill, ExplainsOne, Follows, HasCauseAt, IsNamedIn, IsOpened, IsSummedUp, IsUntouched, NoName}
use Rattle.race_groups.specs.Inner.{GroupHead, IsWith, Widens, group_head}
use Rattle.race_groups.specs.Tracing.{Tracing}
use Rattle.race_groups.proofs.ListLemmas.{nothing_in}

-- ---- one after another

pub still_none : (names : ℕ) (old new : List Group) → new ≡ old → CountsStill names old new
still_none names old new is before summaries = record {
  after = before;
  summaries = subst (λ (l : List Group). AllSummarize names l before) (sym is) summaries;
  still = λ place name has. subst (λ (l : List Group). IsNameIn l before place name) (sym is) has;
}

pub still_on : (names : ℕ) (old mid new : List Group) → CountsStill names old mid → CountsStill names mid new → CountsStill names old new
still_on names old mid new one other before summaries =
    let a = one before summaries in
    let b = other a.after a.summaries in
    record { after = b.after; summaries = b.summaries; still = λ place name has. b.still place name (a.still place name has) }

pub counts_still : (names : ℕ) (P : Name → Type 0) (F : Option Cause → Name → Type 0) (old new : List Group) → Counts names P F old new →
    CountsStill names old new
counts_still names P F old new c before summaries =
    let a = c before summaries in record { after = a.after; summaries = a.summaries; still = a.still }

pub counts_none : (names : ℕ) (F : Option Cause → Name → Type 0) (old new : List Group) → new ≡ old → Counts names NoName F old new
counts_none names F old new is before summaries = record {
  after = before;
  summaries = subst (λ (l : List Group). AllSummarize names l before) (sym is) summaries;
  still = λ place name has. subst (λ (l : List Group). IsNameIn l before place name) (sym is) has;
  named = λ name none. absurd none;
  only = λ name has. inl (subst (λ (l : List Group). IsNameInOne l before name) is has);
  once = λ fresh once. subst (λ (l : List Group). AreNamedOnce l before) (sym is) once;
  caused = λ cause name has. inl (subst (λ (l : List Group). IsSummedUp l before cause name) is has);
}

-- of two kinds that have none in common
pub counts_on : (names : ℕ) (P Q : Name → Type 0) (F : Option Cause → Name → Type 0) (old mid new : List Group) →
    ((n : Name) → P n → Q n → ⊥) → Counts names P F old mid → Counts names Q F mid new → Counts names (λ n. P n ⊎ Q n) F old new
counts_on names P Q F old mid new apart one other before summaries =
    let a = one before summaries in
    let b = other a.after a.summaries in
    record {
      after = b.after;
      summaries = b.summaries;
      still = λ place name has. b.still place name (a.still place name has);
      named = λ name is. elim is [
        | inl p ↦ (let n = a.named name p in (n.0, b.still n.0 name n.1))
        | inr q ↦ b.named name q
      ];
      only = λ name has. elim (b.only name has) [
        | inl there ↦ elim (a.only name there) [
          | inl was ↦ inl was
          | inr p ↦ inr (inl p)
        ]
        | inr q ↦ inr (inr q)
      ];
      once = λ fresh once. b.once (λ name q has. elim (a.only name has) [
        | inl was ↦ fresh name (inr q) was
        | inr p ↦ apart name p q
      ]) (a.once (λ name p was. fresh name (inl p) was) once);
      caused = λ cause name has. elim (b.caused cause name has) [
        | inl there ↦ a.caused cause name there
        | inr fits ↦ inr fits
      ];
    }

pub counts_as : (names : ℕ) (P Q : Name → Type 0) (F G : Option Cause → Name → Type 0) (old new : List Group) → ((n : Name) → Q n → P n) →
    ((n : Name) → P n → Q n) → ((cause : Option Cause) (n : Name) → F cause n → G cause n) → Counts names P F old new →
    Counts names Q G old new
counts_as names P Q F G old new from to fits c before summaries =
    let a = c before summaries in
    record {
      after = a.after;
      summaries = a.summaries;
      still = a.still;
      named = λ name q. a.named name (from name q);
      only = λ name has. elim (a.only name has) [
        | inl was ↦ inl was
        | inr p ↦ inr (to name p)
      ];
      once = λ fresh once. a.once (λ name p was. fresh name (to name p) was) once;
      caused = λ cause name has. elim (a.caused cause name has) [
        | inl was ↦ inl was
        | inr so ↦ inr (fits cause name so)
      ];
    }

-- of the same names
pub counts_fit : (names : ℕ) (P : Name → Type 0) (F G : Option Cause → Name → Type 0) (old new : List Group) →
    ((cause : Option Cause) (n : Name) → F cause n → G cause n) → Counts names P F old new → Counts names P G old new
counts_fit names P F G old new fits c = counts_as names P P F G old new (λ n p. p) (λ n p. p) fits c

-- where more differences may explain, and causes are traced alike
pub explained_by : (names : ℕ) (IsNew : Name → Type 0) (there tracing : Tracing) (P Q : Difference → Type 0) (old new : List Group) →
    there ≡ tracing → ((d : Difference) → P d → Q d) → Counts names IsNew (ExplainsOne there P) old new →
    Counts names IsNew (ExplainsOne tracing Q) old new
explained_by names IsNew there tracing P Q old new is from c =
    counts_fit names IsNew (ExplainsOne tracing P) (ExplainsOne tracing Q) old new (λ cause n e. (e.0, from e.0 e.1, e.2))
    (subst (λ (t : Tracing). Counts names IsNew (ExplainsOne t P) old new) is c)

-- a difference joins the group that blames the same statements as the log of its side
pub followed_explains : (tracing : Tracing) (d : Difference) (groups : List Group) (log : List (ℕ × ℕ)) (place : ℕ) (name : Name) →
    name_of d ≡ Some name → IsLogOf d log → IsWith tracing groups log place → (cause : Option Cause) (n : Name) →
    (name ≡ n) × HasCauseAt groups place cause → ExplainsOne tracing (λ e. e ≡ d) cause n
followed_explains tracing d groups log place name named of with cause n (is, (group, at, under)) = (
  d,
  refl,
  record {
    named = named ∙ ap Some is;
    log = log;
    of = of;
    same = subst (λ (c : Option Cause). HasSameCause tracing.setting tracing.steps c log)
        (ap (λ (g : Group). g.cause) (same_Some with.group group (sym with.at ∙ at)) ∙ under) with.same;
  },
)

-- ---- a list in the place of another

abbrev put_at : (ℕ → List Name) → ℕ → List Name → ℕ → List Name
put_at rests zero rest zero = rest
put_at rests zero rest (suc i) = rests (suc i)
put_at rests (suc p) rest zero = rests zero
put_at rests (suc p) rest (suc i) = put_at (λ k. rests (suc k)) p rest i

put_there : (rests : ℕ → List Name) (p : ℕ) (rest : List Name) → put_at rests p rest p ≡ rest
put_there rests zero rest = refl
put_there rests (suc p) rest = put_there (λ k. rests (suc k)) p rest

put_elsewhere : (rests : ℕ → List Name) (p : ℕ) (rest : List Name) (i : ℕ) → i ≢ p → put_at rests p rest i ≡ rests i
put_elsewhere rests zero rest zero ne = absurd (ne refl)
put_elsewhere rests zero rest (suc i) ne = refl
put_elsewhere rests (suc p) rest zero ne = refl
put_elsewhere rests (suc p) rest (suc i) ne = put_elsewhere (λ k. rests (suc k)) p rest i (λ e. ne (ap suc e))

-- what stands in a list of which one place was set
at_set : {X : Type 0} (xs : List X) (p i : ℕ) (y x : X) → slice_get (slice_set xs p y) i ≡ Some x → ((i ≢ p) × (slice_get xs i ≡ Some x))
    ⊎ ((i ≡ p) × (y ≡ x) × (z : X) × (slice_get xs p ≡ Some z))
at_set [] p i y x e = absurd cc
at_set (z ∷ xs) zero zero y x e = inr (refl, same_Some y x e, z, refl)
at_set (z ∷ xs) zero (suc i) y x e = inl (λ s. absurd cc, e)
at_set (z ∷ xs) (suc p) zero y x e = inl (λ s. absurd cc, e)
at_set (z ∷ xs) (suc p) (suc i) y x e = elim (at_set xs p i y x e) [
  | inl h ↦ inl (λ s. h.0 (omega (arith, s)), h.1)
  | inr (is, same, w, there) ↦ inr (ap suc is, same, w, there)
]

-- and what stood there before
set_back : {X : Type 0} (xs : List X) (p i : ℕ) (y x : X) → slice_get xs i ≡ Some x → ((i ≢ p) × (slice_get (slice_set xs p y) i ≡ Some x))
    ⊎ ((i ≡ p) × (slice_get (slice_set xs p y) i ≡ Some y))
set_back [] p i y x e = absurd cc
set_back (z ∷ xs) zero zero y x e = inr (refl, refl)
set_back (z ∷ xs) zero (suc i) y x e = inl (λ s. absurd cc, e)
set_back (z ∷ xs) (suc p) zero y x e = inl (λ s. absurd cc, e)
set_back (z ∷ xs) (suc p) (suc i) y x e = elim (set_back xs p i y x e) [
  | inl h ↦ inl (λ s. h.0 (omega (arith, s)), h.1)
  | inr h ↦ inr (ap suc h.0, h.1)
]

get_set : {X : Type 0} (xs : List X) (p : ℕ) (y z : X) → slice_get xs p ≡ Some z → slice_get (slice_set xs p y) p ≡ Some y
get_set [] p y z e = absurd cc
get_set (x ∷ xs) zero y z e = refl
get_set (x ∷ xs) (suc p) y z e = get_set xs p y z e

in_front : {X : Type 0} (xs : List X) (n i : ℕ) (x : X) → slice_get xs i ≡ Some x → i < n → slice_get (take n xs) i ≡ Some x
in_front [] n i x at lt = absurd cc
in_front (y ∷ xs) zero i x at lt = absurd (omega (arith, lt))
in_front (y ∷ xs) (suc n) zero x at lt = at
in_front (y ∷ xs) (suc n) (suc i) x at lt = in_front xs n i x at (omega (arith, lt))

-- ---- one difference more

-- as many as may be are kept
kept_next : (names : ℕ) (name : Name) (rest next new : List Name) → next ≡ take names rest →
    (length next < names → new ≡ next ++ name ∷ []) → (names ≤ length next → new ≡ next) → new ≡ take names (rest ++ name ∷ [])
kept_next names name rest next new is room full = elim (cases_lt (length rest) names) [
  | inl few ↦
      let whole : next ≡ rest = is ∙ take_all names rest (omega (arith, few)) in
      let len : length next ≡ length rest = ap length whole in
      room (omega (arith, few, len)) ∙ ap (λ (l : List Name). l ++ name ∷ []) whole
      ∙ sym (take_all names (rest ++ name ∷ []) (let n = length_push rest name in omega (arith, few, n)))
  | inr many ↦
      let len : length next ≡ names = ap length is ∙ length-take-le names rest (omega (arith, many)) in
      full (omega (arith, len)) ∙ is ∙ sym (take-append-le names rest (name ∷ []) (omega (arith, many)))
]

follows_summary : (names : ℕ) (name : Name) (old new : Group) (rest : List Name) → Follows names name old new → Summarizes names old rest →
    Summarizes names new (rest ++ name ∷ [])
follows_summary names name old new rest f s = record {
  next = kept_next names name rest old.next.items new.next.items s.next f.room f.full;
  more = (let a = f.more in let b = s.more in let n = length_push rest name in omega (arith, a, b, n));
  last = λ before other is. (let e = same_from_push rest before name other is in f.last ∙ ap (λ (n : Name). n.time) e.1);
  alone = λ other none. absurd (let n = length_push rest name in let e = ap length none in omega (arith, n, e));
}

untouched_summary : (names : ℕ) (old new : Group) (rest : List Name) → IsUntouched old new → Summarizes names old rest →
    Summarizes names new rest
untouched_summary names old new rest same s = record {
  next = same.next ∙ s.next;
  more = same.more ∙ s.more;
  last = λ before other is. same.last ∙ s.last before other is;
  alone = λ other none is. same.last ∙ s.alone other none (ap (λ (t : GroupHead). name_of t.first) (sym same.told) ∙ is);
}

-- one group was set, and what it sums up then has in front what it summed up before
module _ (names : ℕ) (groups : List Group) (place : ℕ) (old new : Group) (at : slice_get groups place ≡ Some old)
    (same : group_head new ≡ group_head old)
    (more : List Name) (sums : (rest : List Name) → Summarizes names old rest → Summarizes names new (rest ++ more)) where
  abbrev now : List Group
  now = slice_set groups place new

  abbrev after : (ℕ → List Name) → ℕ → List Name
  after before = put_at before place (before place ++ more)

  set_summaries : (before : ℕ → List Name) → AllSummarize names groups before → AllSummarize names now (after before)
  set_summaries before summaries i group is = elim (at_set groups place i new group is) [
    | inl (other, there) ↦
        subst (Summarizes names group) (sym (put_elsewhere before place (before place ++ more) i other)) (summaries i group there)
    | inr (here, new_is, z, there) ↦
        subst (λ (g : Group). Summarizes names g (after before i)) new_is
        (subst (λ (k : ℕ). Summarizes names new (after before k)) (sym here)
        (subst (Summarizes names new) (sym (put_there before place (before place ++ more))) (sums (before place) (summaries place old at))))
  ]

  -- its first difference is what it was
  still_first : (name : Name) (group : Group) → slice_get groups place ≡ Some group → name_of group.first ≡ Some name →
      name_of new.first ≡ Some name
  still_first name group there first =
      ap (λ (t : GroupHead). name_of t.first) same ∙ ap (λ (g : Group). name_of g.first) (same_Some old group (sym at ∙ there)) ∙ first

  -- what the group had it has still
  has_still : (before : ℕ → List Name) (name : Name) (group : Group) → slice_get groups place ≡ Some group →
      (name_of group.first ≡ Some name) ⊎ Contains (before place) name → (name_of new.first ≡ Some name)
      ⊎ Contains (after before place) name
  has_still before name group there has = elim has [
    | inl first ↦ inl (still_first name group there first)
    | inr among ↦ inr (subst (λ (l : List Name). Contains l name) (sym (put_there before place (before place ++ more)))
        (Contains-append_left (before place) more name among))
  ]

  set_still : (before : ℕ → List Name) (i : ℕ) (name : Name) → IsNameIn groups before i name → IsNameIn now (after before) i name
  set_still before i name is = elim (set_back groups place i new is.group is.at) [
    | inl (other, there) ↦ record {
      group = is.group;
      at = there;
      has = subst (λ (l : List Name). (name_of is.group.first ≡ Some name) ⊎ Contains l name)
          (sym (put_elsewhere before place (before place ++ more) i other)) is.has;
    }
    | inr (here, there) ↦ record {
      group = new;
      at = there;
      has = subst (λ (k : ℕ). (name_of new.first ≡ Some name) ⊎ Contains (after before k) name) (sym here)
          (has_still before name is.group (ap (slice_get groups) (sym here) ∙ is.at)
          (subst (λ (k : ℕ). (name_of is.group.first ≡ Some name) ⊎ Contains (before k) name) here is.has));
    }
  ]

  pub set_counts_still : CountsStill names groups now
  set_counts_still before summaries = record { after = after before; summaries = set_summaries before summaries; still = set_still before }

  set_named : (before : ℕ → List Name) (name : Name) → Contains more name → IsNameInOne now (after before) name
  set_named before name has = (
    place,
    record {
      group = new;
      at = get_set groups place new old at;
      has = inr (subst (λ (l : List Name). Contains l name) (sym (put_there before place (before place ++ more)))
          (Contains-append_right (before place) more name has));
    },
  )

  -- what was the group's first difference before
  was_first : (name : Name) (group : Group) → new ≡ group → name_of group.first ≡ Some name → name_of old.first ≡ Some name
  was_first name group new_is first = ap (λ (t : GroupHead). name_of t.first) (sym same) ∙ ap (λ (g : Group). name_of g.first) new_is ∙ first

  -- what stands there now
  stands_there : (before : ℕ → List Name) (i : ℕ) (name : Name) → i ≡ place → Contains (after before i) name →
      Contains (before place ++ more) name
  stands_there before i name here has =
      subst (λ (l : List Name). Contains l name) (put_there before place (before place ++ more))
      (subst (λ (k : ℕ). Contains (after before k) name) here has)

  set_only : (before : ℕ → List Name) (name : Name) → IsNameInOne now (after before) name →
      IsNameInOne groups before name ⊎ Contains more name
  set_only before name (i, is) = elim (at_set groups place i new is.group is.at) [
    | inl (other, there) ↦ inl (
      i,
      record {
        group = is.group;
        at = there;
        has = subst (λ (l : List Name). (name_of is.group.first ≡ Some name) ⊎ Contains l name)
            (put_elsewhere before place (before place ++ more) i other) is.has;
      },
    )
    | inr (here, new_is, z, there) ↦ elim is.has [
      | inl first ↦ inl (place, record { group = old; at = at; has = inl (was_first name is.group new_is first) })
      | inr among ↦ elim (Contains-append_cases (before place) more name (stands_there before i name here among)) [
        | inl was ↦ inl (place, record { group = old; at = at; has = inr was })
        | inr last ↦ inr last
      ]
    ]
  ]

  -- what a group of this cause sums up now
  set_caused : (before : ℕ → List Name) (cause : Option Cause) (name : Name) → IsSummedUp now (after before) cause name →
      IsSummedUp groups before cause name ⊎ (Contains more name × HasCauseAt groups place cause)
  set_caused before cause name is = elim (at_set groups place is.place new is.group is.at) [
    | inl (other, there) ↦ inl (record {
      place = is.place;
      group = is.group;
      at = there;
      under = is.under;
      among = subst (λ (l : List Name). Contains l name) (put_elsewhere before place (before place ++ more) is.place other) is.among;
    })
    | inr (here, new_is, z, there) ↦
        let under : old.cause ≡ cause = ap (λ (t : GroupHead). t.cause) (sym same) ∙ ap (λ (g : Group). g.cause) new_is ∙ is.under in
        elim (Contains-append_cases (before place) more name (stands_there before is.place name here is.among)) [
          | inl was ↦ inl (record { place = place; group = old; at = at; under = under; among = was })
          | inr last ↦ inr (last, (old, at, under))
        ]
  ]

-- the same of one name more
module _ (names : ℕ) (groups : List Group) (place : ℕ) (old new : Group) (at : slice_get groups place ≡ Some old)
    (same : group_head new ≡ group_head old)
    (name : Name) (sums : (rest : List Name) → Summarizes names old rest → Summarizes names new (rest ++ name ∷ []))
    (before : ℕ → List Name) (fresh : IsNameInOne groups before name → ⊥) (once : AreNamedOnce groups before) where
  abbrev then : List Group
  then = slice_set groups place new

  abbrev rests : ℕ → List Name
  rests = put_at before place (before place ++ name ∷ [])

  -- it stands last, or is one of those before
  last_or_was : (i k : ℕ) (n : Name) → IsNamedAt then rests i k n →
      IsNamedAt groups before i k n ⊎ ((i ≡ place) × (k ≡ length (before place)) × (name ≡ n))
  last_or_was i k n is = elim (at_set groups place i new is.group is.at) [
    | inl (other, there) ↦ inl (record {
      group = is.group;
      at = there;
      named = ap (λ (l : List Name). slice_get l k) (sym (put_elsewhere before place (before place ++ name ∷ []) i other)) ∙ is.named;
    })
    | inr (here, new_is, z, there) ↦
        let named : slice_get (before place ++ name ∷ []) k ≡ Some n =
        ap (λ (l : List Name). slice_get l k) (sym (put_there before place (before place ++ name ∷ [])))
        ∙ ap (λ (j : ℕ). slice_get (rests j) k) (sym here) ∙ is.named in
        elim (last_or_before (before place) name k n named) [
          | inl was ↦ inl (record {
            group = z;
            at = ap (slice_get groups) here ∙ there;
            named = ap (λ (j : ℕ). slice_get (before j) k) here ∙ was;
          })
          | inr (last, is_name) ↦ inr (here, last, is_name)
        ]
  ]

  -- the name was nowhere
  not_before : (i k : ℕ) (n : Name) → name ≡ n → IsNamedAt groups before i k n → ⊥
  not_before i k n is_name was = fresh (
    i,
    record { group = was.group; at = was.at; has = inr (contains_at (before i) k name (was.named ∙ ap Some (sym is_name))) },
  )

  set_once : (i j k l : ℕ) (n : Name) → IsNamedAt then rests i k n → IsNamedAt then rests j l n → (i ≡ j) × (k ≡ l)
  set_once i j k l n one other = elim (last_or_was i k n one) [
    | inl was ↦ elim (last_or_was j l n other) [
      | inl also ↦ once.once i j k l n was also
      | inr (here, last, is_name) ↦ absurd (not_before i k n is_name was)
    ]
    | inr (here, last, is_name) ↦ elim (last_or_was j l n other) [
      | inl also ↦ absurd (not_before j l n is_name also)
      | inr (too, also, so) ↦ (here ∙ sym too, last ∙ sym also)
    ]
  ]

  set_not_first : (i : ℕ) (group : Group) (n : Name) → slice_get then i ≡ Some group → name_of group.first ≡ Some n →
      Contains (rests i) n → ⊥
  set_not_first i group n is first has = elim (at_set groups place i new group is) [
    | inl (other, there) ↦ once.not_first i group n there first
        (subst (λ (l : List Name). Contains l n) (put_elsewhere before place (before place ++ name ∷ []) i other) has)
    | inr (here, new_is, z, there) ↦
        let was = was_first names groups place old new at same (name ∷ []) sums n group new_is first in
        elim (Contains-push_cases (before place) name n (stands_there names groups place old new at same
        (name ∷ []) sums before i n here has)) [
          | inl among ↦ once.not_first place old n at was among
          | inr is_name ↦ fresh (place, record { group = old; at = at; has = inl (was ∙ ap Some (sym is_name)) })
        ]
  ]

  pub set_named_once : AreNamedOnce then rests
  set_named_once = record { once = set_once; not_first = set_not_first }

pub set_counts : (names : ℕ) (groups : List Group) (place : ℕ) (old new : Group) → slice_get groups place ≡ Some old → group_head new ≡ group_head old →
    (name : Name) → ((rest : List Name) → Summarizes names old rest → Summarizes names new (rest ++ name ∷ [])) →
    Counts names (λ n. name ≡ n) (λ cause n. (name ≡ n) × HasCauseAt groups place cause) groups (slice_set groups place new)
set_counts names groups place old new at same name sums before summaries = record {
  after = after names groups place old new at same (name ∷ []) sums before;
  summaries = set_summaries names groups place old new at same (name ∷ []) sums before summaries;
  still = set_still names groups place old new at same (name ∷ []) sums before;
  named = λ n is. set_named names groups place old new at same (name ∷ []) sums before n
      (subst (Contains (name ∷ [])) is (Contains-push [] name));
  only = λ n has. elim (set_only names groups place old new at same (name ∷ []) sums before n has) [
    | inl was ↦ inl was
    | inr last ↦ elim (Contains-push_cases [] name n last) [
      | inl none ↦ nothing_in n none
      | inr is_name ↦ inr is_name
    ]
  ];
  once = λ fresh once. set_named_once names groups place old new at same name sums before (fresh name refl) once;
  caused = λ cause n has. elim (set_caused names groups place old new at same (name ∷ []) sums before cause n has) [
    | inl was ↦ inl was
    | inr (last, under) ↦ elim (Contains-push_cases [] name n last) [
      | inl none ↦ nothing_in n none
      | inr is_name ↦ inr (is_name, under)
    ]
  ];
}

-- what of a group is told stays, whether or not it was followed
pub followed_told : {E : Type 0} (names : ℕ) (name : Name) (old new : Group) (result : Result ⊤ E) →
    OnOk result (Follows names name old new) → OnErr result (IsUntouched old new) → group_head new ≡ group_head old
followed_told names name old new (Ok u) ok err = ok.told
followed_told names name old new (Err e) ok err = err.told

-- the difference joins the group at the place
pub follow_still : {E : Type 0} (names : ℕ) (name : Name) (groups : List Group) (place : ℕ) (old new : Group) (result : Result ⊤ E) →
    slice_get groups place ≡ Some old → OnOk result (Follows names name old new) → OnErr result (IsUntouched old new) →
    CountsStill names groups (slice_set groups place new)
follow_still names name groups place old new (Ok u) at ok err =
    set_counts_still names groups place old new at ok.told (name ∷ []) (λ rest s. follows_summary names name old new rest ok s)
follow_still names name groups place old new (Err e) at ok err =
    set_counts_still names groups place old new at err.told []
    (λ rest s. subst (Summarizes names new) (sym (append-nil rest)) (untouched_summary names old new rest err s))

pub follow_counts : {E : Type 0} (names : ℕ) (name : Name) (groups : List Group) (place : ℕ) (old new : Group) (result : Result ⊤ E) →
    slice_get groups place ≡ Some old → OnOk result (Follows names name old new) →
    OnOk result (Counts names (λ n. name ≡ n) (λ cause n. (name ≡ n) × HasCauseAt groups place cause) groups (slice_set groups place new))
follow_counts names name groups place old new (Ok u) at ok =
    set_counts names groups place old new at ok.told name (λ rest s. follows_summary names name old new rest ok s)
follow_counts names name groups place old new (Err e) at ok = tt

-- a group of its own
module _ (names : ℕ) (d : Difference) (old new : List Group) (group : Group) (opened : IsOpened d group old new)
    (before : ℕ → List Name) where
  abbrev wider : ℕ → List Name
  wider = put_at before (length old) []

  elsewhere : (i : ℕ) (g : Group) → slice_get old i ≡ Some g → wider i ≡ before i
  elsewhere i g at = put_elsewhere before (length old) [] i (λ e. (let lt = place_within old i g at in absurd (omega (arith, e, lt))))

  none_there : (i : ℕ) → i ≡ length old → wider i ≡ []
  none_there i here = ap wider here ∙ put_there before (length old) []

  in_new : (i : ℕ) (g : Group) → slice_get new i ≡ Some g → (slice_get old i ≡ Some g) ⊎ ((i ≡ length old) × (group ≡ g))
  in_new i g at = last_or_before old group i g (ap (λ (l : List Group). slice_get l i) (sym opened.is) ∙ at)

  alone : Summarizes names group []
  alone = record {
    next = opened.next ∙ sym (take_all names [] (omega arith));
    more = opened.more;
    last = λ front other e. absurd (let n = length_push front other in let f = ap length e in omega (arith, n, f));
    alone = λ name none is. opened.last name (sym (ap name_of opened.first) ∙ is);
  }

  wider_summaries : AllSummarize names old before → AllSummarize names new wider
  wider_summaries summaries i g at = elim (in_new i g at) [
    | inl there ↦ subst (Summarizes names g) (sym (elsewhere i g there)) (summaries i g there)
    | inr (here, same) ↦ subst (λ (h : Group). Summarizes names h (wider i)) same
        (subst (Summarizes names group) (sym (none_there i here)) alone)
  ]

  wider_still : (i : ℕ) (n : Name) → IsNameIn old before i n → IsNameIn new wider i n
  wider_still i n has = record {
    group = has.group;
    at = ap (λ (l : List Group). slice_get l i) opened.is ∙ stands_in_front old (group ∷ []) i has.group has.at;
    has = subst (λ (l : List Name). (name_of has.group.first ≡ Some n) ⊎ Contains l n) (sym (elsewhere i has.group has.at)) has.has;
  }

  wider_named : (n : Name) → name_of d ≡ Some n → IsNameInOne new wider n
  wider_named n is = (
    length old,
    record {
      group = group;
      at = ap (λ (l : List Group). slice_get l (length old)) opened.is ∙ stands_last old group;
      has = inl (ap name_of opened.first ∙ is);
    },
  )

  wider_only : (n : Name) → IsNameInOne new wider n → IsNameInOne old before n ⊎ (name_of d ≡ Some n)
  wider_only n (i, is) = elim (in_new i is.group is.at) [
    | inl there ↦ inl (
      i,
      record {
        group = is.group;
        at = there;
        has = subst (λ (l : List Name). (name_of is.group.first ≡ Some n) ⊎ Contains l n) (elsewhere i is.group there) is.has;
      },
    )
    | inr (here, same) ↦ elim is.has [
      | inl first ↦ inr (sym (ap name_of opened.first) ∙ ap (λ (g : Group). name_of g.first) same ∙ first)
      | inr among ↦ nothing_in n (subst (λ (l : List Name). Contains l n) (none_there i here) among)
    ]
  ]

  was_named : (i k : ℕ) (n : Name) → IsNamedAt new wider i k n → IsNamedAt old before i k n
  was_named i k n is = elim (in_new i is.group is.at) [
    | inl there ↦ record {
      group = is.group;
      at = there;
      named = ap (λ (l : List Name). slice_get l k) (sym (elsewhere i is.group there)) ∙ is.named;
    }
    | inr (here, same) ↦ absurd (let e : slice_get [] k ≡ Some n = ap (λ (l : List Name). slice_get l k) (sym (none_there i here))
        ∙ is.named in cc)
  ]

  wider_caused : (cause : Option Cause) (n : Name) → IsSummedUp new wider cause n → IsSummedUp old before cause n
  wider_caused cause n is = elim (in_new is.place is.group is.at) [
    | inl there ↦ record {
      place = is.place;
      group = is.group;
      at = there;
      under = is.under;
      among = subst (λ (l : List Name). Contains l n) (elsewhere is.place is.group there) is.among;
    }
    | inr (here, same) ↦ nothing_in n (subst (λ (l : List Name). Contains l n) (none_there is.place here) is.among)
  ]

  wider_once : AreNamedOnce old before → AreNamedOnce new wider
  wider_once once = record {
    once = λ i j k l n one other. once.once i j k l n (was_named i k n one) (was_named j l n other);
    not_first = λ i g n at first has. elim (in_new i g at) [
      | inl there ↦ once.not_first i g n there first (subst (λ (l : List Name). Contains l n) (elsewhere i g there) has)
      | inr (here, same) ↦ nothing_in n (subst (λ (l : List Name). Contains l n) (none_there i here) has)
    ];
  }

pub opened_by : (d : Difference) (old new : List Group) (group : Group) (name : Name) → name_of d ≡ Some name → new ≡ old ++ group ∷ [] →
    group.first ≡ d → group.next.items ≡ [] → group.more ≡ 0 → group.last ≡ name.time → IsOpened d group old new
opened_by d old new group name named is first next more last = record {
  is = is;
  first = first;
  next = next;
  more = more;
  last = λ n also. last ∙ ap (λ (m : Name). m.time) (same_Some name n (sym named ∙ also));
}

pub open_counts : (names : ℕ) (d : Difference) (F : Option Cause → Name → Type 0) (old new : List Group) (group : Group) →
    IsOpened d group old new → Counts names (λ n. name_of d ≡ Some n) F old new
open_counts names d F old new group opened before summaries = record {
  after = wider names d old new group opened before;
  summaries = wider_summaries names d old new group opened before summaries;
  still = wider_still names d old new group opened before;
  named = wider_named names d old new group opened before;
  only = wider_only names d old new group opened before;
  once = λ fresh once. wider_once names d old new group opened before once;
  caused = λ cause n has. inl (wider_caused names d old new group opened before cause n has);
}

-- another group that begins with a difference that is there
pub widens_counts : (names : ℕ) (d : Difference) (F : Option Cause → Name → Type 0) (old mid new : List Group) →
    Counts names (λ n. name_of d ≡ Some n) F old mid → Widens d mid new → Counts names (λ n. name_of d ≡ Some n) F old new
widens_counts names d F old mid new c (inl same) = subst (Counts names (λ n. name_of d ≡ Some n) F old) (sym same) c
widens_counts names d F old mid new c (inr (group, opened)) = λ before summaries.
    (let a = c before summaries in
    record {
      after = wider names d mid new group opened a.after;
      summaries = wider_summaries names d mid new group opened a.after a.summaries;
      still = λ i n has. wider_still names d mid new group opened a.after i n (a.still i n has);
      named = wider_named names d mid new group opened a.after;
      only = λ n has. elim (wider_only names d mid new group opened a.after n has) [
        | inl there ↦ a.only n there
        | inr is ↦ inr is
      ];
      once = λ fresh once. wider_once names d mid new group opened a.after (a.once fresh once);
      caused = λ cause n has. a.caused cause n (wider_caused names d mid new group opened a.after cause n has);
    })

-- where groups that were added are taken away again
pub take_still : (names : ℕ) (old mid : List Group) → CountsStill names old mid → CountsStill names old (take (length old) mid)
take_still names old mid c before summaries =
    let a = c before summaries in
    record {
      after = a.after;
      summaries = λ i g at. a.summaries i g (taken_at (length old) mid i g at).1;
      still = λ i n has. (let m = a.still i n has in
          record { group = m.group; at = in_front mid (length old) i m.group m.at (place_within old i has.group has.at); has = m.has });
    }

-- ---- one side after another, one difference after another

-- where the difference was counted by then, another side may open a group; where it wasn't, no group has changed
pub side_more : (names : ℕ) (d : Difference) (F : Option Cause → Name → Type 0) (old mid new : List Group) (counted : Bool) →
    (counted ≡ true → Counts names (λ n. name_of d ≡ Some n) F old mid) → (counted ≡ false → mid ≡ old) →
    (counted ≡ true → Widens d mid new) → (counted ≡ false → Counts names (λ n. name_of d ≡ Some n) F mid new) →
    Counts names (λ n. name_of d ≡ Some n) F old new
side_more names d F old mid new true so_far same wider more = widens_counts names d F old mid new (so_far refl) (wider refl)
side_more names d F old mid new false so_far same wider more =
    subst (λ (l : List Group). Counts names (λ n. name_of d ≡ Some n) F l new) (same refl) (more refl)

pub race_more : {R : Type 0} (names : ℕ) (f : R → Difference) (F : Option Cause → Name → Type 0) (races : List R) (i : ℕ) (race : R)
    (old mid new : List Group) → slice_get races i ≡ Some race → AreNamedApart f races → Counts names (IsNamedIn f races i) F old mid →
    Counts names (λ n. name_of (f race) ≡ Some n) F mid new → Counts names (IsNamedIn f races (i + 1)) F old new
race_more names f F races i race old mid new at apart one other =
    let P : Name → Type 0 = IsNamedIn f races i in
    let Q : Name → Type 0 = λ n. name_of (f race) ≡ Some n in
    counts_as names (λ n. P n ⊎ Q n) (IsNamedIn f races (i + 1)) F F old new (λ n is. elim (cases_lt is.place i) [
      | inl before ↦ inl (record { place = is.place; race = is.race; within = before; at = is.at; is = is.is })
      | inr behind ↦
          let lt = is.within in
          let here : is.place ≡ i = omega (arith, lt, behind) in
          inr (ap (λ r. name_of (f r)) (same_Some race is.race (sym at ∙ ap (slice_get races) (sym here) ∙ is.at)) ∙ is.is)
    ]) (λ n is. elim is [
      | inl before ↦ record {
        place = before.place;
        race = before.race;
        within = (let lt = before.within in omega (arith, lt));
        at = before.at;
        is = before.is;
      }
      | inr here ↦ record { place = i; race = race; within = omega arith; at = at; is = here }
    ]) (λ cause n so. so) (counts_on names P Q F old mid new (λ n p q. apart p.place i p.race race n p.within p.at at p.is q) one other)

pub no_race_yet : {R : Type 0} (names : ℕ) (f : R → Difference) (F : Option Cause → Name → Type 0) (races : List R) (i : ℕ)
    (groups : List Group) → i ≡ 0 → Counts names (IsNamedIn f races i) F groups groups
no_race_yet names f F races i groups none = counts_as names NoName (IsNamedIn f races i) F F groups groups
    (λ n is. absurd (let lt = is.within in omega (arith, lt, none))) (λ n is. absurd is) (λ cause n so. so)
    (counts_none names F groups groups refl)

pub all_races : {R : Type 0} (names : ℕ) (f : R → Difference) (F : Option Cause → Name → Type 0) (races : List R) (i : ℕ)
    (old new : List Group) → length races ≤ i → Counts names (IsNamedIn f races i) F old new →
    Counts names (IsNamedIn f races (length races)) F old new
all_races names f F races i old new whole c =
    counts_as names (IsNamedIn f races i) (IsNamedIn f races (length races)) F F old new
    (λ n is. record { place = is.place; race = is.race; within = (let lt = is.within in omega (arith, lt, whole)); at = is.at; is = is.is })
    (λ n is. record { place = is.place; race = is.race; within = place_within races is.place is.race is.at; at = is.at; is = is.is })
    (λ cause n so. so) c
