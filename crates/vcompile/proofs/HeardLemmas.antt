-- Whoever may wait for a change or for an event stands in the list of that, and nobody else does.
use Rattle.std.proofs.Common.{◌≡◌, ℕ, ◌+◌, ◌<◌, zero, suc, nat_lt, Bool, true, false, ◌||◌, List, [], ◌∷◌, length, replicate, slice_get, Option, Some, refl, sym, ap, subst, ◌∙◌, ◌⊎◌, inl, inr, arith}
use Rattle.std.specs.List.{Contains}
use Rattle.std.proofs.lemmas.List.Elements.{Contains-append_left, Contains-append_right, Contains-append_cases}
use Rattle.basis.proofs.Bools.{and_left, and_right, or_first, or_second}
use Rattle.vbits.specs.Vectors.{Vector}
use Rattle.vcode.specs.declared.link.Link.{Link}
use Rattle.vcode.specs.declared.listener.Listener.{Listener}
use Rattle.vcode.specs.Code.{Code, listeners_at}
use Rattle.vdesign.specs.Design.{Design}
use Rattle.vdesign.specs.declared.action.Edge.TheVariants.{Any}
use Rattle.vdesign.specs.declared.action.Term.{Term}
use Rattle.vdesign.specs.declared.action.Term.TheVariants.{Change, Event}
use Rattle.vdesign.specs.declared.action.Action.{Action}
use Rattle.vdesign.specs.declared.action.Action.TheVariants.{Assign, Nonblocking, AssignDelayed, NonblockingDelayed, Trigger, Test, Case, While, Repeat, Forever, Delay, EventControl, Wait, ContinuousAssign, Print, DumpVars, Dump, NoOperation, Finish, Stop}
use Rattle.vmodel.specs.Waking.{hears, any_hears, has_come}
use Rattle.vcompile.specs.Listening.{terms_of, edge_of, listener_at, at_edge, Lists, with_listener, with_term, with_terms, with_heard, events_in, no_lists, lists_of}
use Rattle.vcompile.specs.Whole.{is_listed, are_listed, all_listed}
use Rattle.vcompile.specs.CodeOf.{code_of}
use Rattle.vcompile.specs.Laws.{heard_of, with_edge, HearsAll, Awaits, HearsOnly}
use Rattle.std.proofs.lemmas.Bool.Decides.{nat_tests}
use Rattle.vcompile.proofs.StepLemmas.{Holds, holds_of}

-- ---- one list

pub nobody : {X : Type 0} (x : X) → Contains [] x → ⊥
nobody x h = absurd (omega (arith, h.1))

only_one : {X : Type 0} (y x : X) → Contains (y ∷ []) x → y ≡ x
only_one y x (zero, lt, is) = is
only_one y x (suc i, lt, is) = absurd (omega (arith, lt))

list_keeps : (lists : List (List Listener)) (n m : ℕ) (l x : Listener) → Contains (listeners_at lists m) x → Contains (listeners_at (with_listener n l lists) m) x
list_keeps [] n m l x h = h
list_keeps (y ∷ lists) zero zero l x h = Contains-append_left y (l ∷ []) x h
list_keeps (y ∷ lists) zero (suc m) l x h = h
list_keeps (y ∷ lists) (suc n) zero l x h = h
list_keeps (y ∷ lists) (suc n) (suc m) l x h = list_keeps lists n m l x h

list_has : (lists : List (List Listener)) (n : ℕ) (l : Listener) → n < length lists → Contains (listeners_at (with_listener n l lists) n) l
list_has [] n l lt = absurd (omega (arith, lt))
list_has (y ∷ lists) zero l lt = Contains-append_right y (l ∷ []) l (0, omega arith, refl)
list_has (y ∷ lists) (suc n) l lt = list_has lists n l (omega (arith, lt))

list_only : (lists : List (List Listener)) (n m : ℕ) (l x : Listener) → Contains (listeners_at (with_listener n l lists) m) x →
    Contains (listeners_at lists m) x ⊎ ((n ≡ m) × (l ≡ x))
list_only [] n m l x h = inl h
list_only (y ∷ lists) zero zero l x h = elim (Contains-append_cases y (l ∷ []) x h) [
  | inl old ↦ inl old
  | inr new ↦ inr (refl, only_one l x new)
]
list_only (y ∷ lists) zero (suc m) l x h = inl h
list_only (y ∷ lists) (suc n) zero l x h = inl h
list_only (y ∷ lists) (suc n) (suc m) l x h = elim (list_only lists n m l x h) [
  | inl old ↦ inl old
  | inr new ↦ inr (ap suc new.0, new.1)
]

list_length : (lists : List (List Listener)) (n : ℕ) (l : Listener) → length (with_listener n l lists) ≡ length lists
list_length [] n l = refl
list_length (y ∷ lists) zero l = refl
list_length (y ∷ lists) (suc n) l = ap suc (list_length lists n l)

none_listed : (count m : ℕ) (x : Listener) → Contains (listeners_at (replicate count []) m) x → ⊥
none_listed zero m x h = nobody x h
none_listed (suc count) zero x h = nobody x h
none_listed (suc count) (suc m) x h = none_listed count m x h

length_of_none : (count : ℕ) (empty : List Listener) → length (replicate count empty) ≡ count
length_of_none zero empty = refl
length_of_none (suc count) empty = ap suc (length_of_none count empty)

is_place : {X : Type 0} (xs : List X) (n count : ℕ) → length xs ≡ count → nat_lt n count ≡ true → n < length xs
is_place xs n count is h = grind (arith, nat_tests)

-- ---- a term

-- those who listen to what a term is of
abbrev pub heard_in : Lists → Term → List Listener
heard_in lists (Change edge variable) = listeners_at lists.by_variable variable
heard_in lists (Event event) = listeners_at lists.by_event event

-- there are so many lists
abbrev pub AreLists : ℕ → ℕ → Lists → Type 0
AreLists variables events lists = (length lists.by_variable ≡ variables) × (length lists.by_event ≡ events)

term_lists : (variables events : ℕ) (l : Listener) (t : Term) (lists : Lists) → AreLists variables events lists → AreLists variables events (with_term l t lists)
term_lists variables events l (Change edge variable) lists h = (list_length lists.by_variable variable (at_edge l edge) ∙ h.0, h.1)
term_lists variables events l (Event event) lists h = (h.0, list_length lists.by_event event (at_edge l Any) ∙ h.1)

term_keeps : (l : Listener) (t : Term) (lists : Lists) (term : Term) (x : Listener) → Contains (heard_in lists term) x → Contains (heard_in (with_term l t lists) term) x
term_keeps l (Change edge variable) lists (Change other one) x h = list_keeps lists.by_variable variable one (at_edge l edge) x h
term_keeps l (Change edge variable) lists (Event one) x h = h
term_keeps l (Event event) lists (Change other one) x h = h
term_keeps l (Event event) lists (Event one) x h = list_keeps lists.by_event event one (at_edge l Any) x h

term_has : (variables events : ℕ) (l : Listener) (t : Term) (lists : Lists) → AreLists variables events lists → is_listed variables events t ≡ true →
    Contains (heard_in (with_term l t lists) t) (at_edge l (edge_of t))
term_has variables events l (Change edge variable) lists h listed =
    list_has lists.by_variable variable (at_edge l edge) (is_place lists.by_variable variable variables h.0 listed)
term_has variables events l (Event event) lists h listed =
    list_has lists.by_event event (at_edge l Any) (is_place lists.by_event event events h.1 listed)

-- x is of the term t, and listens as one that listens to another term would
record IsOf (l : Listener) (t term : Term) (x : Listener) : Type 0 where
  same : at_edge l (edge_of t) ≡ x
  heard : with_edge term x.edge ≡ t

term_only : (l : Listener) (t : Term) (lists : Lists) (term : Term) (x : Listener) → Contains (heard_in (with_term l t lists) term) x →
    Contains (heard_in lists term) x ⊎ IsOf l t term x
term_only l (Change edge variable) lists (Change other one) x h = elim (list_only lists.by_variable variable one (at_edge l edge) x h) [
  | inl old ↦ inl old
  | inr new ↦ inr (record { same = new.1; heard = ap (λ e. Change e one) (ap (λ (y : Listener). y.edge) (sym new.1)) ∙ ap (Change edge) (sym new.0) })
]
term_only l (Change edge variable) lists (Event one) x h = inl h
term_only l (Event event) lists (Change other one) x h = inl h
term_only l (Event event) lists (Event one) x h = elim (list_only lists.by_event event one (at_edge l Any) x h) [
  | inl old ↦ inl old
  | inr new ↦ inr (record { same = new.1; heard = ap Event (sym new.0) })
]

-- ---- the terms of an action

terms_lists : (variables events : ℕ) (l : Listener) (terms : List Term) (lists : Lists) → AreLists variables events lists → AreLists variables events (with_terms l terms lists)
terms_lists variables events l [] lists h = h
terms_lists variables events l (t ∷ terms) lists h = terms_lists variables events l terms (with_term l t lists) (term_lists variables events l t lists h)

terms_keep : (l : Listener) (terms : List Term) (lists : Lists) (term : Term) (x : Listener) → Contains (heard_in lists term) x → Contains (heard_in (with_terms l terms lists) term) x
terms_keep l [] lists term x h = h
terms_keep l (t ∷ terms) lists term x h = terms_keep l terms (with_term l t lists) term x (term_keeps l t lists term x h)

terms_have : (variables events : ℕ) (l : Listener) (terms : List Term) (lists : Lists) (i : ℕ) (term : Term) → AreLists variables events lists →
    are_listed variables events terms ≡ true → slice_get terms i ≡ Some term → Contains (heard_in (with_terms l terms lists) term) (at_edge l (edge_of term))
terms_have variables events l [] lists i term h listed there = absurd cc
terms_have variables events l (t ∷ terms) lists zero term h listed there =
    let same : t ≡ term = cc in
    subst (λ u. Contains (heard_in (with_terms l terms (with_term l t lists)) u) (at_edge l (edge_of u))) same
    (terms_keep l terms (with_term l t lists) t (at_edge l (edge_of t))
    (term_has variables events l t lists h (and_left (is_listed variables events t) (are_listed variables events terms) listed)))
terms_have variables events l (t ∷ terms) lists (suc i) term h listed there =
    terms_have variables events l terms (with_term l t lists) i term (term_lists variables events l t lists h)
    (and_right (is_listed variables events t) (are_listed variables events terms) listed) there

-- x is of one of the terms
record IsOfOne (l : Listener) (terms : List Term) (term : Term) (x : Listener) : Type 0 where
  one : Term
  at : ℕ
  there : slice_get terms at ≡ Some one
  is_of : IsOf l one term x

terms_only : (l : Listener) (terms : List Term) (lists : Lists) (term : Term) (x : Listener) → Contains (heard_in (with_terms l terms lists) term) x →
    Contains (heard_in lists term) x ⊎ IsOfOne l terms term x
terms_only l [] lists term x h = inl h
terms_only l (t ∷ terms) lists term x h = elim (terms_only l terms (with_term l t lists) term x h) [
  | inl before ↦ elim (term_only l t lists term x before) [
    | inl old ↦ inl old
    | inr new ↦ inr (record { one = t; at = 0; there = refl; is_of = new })
  ]
  | inr later ↦ inr (record { one = later.one; at = suc later.at; there = later.there; is_of = later.is_of })
]

-- ---- all actions

all_keep : (links : List Link) (n : ℕ) (actions : List Action) (lists : Lists) (term : Term) (x : Listener) → Contains (heard_in lists term) x →
    Contains (heard_in (with_heard links n actions lists) term) x
all_keep links n [] lists term x h = h
all_keep links n (a ∷ more) lists term x h =
    all_keep links (suc n) more (with_terms (listener_at links n a Any) (terms_of a) lists) term x
    (terms_keep (listener_at links n a Any) (terms_of a) lists term x h)

all_have : (variables events : ℕ) (links : List Link) (n : ℕ) (actions : List Action) (lists : Lists) (place : ℕ) (action : Action) (i : ℕ) (term : Term) →
    AreLists variables events lists → all_listed variables events actions ≡ true → slice_get actions place ≡ Some action →
    slice_get (terms_of action) i ≡ Some term →
    Contains (heard_in (with_heard links n actions lists) term) (listener_at links (n + place) action (edge_of term))
all_have variables events links n [] lists place action i term h listed there at = absurd cc
all_have variables events links n (a ∷ more) lists zero action i term h listed there at =
    let same : a ≡ action = cc in
    let number : n ≡ n + 0 = omega arith in
    let terms_at : slice_get (terms_of a) i ≡ Some term = subst (λ b. slice_get (terms_of b) i ≡ Some term) (sym same) at in
    subst (λ p. Contains (heard_in (with_heard links n (a ∷ more) lists) term) (listener_at links p action (edge_of term))) number
    (subst (λ b. Contains (heard_in (with_heard links n (a ∷ more) lists) term) (listener_at links n b (edge_of term))) same
    (all_keep links (suc n) more (with_terms (listener_at links n a Any) (terms_of a) lists) term (listener_at links n a (edge_of term))
    (terms_have variables events (listener_at links n a Any) (terms_of a) lists i term h
    (and_left (are_listed variables events (terms_of a)) (all_listed variables events more) listed) terms_at)))
all_have variables events links n (a ∷ more) lists (suc place) action i term h listed there at =
    let number : suc n + place ≡ n + suc place = omega arith in
    subst (λ p. Contains (heard_in (with_heard links n (a ∷ more) lists) term) (listener_at links p action (edge_of term))) number
    (all_have variables events links (suc n) more (with_terms (listener_at links n a Any) (terms_of a) lists) place action i term
    (terms_lists variables events (listener_at links n a Any) (terms_of a) lists h)
    (and_right (are_listed variables events (terms_of a)) (all_listed variables events more) listed) there at)

-- x is of an action
record IsOfAction (links : List Link) (n : ℕ) (actions : List Action) (term : Term) (x : Listener) : Type 0 where
  place : ℕ
  action : Action
  there : slice_get actions place ≡ Some action
  is_of : IsOfOne (listener_at links (n + place) action Any) (terms_of action) term x

all_only : (links : List Link) (n : ℕ) (actions : List Action) (lists : Lists) (term : Term) (x : Listener) →
    Contains (heard_in (with_heard links n actions lists) term) x → Contains (heard_in lists term) x ⊎ IsOfAction links n actions term x
all_only links n [] lists term x h = inl h
all_only links n (a ∷ more) lists term x h =
    elim (all_only links (suc n) more (with_terms (listener_at links n a Any) (terms_of a) lists) term x h) [
      | inl before ↦ elim (terms_only (listener_at links n a Any) (terms_of a) lists term x before) [
        | inl old ↦ inl old
        | inr new ↦ inr (first new)
      ]
      | inr later ↦ inr (next later)
    ]
  where
    first : IsOfOne (listener_at links n a Any) (terms_of a) term x → IsOfAction links n (a ∷ more) term x
    first new =
        let number : n ≡ n + 0 = omega arith in
        record { place = 0; action = a; there = refl; is_of = subst (λ p. IsOfOne (listener_at links p a Any) (terms_of a) term x) number new }

    next : IsOfAction links (suc n) more term x → IsOfAction links n (a ∷ more) term x
    next later =
        let number : suc n + later.place ≡ n + suc later.place = omega arith in
        record {
          place = suc later.place;
          action = later.action;
          there = later.there;
          is_of = subst (λ p. IsOfOne (listener_at links p later.action Any) (terms_of later.action) term x) number later.is_of;
        }

-- ---- what has come

comes_by_terms : (before after : List Vector) (triggered : Option ℕ) (action : Action) →
    has_come (Some action) before after triggered ≡ any_hears before after triggered (terms_of action)
comes_by_terms before after triggered (Assign targets value) = refl
comes_by_terms before after triggered (Nonblocking targets value) = refl
comes_by_terms before after triggered (AssignDelayed amount targets value) = refl
comes_by_terms before after triggered (NonblockingDelayed amount targets value) = refl
comes_by_terms before after triggered (Trigger event) = refl
comes_by_terms before after triggered (Test condition when_true otherwise) = refl
comes_by_terms before after triggered (Case kind value branches otherwise) = refl
comes_by_terms before after triggered (While condition body) = refl
comes_by_terms before after triggered (Repeat count body) = refl
comes_by_terms before after triggered (Forever body) = refl
comes_by_terms before after triggered (Delay amount body) = refl
comes_by_terms before after triggered (EventControl terms body) = refl
comes_by_terms before after triggered (Wait condition terms body) = refl
comes_by_terms before after triggered (ContinuousAssign targets value terms) = refl
comes_by_terms before after triggered (Print when pieces) = refl
comes_by_terms before after triggered (DumpVars selection) = refl
comes_by_terms before after triggered (Dump asked) = refl
comes_by_terms before after triggered NoOperation = refl
comes_by_terms before after triggered Finish = refl
comes_by_terms before after triggered Stop = refl

record IsHeardAt (before after : List Vector) (triggered : Option ℕ) (terms : List Term) : Type 0 where
  at : ℕ
  term : Term
  there : slice_get terms at ≡ Some term
  comes : hears before after triggered term ≡ true

heard_by : (before after : List Vector) (triggered : Option ℕ) (t : Term) (terms : List Term) (test : Bool) → hears before after triggered t ≡ test →
    any_hears before after triggered (t ∷ terms) ≡ true → (any_hears before after triggered terms ≡ true → IsHeardAt before after triggered terms) →
    IsHeardAt before after triggered (t ∷ terms)
heard_by before after triggered t terms true is h later = record { at = 0; term = t; there = refl; comes = is }
heard_by before after triggered t terms false is h later =
    let more : any_hears before after triggered terms ≡ true = ap (λ b. b || any_hears before after triggered terms) (sym is) ∙ h in
    let found : IsHeardAt before after triggered terms = later more in
    record { at = suc found.at; term = found.term; there = found.there; comes = found.comes }

heard_at : (before after : List Vector) (triggered : Option ℕ) (terms : List Term) → any_hears before after triggered terms ≡ true → IsHeardAt before after triggered terms
heard_at before after triggered [] h = absurd cc
heard_at before after triggered (t ∷ terms) h =
    heard_by before after triggered t terms (hears before after triggered t) refl h (heard_at before after triggered terms)

any_heard : (before after : List Vector) (triggered : Option ℕ) (terms : List Term) (i : ℕ) (term : Term) → slice_get terms i ≡ Some term →
    hears before after triggered term ≡ true → any_hears before after triggered terms ≡ true
any_heard before after triggered [] i term there comes = absurd cc
any_heard before after triggered (t ∷ terms) zero term there comes =
    let same : t ≡ term = cc in
    or_first (hears before after triggered t) (any_hears before after triggered terms) (ap (hears before after triggered) same ∙ comes)
any_heard before after triggered (t ∷ terms) (suc i) term there comes =
    or_second (hears before after triggered t) (any_hears before after triggered terms) (any_heard before after triggered terms i term there comes)

-- ---- the lists of a design

heard_is : (design : Design) (code : Code) → Holds design code → (term : Term) → heard_of code term ≡ heard_in (lists_of design code.links) term
heard_is design code facts (Change edge variable) = ap (λ lists. listeners_at lists variable) facts.by_variable
heard_is design code facts (Event event) = ap (λ lists. listeners_at lists event) facts.by_event

listed_there : (design : Design) (code : Code) → Holds design code → (place : ℕ) (action : Action) (i : ℕ) (term : Term) → slice_get design.actions place ≡ Some action →
    slice_get (terms_of action) i ≡ Some term → Contains (heard_of code term) (listener_at code.links place action (edge_of term))
listed_there design code facts place action i term there at =
    let zero_plus : 0 + place ≡ place = omega arith in
    subst (λ (listeners : List Listener). Contains listeners (listener_at code.links place action (edge_of term))) (sym (heard_is design code facts term))
    (subst (λ p. Contains (heard_in (lists_of design code.links) term) (listener_at code.links p action (edge_of term))) zero_plus
    (all_have (length design.variables) (events_in design.actions) code.links 0 design.actions (no_lists design) place action i term
    (length_of_none (length design.variables) [], length_of_none (events_in design.actions) []) facts.listed there at))

pub hears_all : HearsAll
hears_all design place action before after triggered whole there comes =
    let one : IsHeardAt before after triggered (terms_of action) =
    heard_at before after triggered (terms_of action) (sym (comes_by_terms before after triggered action) ∙ comes) in
    record {
      term = one.term;
      comes = one.comes;
      listed = listed_there design (code_of design) (holds_of design whole) place action one.at one.term there one.there;
    }

none_before : (design : Design) (term : Term) (x : Listener) → Contains (heard_in (no_lists design) term) x → ⊥
none_before design (Change edge variable) x h = none_listed (length design.variables) variable x h
none_before design (Event event) x h = none_listed (events_in design.actions) event x h

awaits : (design : Design) (term : Term) (x : Listener) → IsOfAction (code_of design).links 0 design.actions term x → Awaits design term x
awaits design term x found =
    let zero_plus : 0 + found.place ≡ found.place = omega arith in
    let here : IsOfOne (listener_at (code_of design).links found.place found.action Any) (terms_of found.action) term x =
    subst (λ p. IsOfOne (listener_at (code_of design).links p found.action Any) (terms_of found.action) term x) zero_plus found.is_of in
    let edge : edge_of here.one ≡ x.edge = ap (λ (y : Listener). y.edge) here.is_of.same in
    record {
      place = found.place;
      action = found.action;
      there = found.there;
      is = sym here.is_of.same ∙ ap (listener_at (code_of design).links found.place found.action) edge;
      comes = λ before after triggered heard.
          comes_by_terms before after triggered found.action
          ∙ any_heard before after triggered (terms_of found.action) here.at here.one here.there
          (ap (hears before after triggered) (sym here.is_of.heard) ∙ heard);
    }

pub hears_only : HearsOnly
hears_only design term x whole listed =
    let facts : Holds design (code_of design) = holds_of design whole in
    let among : Contains (heard_in (lists_of design (code_of design).links) term) x =
    subst (λ (listeners : List Listener). Contains listeners x) (heard_is design (code_of design) facts term) listed in
    elim (all_only (code_of design).links 0 design.actions (no_lists design) term x among) [
      | inl before ↦ absurd (none_before design term x before)
      | inr found ↦ awaits design term x found
    ]
