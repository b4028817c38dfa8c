-- What the tests of links tell: which point stands behind a place, and whose it is.
use Rattle.std.proofs.Common.{◌≡◌, ℕ, ◌+◌, ◌<◌, ◌≤◌, zero, suc, ◌==◌, nat_lt, true, ◌&&◌, List, [], ◌∷◌, length, slice_get, unwrap_or, Option, None, Some, refl, sym, ap, subst, ◌∙◌, arith}
use Rattle.std.proofs.lemmas.Bool.Decides.{nat_tests}
use Rattle.basis.proofs.Bools.{and_left, and_right}
use Rattle.basis.proofs.Lists.{place_within, listed_place}
use Rattle.vcode.specs.declared.point.Point.{Point}
use Rattle.vcode.specs.declared.point.Point.TheVariants.{Ended, Executing, Repeating, Writing, Waiting}
use Rattle.vcode.specs.declared.link.Link.{Link}
use Rattle.vcode.specs.Points.{is_same_point, place_of_point}
use Rattle.vcode.specs.Code.{no_link, link_at}
use Rattle.vdesign.specs.declared.action.Action.{Action}
use Rattle.vcompile.specs.Links.{place_number, first_point, begins_by}
use Rattle.vcompile.specs.Whole.{leads_by, is_chain, is_linked, are_linked, begin_well, is_behind, is_owned, leads_on, lead_on}

-- ---- numbers and points

pub of_same_number : {X : Type 0} (f : ℕ → X) (a b : ℕ) → (a == b) ≡ true → f a ≡ f b
of_same_number f a b h = let same : a ≡ b = grind (arith, nat_tests) in ap f same

is_between : (low n high : ℕ) → (nat_lt low n && nat_lt n high) ≡ true → (low < n) × (n < high)
is_between low n high h =
    let above : nat_lt low n ≡ true = and_left (nat_lt low n) (nat_lt n high) h in
    let below : nat_lt n high ≡ true = and_right (nat_lt low n) (nat_lt n high) h in
    (grind (arith, nat_tests), grind (arith, nat_tests))

pub number_of_place : (place : ℕ) → place ≤ 4294967295 → place_number place ≡ place
number_of_place place le = grind arith

-- there are as many points at which processes begin
pub begins_as_many : (processes : List (List ℕ)) → length (begins_by processes) ≡ length processes
begins_as_many [] = refl
begins_as_many (places ∷ more) = ap suc (begins_as_many more)

pub few_begins : (processes : List (List ℕ)) (begins : List Point) → begins ≡ begins_by processes → length processes ≤ 256 → length begins ≤ 256
few_begins processes begins is few = subst (λ n. n ≤ 256) (sym (ap length is ∙ begins_as_many processes)) few

same_point : (p q : Point) → is_same_point p q ≡ true → p ≡ q
same_point Ended Ended h = refl
same_point Ended (Executing b) h = absurd cc
same_point Ended (Repeating b) h = absurd cc
same_point Ended (Writing b) h = absurd cc
same_point Ended (Waiting b) h = absurd cc
same_point (Executing a) Ended h = absurd cc
same_point (Executing a) (Executing b) h = of_same_number Executing a b h
same_point (Executing a) (Repeating b) h = absurd cc
same_point (Executing a) (Writing b) h = absurd cc
same_point (Executing a) (Waiting b) h = absurd cc
same_point (Repeating a) Ended h = absurd cc
same_point (Repeating a) (Executing b) h = absurd cc
same_point (Repeating a) (Repeating b) h = of_same_number Repeating a b h
same_point (Repeating a) (Writing b) h = absurd cc
same_point (Repeating a) (Waiting b) h = absurd cc
same_point (Writing a) Ended h = absurd cc
same_point (Writing a) (Executing b) h = absurd cc
same_point (Writing a) (Repeating b) h = absurd cc
same_point (Writing a) (Writing b) h = of_same_number Writing a b h
same_point (Writing a) (Waiting b) h = absurd cc
same_point (Waiting a) Ended h = absurd cc
same_point (Waiting a) (Executing b) h = absurd cc
same_point (Waiting a) (Repeating b) h = absurd cc
same_point (Waiting a) (Writing b) h = absurd cc
same_point (Waiting a) (Waiting b) h = of_same_number Waiting a b h

-- ---- a place leads to a point

pub record IsLink (links : List Link) (place owner : ℕ) (next : Point) : Type 0 where
  pub within : place < length links
  pub owner_is : (link_at links place).owner ≡ owner
  pub next_is : (link_at links place).next ≡ next

leads_as : (links : List Link) (place owner : ℕ) (next : Point) (found : Option Link) → slice_get links place ≡ found →
    leads_by found owner next ≡ true → IsLink links place owner next
leads_as links place owner next None is h = absurd cc
leads_as links place owner next (Some l) is h =
    let there : link_at links place ≡ l = ap (λ (o : Option Link). unwrap_or o no_link) is in
    record {
      within = place_within links place l is;
      owner_is = ap (λ (x : Link). x.owner) there ∙ of_same_number (λ n. n) l.owner owner (and_right (is_same_point l.next next) (l.owner == owner) h);
      next_is = ap (λ (x : Link). x.next) there ∙ same_point l.next next (and_left (is_same_point l.next next) (l.owner == owner) h);
    }

pub first_leads : (links : List Link) (owner place : ℕ) (places : List ℕ) (end : Point) → is_chain links owner (place ∷ places) end ≡ true →
    IsLink links place owner (first_point places end)
first_leads links owner place places end h =
    leads_as links place owner (first_point places end) (slice_get links place) refl
    (and_left (leads_by (slice_get links place) owner (first_point places end)) (is_chain links owner places end) h)

pub others_lead : (links : List Link) (owner place : ℕ) (places : List ℕ) (end : Point) → is_chain links owner (place ∷ places) end ≡ true →
    is_chain links owner places end ≡ true
others_lead links owner place places end h =
    and_right (leads_by (slice_get links place) owner (first_point places end)) (is_chain links owner places end) h

-- ---- among all

pub linked_at : (links : List Link) (n : ℕ) (actions : List Action) (i : ℕ) (action : Action) → are_linked links n actions ≡ true →
    slice_get actions i ≡ Some action → is_linked links (n + i) action ≡ true
linked_at links n [] i action h there = absurd cc
linked_at links n (a ∷ more) zero action h there =
    let same : a ≡ action = cc in
    let place : n ≡ n + 0 = omega arith in
    subst (λ p. is_linked links p action ≡ true) place
    (subst (λ x. is_linked links n x ≡ true) same (and_left (is_linked links n a) (are_linked links (suc n) more) h))
linked_at links n (a ∷ more) (suc i) action h there =
    let place : suc n + i ≡ n + suc i = omega arith in
    subst (λ p. is_linked links p action ≡ true) place
    (linked_at links (suc n) more i action (and_right (is_linked links n a) (are_linked links (suc n) more) h) there)

pub begins_at : (links : List Link) (n : ℕ) (processes : List (List ℕ)) (i : ℕ) (places : List ℕ) → begin_well links n processes ≡ true →
    slice_get processes i ≡ Some places → is_chain links (n + i) places Ended ≡ true
begins_at links n [] i places h there = absurd cc
begins_at links n (a ∷ more) zero places h there =
    let same : a ≡ places = cc in
    let number : n ≡ n + 0 = omega arith in
    subst (λ p. is_chain links p places Ended ≡ true) number
    (subst (λ x. is_chain links n x Ended ≡ true) same (and_left (is_chain links n a Ended) (begin_well links (suc n) more) h))
begins_at links n (a ∷ more) (suc i) places h there =
    let number : suc n + i ≡ n + suc i = omega arith in
    subst (λ p. is_chain links p places Ended ≡ true) number
    (begins_at links (suc n) more i places (and_right (is_chain links n a Ended) (begin_well links (suc n) more) h) there)

-- ---- every place leads on

-- a place behind another one, of the same process, if it is one
abbrev pub IsNext : List Link → ℕ → Option ℕ → Type 0
IsNext links place None = Unit {0}
IsNext links place (Some other) = (place < other) × (other < length links) × ((link_at links other).owner ≡ (link_at links place).owner)

-- what all links do
abbrev pub LeadOn : List Link → Type 0
LeadOn links = (place : ℕ) → place < length links → IsNext links place (place_of_point (link_at links place).next)

next_by : (links : List Link) (place owner : ℕ) (other : Option ℕ) → owner ≡ (link_at links place).owner → is_behind (length links) place other ≡ true →
    is_owned links owner other ≡ true → IsNext links place other
next_by links place owner None same h owned = tt
next_by links place owner (Some other) same h owned =
    let between : (place < other) × (other < length links) = is_between place other (length links) h in
    (between.0, between.1, of_same_number (λ n. n) (link_at links other).owner owner owned ∙ same)

-- of the links from a place on
leads_at : (all : List Link) (n : ℕ) (links : List Link) (i : ℕ) (l : Link) → lead_on all n links ≡ true → slice_get links i ≡ Some l → leads_on all (n + i) l ≡ true
leads_at all n [] i l h there = absurd cc
leads_at all n (a ∷ more) zero l h there =
    let same : a ≡ l = cc in
    let place : n ≡ n + 0 = omega arith in
    subst (λ p. leads_on all p l ≡ true) place
    (subst (λ x. leads_on all n x ≡ true) same (and_left (leads_on all n a) (lead_on all (suc n) more) h))
leads_at all n (a ∷ more) (suc i) l h there =
    let place : suc n + i ≡ n + suc i = omega arith in
    subst (λ p. leads_on all p l ≡ true) place
    (leads_at all (suc n) more i l (and_right (leads_on all n a) (lead_on all (suc n) more) h) there)

pub all_lead_on : (links : List Link) → lead_on links 0 links ≡ true → LeadOn links
all_lead_on links h place lt =
    let found : (l : Link) × (slice_get links place ≡ Some l) = listed_place links place lt in
    let l : Link = found.0 in
    let there : link_at links place ≡ l = ap (λ (o : Option Link). unwrap_or o no_link) found.1 in
    let zero_plus : 0 + place ≡ place = omega arith in
    let leads : leads_on links place l ≡ true = subst (λ p. leads_on links p l ≡ true) zero_plus (leads_at links 0 links place l h found.1) in
    subst (λ (x : Link). IsNext links place (place_of_point x.next)) (sym there)
    (next_by links place l.owner (place_of_point l.next) (ap (λ (x : Link). x.owner) (sym there))
    (and_left (is_behind (length links) place (place_of_point l.next)) (is_owned links l.owner (place_of_point l.next)) leads)
    (and_right (is_behind (length links) place (place_of_point l.next)) (is_owned links l.owner (place_of_point l.next)) leads))
