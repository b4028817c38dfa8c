-- What is told of values of ports: a port with a value that isn't an output that is a variable; and where nothing is told there is none.
use Rattle.std.proofs.Common.{◌≡◌, Bool, true, false, true≢false, if◌then◌else◌, List, [], ◌∷◌, ◌++◌, Option, Some, None, refl, sym, ap, ◌∙◌, ◌⊎◌, inl, inr}
use Rattle.std.specs.Prelude.{is_some, not}
use Rattle.std.specs.List.{Contains}
use Rattle.std.specs.Option.{option_or}
use Rattle.vast.specs.NumberedWords.{Word}
use Rattle.vast.specs.NumberedExpressions.{ExpressionTree}
use Rattle.vast.specs.NumberedModules.{DirectionTree, PortTree, DeclaredTree, variables, integers, directed, ItemTree, parameters, declaration, events, assignments, initial, always, instances, ModuleTree}
use Rattle.vmodules.specs.Misdeclared.{is_variable, valued_net, valued_behind, valued_listed, valued_in, valued_by, valued_items, valued_port}
use Rattle.elaboration_law.specs.ItemPorts.{way_behind, goes_as_net, HasValuedNet, valued_in_list, valued_in_item}
use Rattle.elaboration_law.proofs.StepLemmas.{contains_first, contains_more, contains_cases, contains_none}

-- ---- one or another

pub or_told : {A : Type 0} (a b : Option A) (x : A) → option_or a b ≡ Some x → (a ≡ Some x) ⊎ ((a ≡ None) × (b ≡ Some x))
or_told None b x is = inr (refl, is)
or_told (Some y) b x is = inl is

pub or_nothing : {A : Type 0} (a b : Option A) → option_or a b ≡ None → (a ≡ None) × (b ≡ None)
or_nothing None b is = (refl, is)
or_nothing (Some y) b is = absurd cc

-- ---- one name

net_told : (direction : Option DirectionTree) (name : Word) (value : Option ExpressionTree) (w : Word) → valued_net direction name value ≡ Some w →
    (is_some value ≡ true) × (goes_as_net direction ≡ true)
net_told direction name None w is = absurd cc
net_told None name (Some value) w is = (refl, refl)
net_told (Some direction) name (Some value) w is = (refl, by (is_variable direction) is)
  where
    by : (b : Bool) → (if b then None else Some name) ≡ Some w → not b ≡ true
    by true told = absurd cc
    by false told = refl

net_untold : (direction : Option DirectionTree) (name : Word) (value : Option ExpressionTree) → valued_net direction name value ≡ None →
    is_some value ≡ true → goes_as_net direction ≡ true → ⊥
net_untold direction name None is some net = true≢false (sym some)
net_untold None name (Some value) is some net = absurd cc
net_untold (Some direction) name (Some value) is some net = by (is_variable direction) is net
  where
    by : (b : Bool) → (if b then None else Some name) ≡ None → not b ≡ true → ⊥
    by true untold as_net = true≢false (sym as_net)
    by false untold as_net = absurd cc

-- ---- lists

record ListValued (before : Option DirectionTree) (list : List PortTree) : Type 0 where
  pub front : List PortTree
  pub port : PortTree
  pub after : List PortTree
  pub whole : front ++ port ∷ after ≡ list
  pub valued : is_some port.value ≡ true
  pub net : goes_as_net (option_or port.direction (way_behind before front)) ≡ true

list_told : (before : Option DirectionTree) (list : List PortTree) (w : Word) → valued_behind before list ≡ Some w → ListValued before list
list_told before [] w is = absurd cc
list_told before (port ∷ more) w is = by (or_told (valued_net here port.name port.value) (valued_behind here more) w is) (list_told here more w)
  where
    here : Option DirectionTree
    here = option_or port.direction before

    by : (valued_net here port.name port.value ≡ Some w) ⊎ ((valued_net here port.name port.value ≡ None) × (valued_behind here more ≡ Some w)) →
        (valued_behind here more ≡ Some w → ListValued here more) → ListValued before (port ∷ more)
    by (inl told) rest =
        let n = net_told here port.name port.value w told in
        record { front = []; port = port; after = more; whole = refl; valued = n.0; net = n.1 }
    by (inr (none, told)) rest =
        let r = rest told in
        record { front = port ∷ r.front; port = r.port; after = r.after; whole = ap (λ (l : List PortTree). port ∷ l) r.whole; valued = r.valued; net = r.net }

list_untold : (before : Option DirectionTree) (front : List PortTree) (port : PortTree) (after : List PortTree) → valued_behind before (front ++ port ∷ after) ≡ None →
    is_some port.value ≡ true → goes_as_net (option_or port.direction (way_behind before front)) ≡ true → ⊥
list_untold before [] port after is some net =
    net_untold (option_or port.direction before) port.name port.value
    (or_nothing (valued_net (option_or port.direction before) port.name port.value) (valued_behind (option_or port.direction before) after) is).0 some net
list_untold before (one ∷ front) port after is some net =
    list_untold (option_or one.direction before) front port after
    (or_nothing (valued_net (option_or one.direction before) one.name one.value) (valued_behind (option_or one.direction before) (front ++ port ∷ after)) is).1 some net

-- ---- items

record NameValued (direction : DirectionTree) (list : List DeclaredTree) : Type 0 where
  pub one : DeclaredTree
  pub inside : Contains list one
  pub valued : is_some one.value ≡ true
  pub net : goes_as_net (Some direction) ≡ true

names_told : (direction : DirectionTree) (list : List DeclaredTree) (w : Word) → valued_in (Some direction) list ≡ Some w → NameValued direction list
names_told direction [] w is = absurd cc
names_told direction (one ∷ more) w is =
    by (or_told (valued_net (Some direction) one.name one.value) (valued_in (Some direction) more) w is) (names_told direction more w)
  where
    by : (valued_net (Some direction) one.name one.value ≡ Some w) ⊎ ((valued_net (Some direction) one.name one.value ≡ None) × (valued_in (Some direction) more ≡ Some w)) →
        (valued_in (Some direction) more ≡ Some w → NameValued direction more) → NameValued direction (one ∷ more)
    by (inl told) rest =
        let n = net_told (Some direction) one.name one.value w told in
        record { one = one; inside = contains_first one more; valued = n.0; net = n.1 }
    by (inr (none, told)) rest =
        let r = rest told in
        record { one = r.one; inside = contains_more one r.one more r.inside; valued = r.valued; net = r.net }

names_untold : (direction : DirectionTree) (list : List DeclaredTree) (one : DeclaredTree) → valued_in (Some direction) list ≡ None → Contains list one →
    is_some one.value ≡ true → goes_as_net (Some direction) ≡ true → ⊥
names_untold direction [] one is inside some net = contains_none one inside
names_untold direction (first ∷ more) one is inside some net =
    by (contains_cases first one more inside) (or_nothing (valued_net (Some direction) first.name first.value) (valued_in (Some direction) more) is)
    (λ untold there. names_untold direction more one untold there some net)
  where
    by : (first ≡ one) ⊎ Contains more one → (valued_net (Some direction) first.name first.value ≡ None) × (valued_in (Some direction) more ≡ None) →
        (valued_in (Some direction) more ≡ None → Contains more one → ⊥) → ⊥
    by (inl same) (here, there) rest = net_untold (Some direction) first.name first.value here (ap (λ (d : DeclaredTree). is_some d.value) same ∙ some) net
    by (inr later) (here, there) rest = rest there later

record ItemValued (items : List ItemTree) : Type 0 where
  pub direction : DirectionTree
  pub list : List DeclaredTree
  pub one : DeclaredTree
  pub inside : Contains items (declaration (directed direction) list)
  pub listed : Contains list one
  pub valued : is_some one.value ≡ true
  pub net : goes_as_net (Some direction) ≡ true

item_told : (item : ItemTree) (more : List ItemTree) (w : Word) → valued_by item ≡ Some w → ItemValued (item ∷ more)
item_told (parameters local type settings) more w is = absurd cc
item_told (declaration (variables net type) list) more w is = absurd cc
item_told (declaration (integers long) list) more w is = absurd cc
item_told (declaration (directed direction) list) more w is =
    let t = names_told direction list w is in
    record {
      direction = direction;
      list = list;
      one = t.one;
      inside = contains_first (declaration (directed direction) list) more;
      listed = t.inside;
      valued = t.valued;
      net = t.net;
    }
item_told (events names) more w is = absurd cc
item_told (assignments settings) more w is = absurd cc
item_told (initial statement) more w is = absurd cc
item_told (always statement) more w is = absurd cc
item_told (instances letters overrides list) more w is = absurd cc

items_told : (items : List ItemTree) (w : Word) → valued_items items ≡ Some w → ItemValued items
items_told [] w is = absurd cc
items_told (item ∷ more) w is = by (or_told (valued_by item) (valued_items more) w is) (items_told more w)
  where
    by : (valued_by item ≡ Some w) ⊎ ((valued_by item ≡ None) × (valued_items more ≡ Some w)) → (valued_items more ≡ Some w → ItemValued more) → ItemValued (item ∷ more)
    by (inl told) rest = item_told item more w told
    by (inr (none, told)) rest =
        let r = rest told in
        record {
          direction = r.direction;
          list = r.list;
          one = r.one;
          inside = contains_more item (declaration (directed r.direction) r.list) more r.inside;
          listed = r.listed;
          valued = r.valued;
          net = r.net;
        }

items_untold : (items : List ItemTree) (direction : DirectionTree) (list : List DeclaredTree) (one : DeclaredTree) → valued_items items ≡ None →
    Contains items (declaration (directed direction) list) → Contains list one → is_some one.value ≡ true → goes_as_net (Some direction) ≡ true → ⊥
items_untold [] direction list one is inside listed some net = contains_none (declaration (directed direction) list) inside
items_untold (item ∷ more) direction list one is inside listed some net =
    by (contains_cases item (declaration (directed direction) list) more inside) (or_nothing (valued_by item) (valued_items more) is)
    (λ untold there. items_untold more direction list one untold there listed some net)
  where
    by : (item ≡ declaration (directed direction) list) ⊎ Contains more (declaration (directed direction) list) → (valued_by item ≡ None) × (valued_items more ≡ None) →
        (valued_items more ≡ None → Contains more (declaration (directed direction) list) → ⊥) → ⊥
    by (inl same) (here, there) rest = names_untold direction list one (sym (ap (λ (i : ItemTree). valued_by i) same) ∙ here) listed some net
    by (inr later) (here, there) rest = rest there later

-- ---- a module

module _ (m : ModuleTree) where
  listed_wrong : (ports : Option (List PortTree)) (w : Word) → m.ports ≡ ports → valued_listed ports ≡ Some w → HasValuedNet m
  listed_wrong None w e is = absurd cc
  listed_wrong (Some list) w e is =
      let t = list_told None list w is in
      valued_in_list t.front t.port t.after (e ∙ ap (λ (l : List PortTree). Some l) (sym t.whole)) t.valued t.net

  pub value_wrong : (w : Word) → valued_port m ≡ Some w → HasValuedNet m
  value_wrong w is = by (or_told (valued_listed m.ports) (valued_items m.items) w is)
    where
      by : (valued_listed m.ports ≡ Some w) ⊎ ((valued_listed m.ports ≡ None) × (valued_items m.items ≡ Some w)) → HasValuedNet m
      by (inl told) = listed_wrong m.ports w refl told
      by (inr (none, told)) = let t = items_told m.items w told in valued_in_item t.direction t.list t.one t.inside t.listed t.valued t.net

  pub no_value : valued_port m ≡ None → HasValuedNet m → ⊥
  no_value is (valued_in_list front port after e some net) =
      list_untold None front port after
      (sym (ap (λ (ports : Option (List PortTree)). valued_listed ports) e) ∙ (or_nothing (valued_listed m.ports) (valued_items m.items) is).0) some net
  no_value is (valued_in_item direction list one inside listed some net) =
      items_untold m.items direction list one (or_nothing (valued_listed m.ports) (valued_items m.items) is).1 inside listed some net
