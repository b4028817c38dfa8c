-- The instances that items list, and what is made of each.
use Rattle.std.proofs.Common.{◌≡◌, ℕ, ◌+◌, nat_le, List, [], ◌∷◌, ◌++◌, length, Option, Some, None, Result, Ok, refl, sym, ap, subst, ◌∙◌, ◌⊎◌, inl, inr, arith, length-append}
use Rattle.std.specs.List.{Contains, flat_map}
use Rattle.std.proofs.lemmas.List.Elements.{Contains-append_left, Contains-append_right, Contains-append_cases}
use Rattle.vast.specs.NumberedWords.{Word}
use Rattle.vast.specs.NumberedModules.{ConnectionsTree, InstanceTree, ItemTree, parameters, declaration, events, assignments, initial, always, instances, ModuleTree, SourceTree}
use Rattle.vmodules.specs.Names.{letters_of}
use Rattle.vmodules.specs.Hierarchy.{module_of}
use Rattle.vmodules.specs.Connected.{open_names, misfit, misfit_if}
use Rattle.velab_expr.specs.declared.fault.Rule.TheVariants.{Doubled, TooMany, Ports}
use Rattle.velab_expr.specs.Symbols.{symbols_by}
use Rattle.velab_expr.specs.Answers.{◌>>=◌}
use Rattle.velab_declaration.specs.Variables.{port_names}
use Rattle.vhierarchy.specs.Instances.{unless_word, Instantiation, instantiation_by, lower_instance, lower_list, named_again, lower_instances_of, lower_instances_by, lower_instances}
use Rattle.elaboration_law.proofs.StepLemmas.{same_value, then_ok, provided_ok, barring_ok, contains_first, contains_more, contains_cases, contains_none}

-- what is made of an instance that an item lists, where so many names stand before all items
pub record MadeBy (modules : SourceTree) (known : ℕ) (items : List ItemTree) (one : Instantiation) : Type 0 where
  pub before : List ItemTree
  pub name : Word
  pub overrides : Option ConnectionsTree
  pub list : List InstanceTree
  pub after : List ItemTree
  pub child : ModuleTree
  pub made : InstanceTree
  pub inside : before ++ instances name overrides list ∷ after ≡ items
  pub there : module_of modules name.letters ≡ Some child
  pub listed : Contains list made
  pub is : instantiation_by child (known + length (flat_map symbols_by before)) overrides made ≡ one

module _ (child : ModuleTree) (known : ℕ) (overrides : Option ConnectionsTree) where
  one_made : (one : InstanceTree) (x : Instantiation) → lower_instance child known overrides one ≡ Ok x → instantiation_by child known overrides one ≡ x
  one_made one x is =
      let made : Result Instantiation _ = Ok (instantiation_by child known overrides one) in
      let fits = barring_ok (misfit_if one.name (letters_of (open_names child)) overrides) Ports (unless_word (misfit one.name (letters_of (port_names child)) one.connections) Ports made) x is in
      same_value (instantiation_by child known overrides one) x (barring_ok (misfit one.name (letters_of (port_names child)) one.connections) Ports made x fits.1).1

  list_made : (list : List InstanceTree) (children : List Instantiation) (one : InstanceTree) → lower_list child known overrides list ≡ Ok children → Contains list one → Contains children (instantiation_by child known overrides one)
  list_made [] children one is inside = absurd (contains_none one inside)
  list_made (first ∷ more) children one is inside =
      let front = then_ok (lower_instance child known overrides first) (λ front. lower_list child known overrides more >>= λ others. Ok (front ∷ others)) children is in
      let others = then_ok (lower_list child known overrides more) (λ others. Ok (front.0 ∷ others)) children front.2 in
      subst (λ (l : List Instantiation). Contains l (instantiation_by child known overrides one)) (same_value (front.0 ∷ others.0) children others.2)
      (by front.0 others.0 (one_made first front.0 front.1) (list_made more others.0 one others.1) (contains_cases first one more inside))
    where
      by : (front : Instantiation) (others : List Instantiation) → instantiation_by child known overrides first ≡ front → (Contains more one → Contains others (instantiation_by child known overrides one)) →
          (first ≡ one) ⊎ Contains more one → Contains (front ∷ others) (instantiation_by child known overrides one)
      by front others same rest (inl e) =
          subst (λ (x : Instantiation). Contains (front ∷ others) x) (sym same ∙ ap (instantiation_by child known overrides) e) (contains_first front others)
      by front others same rest (inr h) = contains_more front (instantiation_by child known overrides one) others (rest h)

  made_list : (list : List InstanceTree) (children : List Instantiation) (one : Instantiation) → lower_list child known overrides list ≡ Ok children → Contains children one →
      (made : InstanceTree) × Contains list made × (instantiation_by child known overrides made ≡ one)
  made_list [] children one is inside = absurd (contains_none one (subst (λ (l : List Instantiation). Contains l one) (sym (same_value [] children is)) inside))
  made_list (first ∷ more) children one is inside =
      let front = then_ok (lower_instance child known overrides first) (λ front. lower_list child known overrides more >>= λ others. Ok (front ∷ others)) children is in
      let others = then_ok (lower_list child known overrides more) (λ others. Ok (front.0 ∷ others)) children front.2 in
      by front.0 others.0 (one_made first front.0 front.1) (made_list more others.0 one others.1)
      (contains_cases front.0 one others.0 (subst (λ (l : List Instantiation). Contains l one) (sym (same_value (front.0 ∷ others.0) children others.2)) inside))
    where
      by : (front : Instantiation) (others : List Instantiation) → instantiation_by child known overrides first ≡ front →
          (Contains others one → (made : InstanceTree) × Contains more made × (instantiation_by child known overrides made ≡ one)) →
          (front ≡ one) ⊎ Contains others one → (made : InstanceTree) × Contains (first ∷ more) made × (instantiation_by child known overrides made ≡ one)
      by front others same rest (inl e) = (first, contains_first first more, same ∙ e)
      by front others same rest (inr h) = let r = rest h in (r.0, contains_more first r.0 more r.1, r.2)

module _ (modules : SourceTree) where
  of_list : (name : Word) (before known : ℕ) (m : ModuleTree) (overrides : Option ConnectionsTree) (list : List InstanceTree) (children : List Instantiation) →
      lower_instances_of name before known (Some m) overrides list ≡ Ok children → lower_list m known overrides list ≡ Ok children
  of_list name before known m overrides list children is =
      (barring_ok (named_again m) Doubled (lower_list m known overrides list) children
      (provided_ok (nat_le (before + length list) 1024) TooMany (Some name) (unless_word (named_again m) Doubled (lower_list m known overrides list)) children is).1).1

  of_made : (name : Word) (before known : ℕ) (found : Option ModuleTree) (overrides : Option ConnectionsTree) (list : List InstanceTree) (children : List Instantiation) (child : ModuleTree) (made : InstanceTree) →
      lower_instances_of name before known found overrides list ≡ Ok children → found ≡ Some child → Contains list made → Contains children (instantiation_by child known overrides made)
  of_made name before known None overrides list children child made is there listed = absurd cc
  of_made name before known (Some m) overrides list children child made is there listed =
      let same : m ≡ child = cc in
      subst (λ (u : ModuleTree). Contains children (instantiation_by u known overrides made)) same (list_made m known overrides list children made (of_list name before known m overrides list children is) listed)

  -- of each instance that an item lists something is made
  pub all_made : (count known : ℕ) (before : List ItemTree) (name : Word) (overrides : Option ConnectionsTree) (list : List InstanceTree) (after : List ItemTree) (children : List Instantiation) (child : ModuleTree) (made : InstanceTree) →
      lower_instances modules count known (before ++ instances name overrides list ∷ after) ≡ Ok children → module_of modules name.letters ≡ Some child → Contains list made →
      Contains children (instantiation_by child (known + length (flat_map symbols_by before)) overrides made)
  all_made count known [] name overrides list after children child made is there listed =
      let front = then_ok (lower_instances_of name count known (module_of modules name.letters) overrides list)
      (λ front. lower_instances modules (count + length front) (known + 0) after >>= λ others. Ok (front ++ others)) children is in
      let others = then_ok (lower_instances modules (count + length front.0) (known + 0) after) (λ others. Ok (front.0 ++ others)) children front.2 in
      let zero_more : known ≡ known + 0 = omega arith in
      subst (λ (k : ℕ). Contains children (instantiation_by child k overrides made)) zero_more
      (subst (λ (l : List Instantiation). Contains l (instantiation_by child known overrides made)) (same_value (front.0 ++ others.0) children others.2)
      (Contains-append_left front.0 others.0 (instantiation_by child known overrides made)
      (of_made name count known (module_of modules name.letters) overrides list front.0 child made front.1 there listed)))
  all_made count known (item ∷ more) name overrides list after children child made is there listed =
      let rest = more ++ instances name overrides list ∷ after in
      let behind = known + length (symbols_by item) in
      let front = then_ok (lower_instances_by modules count known item) (λ front. lower_instances modules (count + length front) behind rest >>= λ others. Ok (front ++ others)) children is in
      let others = then_ok (lower_instances modules (count + length front.0) behind rest) (λ others. Ok (front.0 ++ others)) children front.2 in
      let long = length-append (symbols_by item) (flat_map symbols_by more) in
      let same : behind + length (flat_map symbols_by more) ≡ known + length (flat_map symbols_by (item ∷ more)) = omega (arith, long) in
      subst (λ (k : ℕ). Contains children (instantiation_by child k overrides made)) same
      (subst (λ (l : List Instantiation). Contains l (instantiation_by child (behind + length (flat_map symbols_by more)) overrides made)) (same_value (front.0 ++ others.0) children others.2)
      (Contains-append_right front.0 others.0 (instantiation_by child (behind + length (flat_map symbols_by more)) overrides made)
      (all_made (count + length front.0) behind more name overrides list after others.0 child made others.1 there listed)))

  of_made_by : (name : Word) (count known : ℕ) (found : Option ModuleTree) (overrides : Option ConnectionsTree) (list : List InstanceTree) (more : List ItemTree) (children : List Instantiation) (one : Instantiation) →
      lower_instances_of name count known found overrides list ≡ Ok children → module_of modules name.letters ≡ found → Contains children one → MadeBy modules known (instances name overrides list ∷ more) one
  of_made_by name count known None overrides list more children one is there inside = absurd cc
  of_made_by name count known (Some m) overrides list more children one is there inside =
      let it = made_list m known overrides list children one (of_list name count known m overrides list children is) inside in
      let zero_more : known + 0 ≡ known = omega arith in
      record {
        before = [];
        name = name;
        overrides = overrides;
        list = list;
        after = more;
        child = m;
        made = it.0;
        inside = refl;
        there = there;
        listed = it.1;
        is = ap (λ (k : ℕ). instantiation_by m k overrides it.0) zero_more ∙ it.2;
      }

  none_made : (known : ℕ) (items : List ItemTree) (children : List Instantiation) (one : Instantiation) → [] ≡ children → Contains children one → MadeBy modules known items one
  none_made known items children one same inside = absurd (contains_none one (subst (λ (l : List Instantiation). Contains l one) (sym same) inside))

  by_made_by : (count known : ℕ) (item : ItemTree) (more : List ItemTree) (children : List Instantiation) (one : Instantiation) → lower_instances_by modules count known item ≡ Ok children → Contains children one → MadeBy modules known (item ∷ more) one
  by_made_by count known (parameters local type settings) more children one is inside = none_made known (parameters local type settings ∷ more) children one (same_value [] children is) inside
  by_made_by count known (declaration kind list) more children one is inside = none_made known (declaration kind list ∷ more) children one (same_value [] children is) inside
  by_made_by count known (events names) more children one is inside = none_made known (events names ∷ more) children one (same_value [] children is) inside
  by_made_by count known (assignments settings) more children one is inside = none_made known (assignments settings ∷ more) children one (same_value [] children is) inside
  by_made_by count known (initial statement) more children one is inside = none_made known (initial statement ∷ more) children one (same_value [] children is) inside
  by_made_by count known (always statement) more children one is inside = none_made known (always statement ∷ more) children one (same_value [] children is) inside
  by_made_by count known (instances name overrides list) more children one is inside =
      of_made_by name count known (module_of modules name.letters) overrides list more children one is refl inside

  further_made_by : (known : ℕ) (item : ItemTree) (more : List ItemTree) (one : Instantiation) → MadeBy modules (known + length (symbols_by item)) more one → MadeBy modules known (item ∷ more) one
  further_made_by known item more one m =
      let long = length-append (symbols_by item) (flat_map symbols_by m.before) in
      let same : known + length (flat_map symbols_by (item ∷ m.before)) ≡ (known + length (symbols_by item)) + length (flat_map symbols_by m.before) = omega (arith, long) in
      record {
        before = item ∷ m.before;
        name = m.name;
        overrides = m.overrides;
        list = m.list;
        after = m.after;
        child = m.child;
        made = m.made;
        inside = ap (λ (l : List ItemTree). item ∷ l) m.inside;
        there = m.there;
        listed = m.listed;
        is = ap (λ (k : ℕ). instantiation_by m.child k m.overrides m.made) same ∙ m.is;
      }

  -- and whatever is made is of one of them
  pub all_made_by : (count known : ℕ) (items : List ItemTree) (children : List Instantiation) (one : Instantiation) → lower_instances modules count known items ≡ Ok children → Contains children one → MadeBy modules known items one
  all_made_by count known [] children one is inside = none_made known [] children one (same_value [] children is) inside
  all_made_by count known (item ∷ more) children one is inside =
      let front = then_ok (lower_instances_by modules count known item)
      (λ front. lower_instances modules (count + length front) (known + length (symbols_by item)) more >>= λ others. Ok (front ++ others)) children is in
      let others = then_ok (lower_instances modules (count + length front.0) (known + length (symbols_by item)) more) (λ others. Ok (front.0 ++ others)) children front.2 in
      by (λ h. by_made_by count known item more front.0 one front.1 h) (λ h. all_made_by (count + length front.0) (known + length (symbols_by item)) more others.0 one others.1 h)
      (Contains-append_cases front.0 others.0 one (subst (λ (l : List Instantiation). Contains l one) (sym (same_value (front.0 ++ others.0) children others.2)) inside))
    where
      by : {P Q : Type 0} → (P → MadeBy modules known (item ∷ more) one) → (Q → MadeBy modules (known + length (symbols_by item)) more one) → P ⊎ Q → MadeBy modules known (item ∷ more) one
      by f g (inl p) = f p
      by f g (inr q) = further_made_by known item more one (g q)
