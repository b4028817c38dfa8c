-- What is left behind one part after another, and behind lists.
use Rattle.std.proofs.Common.{◌≡◌, ◌<◌, ◌≤◌, ℕ, suc, ◌+◌, ◌-◌, ◌==◌, Bool, false, List, [], ◌∷◌, length, drop, get_or, map, Vec, Global, Box, refl, sym, ap, ◌∙◌, arith}
use Rattle.std.proofs.lemmas.Bool.Decides.{nat_tests}
use Rattle.std.proofs.lemmas.List.{drop_all}
use Rattle.basis.proofs.Lists.{left_from}
use Rattle.vwords.specs.Words.{Text}
use Rattle.vast.specs.NumberedWords.{word_of}
use Rattle.std.specs.Prelude.{Option, option_map}
use Rattle.vast.specs.NumberedTrees.{tree_of, trees_of, target_tree, target_trees, term_tree, further_term, event_tree, argument_tree, task_tree, connections_tree, instance_tree, item_tree}
use Rattle.vast.specs.declared.token.Token.{Token}
use Rattle.vast.specs.declared.module.Connections.{Connections}
use Rattle.vast.specs.declared.module.Instance.{Instance}
use Rattle.vast.specs.declared.module.ModuleItem.{ModuleItem}
use Rattle.vast.specs.declared.module.ModuleItem.TheVariants.{Instances}
use Rattle.vast.specs.declared.expression.Expression.{Expression, Concatenation, Replication}
use Rattle.vast.specs.declared.statement.Target.{Target, Joined}
use Rattle.vast.specs.declared.statement.Term.{Term}
use Rattle.vast.specs.declared.statement.FurtherTerm.{FurtherTerm}
use Rattle.vast.specs.declared.statement.Event.{Event}
use Rattle.vast.specs.declared.statement.Event.TheVariants.{Terms}
use Rattle.vast.specs.declared.statement.Argument.{Argument}
use Rattle.vast.specs.declared.statement.Printing.{Printing}
use Rattle.vast.specs.declared.statement.Idle.{Idle}
use Rattle.vast.specs.declared.statement.Task.{Task}
use Rattle.vast.specs.declared.statement.Task.TheVariants.{Print, Idle as IdleTask}
use Rattle.vast.proofs.ToldTrees.{told_concatenation, told_replication, told_joined}
use Rattle.action_origins.specs.Lengths.{length_if, word_where, length_of_each, length_of_end, list_length, expression_length, end_of_parts, parts_length, target_length, end_of_targets, targets_length, term_length, further_length, event_length, argument_length, arguments_length, task_length, overrides_length, instance_length, item_length}

-- two, one after the other, and four
pub after_two : (left a result x y : ℕ) → a ≡ left - x → result ≡ a - y → result ≡ left - (x + y)
after_two left a result x y one two = omega (arith, one, two)

pub after_four : (left a b c result x y z w : ℕ) → a ≡ left - x → b ≡ a - y → c ≡ b - z → result ≡ c - w → result ≡ left - (x + (y + (z + w)))
after_four left a b c result x y z w one two three four = omega (arith, one, two, three, four)

-- a loop over a list: behind this one and the word after it the others stand
pub one_passed : {A : Type 0} (xs : List A) (i : ℕ) (x : A) → i < length xs → x ≡ get_or xs i x → (F : List A → ℕ) (size : A → ℕ) → ((y : A) (ys : List A) → F (y ∷ ys) ≡ (size y + 1) + F ys) →
    (left behind next whole : ℕ) → behind ≡ left - size x → next ≡ behind - 1 → left - F (drop i xs) ≡ whole → next - F (drop (i + 1) xs) ≡ whole
one_passed xs i x within is F size splits left behind next whole put end same =
    let opened : F (drop i xs) ≡ (size x + 1) + F (drop (i + 1) xs) = ap F (sym (left_from xs i x is within)) ∙ splits x (drop (i + 1) xs) in
    omega (arith, put, end, same, opened)

pub all_passed : {A : Type 0} (xs : List A) (i : ℕ) → length xs ≤ i → (F : List A → ℕ) → F [] ≡ 0 → (left whole : ℕ) → left - F (drop i xs) ≡ whole → left ≡ whole
all_passed xs i past F none left whole same =
    let nothing : F (drop i xs) ≡ 0 = ap F (drop_all i xs past) ∙ none in
    omega (arith, nothing, same)

-- from the name of a module on
pub name_passed : (all len number heads ports a b c d result : ℕ) → len ≡ all → a ≡ len - number → b ≡ a - 1 → c ≡ b - heads → d ≡ c - ports → result ≡ d - 1 →
    result ≡ (((all - (number + 1)) - heads) - ports) - 1
name_passed all len number heads ports a b c d result same one two three four five = omega (arith, same, one, two, three, four, five)

-- where some stand, no word stands alone
some_stand : (n : ℕ) → 0 ≡ word_where (suc n == 0)
some_stand n = let some : (suc n == 0) ≡ false = grind (arith, nat_tests) in sym (ap word_where some)

end_is : (words : List Text) (parts : List Expression) → end_of_parts (trees_of words parts) ≡ word_where (length parts == 0)
end_is words [] = refl
end_is words (one ∷ more) = some_stand (length more)

end_of_targets_is : (words : List Text) (targets : List Target) → end_of_targets (target_trees words targets) ≡ word_where (length targets == 0)
end_of_targets_is words [] = refl
end_of_targets_is words (one ∷ more) = some_stand (length more)

module _ (words : List Text) (left result : ℕ) where
  pub parts_past : (parts : List Expression) (is_empty : Bool) (middle each : ℕ) → is_empty ≡ (length parts == 0) → middle ≡ left - word_where is_empty → result ≡ middle - each →
      result ≡ left - (end_of_parts (trees_of words parts) + each)
  parts_past parts is_empty middle each is end h =
      let same : end_of_parts (trees_of words parts) ≡ word_where is_empty = end_is words parts ∙ ap word_where (sym is) in
      omega (arith, same, end, h)

  pub targets_past : (targets : List Target) (is_empty : Bool) (middle each : ℕ) → is_empty ≡ (length targets == 0) → middle ≡ left - word_where is_empty → result ≡ middle - each →
      result ≡ left - (end_of_targets (target_trees words targets) + each)
  targets_past targets is_empty middle each is end h =
      let same : end_of_targets (target_trees words targets) ≡ word_where is_empty = end_of_targets_is words targets ∙ ap word_where (sym is) in
      omega (arith, same, end, h)

  pub concatenation_past : (e : Expression) (at : ℕ) (parts : Vec Expression Global) (items : List Expression) (middle : ℕ) → e ≡ Concatenation at parts → items ≡ parts.items →
      middle ≡ left - 1 → result ≡ middle - parts_length (trees_of words items) → result ≡ left - expression_length (tree_of words e)
  concatenation_past e at parts items middle is same one h =
      let size : expression_length (tree_of words e) ≡ 1 + parts_length (trees_of words items) =
      ap expression_length (ap (tree_of words) is ∙ told_concatenation (word_of words) at parts) ∙ ap (λ (xs : List Expression). 1 + parts_length (trees_of words xs)) (sym same) in
      omega (arith, one, h, size)

  pub replication_past : (e : Expression) (at : ℕ) (count : Box Expression Global) (parts : Vec Expression Global) (amount : Expression) (items : List Expression) (middle between : ℕ) →
      e ≡ Replication at count parts → amount ≡ count.value → items ≡ parts.items →
      middle ≡ left - 3 → between ≡ middle - expression_length (tree_of words amount) → result ≡ between - parts_length (trees_of words items) → result ≡ left - expression_length (tree_of words e)
  replication_past e at count parts amount items middle between is counted same three h g =
      let size : expression_length (tree_of words e) ≡ 3 + (expression_length (tree_of words amount) + parts_length (trees_of words items)) =
      ap expression_length (ap (tree_of words) is ∙ told_replication (word_of words) at count parts)
      ∙ (λ i. 3 + (expression_length (tree_of words (sym counted i)) + parts_length (trees_of words (sym same i)))) in
      omega (arith, three, h, g, size)

  pub joined_past : (t : Target) (at : ℕ) (targets : Vec Target Global) (items : List Target) (middle : ℕ) → t ≡ Joined at targets → items ≡ targets.items →
      middle ≡ left - 1 → result ≡ middle - targets_length (target_trees words items) → result ≡ left - target_length (target_tree words t)
  joined_past t at targets items middle is same one h =
      let size : target_length (target_tree words t) ≡ 1 + targets_length (target_trees words items) =
      ap target_length (ap (target_tree words) is ∙ told_joined (word_of words) at targets) ∙ ap (λ (ts : List Target). 1 + targets_length (target_trees words ts)) (sym same) in
      omega (arith, one, h, size)

  pub terms_past : (e : Event) (term : Term) (further : Vec FurtherTerm Global) (items : List FurtherTerm) (a b : ℕ) → e ≡ Terms term further → items ≡ further.items →
      a ≡ left - 3 → b ≡ a - term_length (term_tree words term) → result ≡ b - further_length (map (further_term words) items) → result ≡ left - event_length (event_tree words e)
  terms_past e term further items a b is same three h g =
      let size : event_length (event_tree words e) ≡ 3 + (term_length (term_tree words term) + further_length (map (further_term words) items)) =
      ap (λ (x : Event). event_length (event_tree words x)) is
      ∙ ap (λ (xs : List FurtherTerm). 3 + (term_length (term_tree words term) + further_length (map (further_term words) xs))) (sym same) in
      omega (arith, three, h, g, size)

  pub arguments_past : (list : List Argument) (is_empty : Bool) (middle : ℕ) → is_empty ≡ (length list == 0) → is_empty ≡ false → middle ≡ left - 1 →
      result ≡ middle - length_of_each argument_length (map (argument_tree words) list) → result ≡ left - arguments_length (map (argument_tree words) list)
  arguments_past [] is_empty middle is some one h = absurd cc
  arguments_past (x ∷ xs) is_empty middle is some one h = omega (arith, one, h)

  pub further_passed : (rest behind : List FurtherTerm) (x : FurtherTerm) (next whole : ℕ) → rest ≡ x ∷ behind → next ≡ left - (1 + term_length (further_term words x).term) →
      left - further_length (map (further_term words) rest) ≡ whole → next - further_length (map (further_term words) behind) ≡ whole
  further_passed rest behind x next whole is put same =
      let opened : further_length (map (further_term words) rest) ≡ (1 + term_length (further_term words x).term) + further_length (map (further_term words) behind) =
      ap (λ (l : List FurtherTerm). further_length (map (further_term words) l)) is in
      omega (arith, put, same, opened)

  each_name : (names : List Token) → length_of_each (λ name. 1) (map (word_of words) names) ≡ length names + length names
  each_name [] = refl
  each_name (x ∷ xs) = omega (arith, each_name xs)

  end_of_names : (names : List Token) → length_of_end (map (word_of words) names) ≡ word_where (length names == 0)
  end_of_names [] = refl
  end_of_names (x ∷ xs) = some_stand (length xs)

  pub names_past : (names : List Token) (is_empty : Bool) (a b : ℕ) → is_empty ≡ (length names == 0) → a ≡ left - word_where is_empty → b ≡ a - length names → result ≡ b - length names →
      result ≡ left - list_length (λ name. 1) (map (word_of words) names)
  names_past names is_empty a b is one two three =
      let end : length_of_end (map (word_of words) names) ≡ word_where is_empty = end_of_names names ∙ ap word_where (sym is) in
      omega (arith, end, each_name names, one, two, three)

  pub instances_past : (item : ModuleItem) (name : Token) (overrides : Option Connections) (list : Vec Instance Global) (items : List Instance) (a b : ℕ) →
      item ≡ Instances name overrides list → items ≡ list.items → a ≡ left - 1 → b ≡ a - length_if overrides_length (option_map (connections_tree words) overrides) →
      result ≡ b - list_length instance_length (map (instance_tree words) items) → result ≡ left - item_length (item_tree words item)
  instances_past item name overrides list items a b is same one two three =
      let size : item_length (item_tree words item)
      ≡ 1 + (length_if overrides_length (option_map (connections_tree words) overrides) + list_length instance_length (map (instance_tree words) items)) =
      ap (λ (x : ModuleItem). item_length (item_tree words x)) is
      ∙ ap (λ (xs : List Instance). 1 + (length_if overrides_length (option_map (connections_tree words) overrides) + list_length instance_length (map (instance_tree words) xs))) (sym same) in
      omega (arith, one, two, three, size)

  pub print_past : (task : Task) (kind : Printing) (arguments : Vec Argument Global) (items : List Argument) (middle : ℕ) → task ≡ Print kind arguments → items ≡ arguments.items →
      middle ≡ left - 1 → result ≡ middle - arguments_length (map (argument_tree words) items) → result ≡ left - task_length (task_tree words task)
  print_past task kind arguments items middle is same one h =
      let size : task_length (task_tree words task) ≡ 1 + arguments_length (map (argument_tree words) items) =
      ap (λ (t : Task). task_length (task_tree words t)) is
      ∙ ap (λ (xs : List Argument). 1 + arguments_length (map (argument_tree words) xs)) (sym same) in
      omega (arith, one, h, size)

  pub idle_past : (task : Task) (kind : Idle) (arguments : Vec Argument Global) (items : List Argument) (middle : ℕ) → task ≡ IdleTask kind arguments → items ≡ arguments.items →
      middle ≡ left - 1 → result ≡ middle - arguments_length (map (argument_tree words) items) → result ≡ left - task_length (task_tree words task)
  idle_past task kind arguments items middle is same one h =
      let size : task_length (task_tree words task) ≡ 1 + arguments_length (map (argument_tree words) items) =
      ap (λ (t : Task). task_length (task_tree words t)) is
      ∙ ap (λ (xs : List Argument). 1 + arguments_length (map (argument_tree words) xs)) (sym same) in
      omega (arith, one, h, size)
