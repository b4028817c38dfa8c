-- What processes put on the table, one behind another.
use Rattle.std.proofs.Common.{◌≡◌, ◌<◌, ℕ, ◌+◌, map, List, [], ◌∷◌, ◌++◌, length, drop, get_or, Result, Ok, Err, refl, sym, ap, ◌∙◌, append_assoc, length-append, ◌^◌, arith}
use Rattle.std.specs.Prelude.{Option, Some, None}
use Rattle.std.specs.List.{cons_option, flat_map}
use Rattle.vwords.specs.Words.{Text}
use Rattle.vast.specs.NumberedModules.{ModuleTree}
use Rattle.vast.specs.NumberedTrees.{declared_tree, item_tree, module_tree, port_tree}
use Rattle.vast.specs.declared.module.Declared.{Declared}
use Rattle.vast.specs.declared.module.NetKind.{NetKind}
use Rattle.vast.specs.declared.module.NetKind.TheVariants.{Reg}
use Rattle.vast.specs.declared.module.Port.{Port}
use Rattle.vast.specs.declared.module.ModuleTree.{ModuleTree as Parsed}
use Rattle.vast.specs.declared.module.ModuleItem.{ModuleItem}
use Rattle.vmodules.specs.Ports.{port_declared, port_values}
use Rattle.vmodules.specs.Placed.{placed_items}
use Rattle.velab_expr.specs.declared.fault.ElabFault.{ElabFault}
use Rattle.velab_expr.specs.Answers.{◌>>=◌}
use Rattle.velab_expr.specs.Scopes.{Scope, at}
use Rattle.velab_expr.specs.Symbols.{symbols_by, behind_item}
use Rattle.velab_expr.proofs.ListLemmas.{drop_at}
use Rattle.velab_process.specs.Statements.{Table, Lowered}
use Rattle.velab_process.specs.Processes.{ProcessTree, Processes, with_begins_before, lower_process, lower_processes, lower_items, process_of}
use Rattle.velab_process.specs.Inner.{item_at, starts_in, values_in, processes_of_item, processes_of, values_of}
use Rattle.velab_process.proofs.PlacedLemmas.{symbols_placed}

-- a process, or several, and then what stands behind on the table that they leave
module _ (before : List (List ℕ)) where
  pub both_behind : (begins : List (List ℕ)) (answer : Result Processes ElabFault) → with_begins_before (before ++ begins) answer ≡ with_begins_before before (with_begins_before begins answer)
  both_behind begins (Ok p) = ap (λ (all : List (List ℕ)). Ok (record { table = p.table; begins = all })) (append_assoc before begins p.begins)
  both_behind begins (Err fault) = refl

  pub processes_put : (rest : Table → Result Processes ElabFault) (front : Result Processes ElabFault) (table : Table) (begins : List (List ℕ)) →
      with_begins_before before front ≡ Ok (record { table = table; begins = begins }) →
      with_begins_before begins (rest table) ≡ with_begins_before before (front >>= λ one. with_begins_before one.begins (rest one.table))
  processes_put rest (Ok one) table begins is =
      let same : record { table = one.table; begins = before ++ one.begins } ≡ record { table = table; begins = begins } = cc in
      sym (ap (λ (p : Processes). with_begins_before p.begins (rest p.table)) same) ∙ both_behind one.begins (rest one.table)
  processes_put rest (Err fault) table begins is = absurd cc

  pub processes_refused : (rest : Table → Result Processes ElabFault) (front : Result Processes ElabFault) (fault : ElabFault) → with_begins_before before front ≡ Err fault →
      with_begins_before before (front >>= λ one. with_begins_before one.begins (rest one.table)) ≡ Err fault
  processes_refused rest (Ok one) fault is = absurd cc
  processes_refused rest (Err other) fault is = let same : other ≡ fault = cc in ap Err same

  -- one process, by the places at which its statement begins
  pub process_put : (answer : Result Lowered ElabFault) (table : Table) (places : List ℕ) → answer ≡ Ok (record { table = table; places = places }) →
      with_begins_before before (answer >>= λ front. with_begins_before (front.places ∷ []) (Ok (record { table = front.table; begins = [] })))
      ≡ Ok (record { table = table; begins = before ++ places ∷ [] })
  process_put answer table places is =
      ap (λ (a : Result Lowered ElabFault). with_begins_before before (a >>= λ front. with_begins_before (front.places ∷ []) (Ok (record { table = front.table; begins = [] })))) is

-- processes in two parts
pub processes_split : (scope : Scope) (table : Table) (xs ys : List ProcessTree) →
    lower_processes scope table (xs ++ ys) ≡ (lower_processes scope table xs >>= λ front. with_begins_before front.begins (lower_processes scope front.table ys))
processes_split scope table [] ys = sym (none_in_front (lower_processes scope table ys))
  where
    none_in_front : (answer : Result Processes ElabFault) → with_begins_before [] answer ≡ answer
    none_in_front (Ok p) = refl
    none_in_front (Err fault) = refl
processes_split scope table (x ∷ xs) ys = by (λ t. processes_split scope t xs ys) (lower_process scope table x)
  where
    then : (p : List ℕ) (front : Result Processes ElabFault) (rest : Table → Result Processes ElabFault) →
        with_begins_before (p ∷ []) (front >>= λ one. with_begins_before one.begins (rest one.table))
        ≡ (with_begins_before (p ∷ []) front >>= λ one. with_begins_before one.begins (rest one.table))
    then p (Ok one) rest = sym (both_behind (p ∷ []) one.begins (rest one.table))
    then p (Err fault) rest = refl

    by : ((t : Table) → lower_processes scope t (xs ++ ys) ≡ (lower_processes scope t xs >>= λ front. with_begins_before front.begins (lower_processes scope front.table ys))) →
        (answer : Result Lowered ElabFault) →
        (answer >>= λ front. with_begins_before (front.places ∷ []) (lower_processes scope front.table (xs ++ ys)))
        ≡ ((answer >>= λ front. with_begins_before (front.places ∷ []) (lower_processes scope front.table xs)) >>= λ front. with_begins_before front.begins (lower_processes scope front.table ys))
    by split (Ok one) = ap (with_begins_before (one.places ∷ [])) (split one.table) ∙ then one.places (lower_processes scope one.table xs) (λ t. lower_processes scope t ys)
    by split (Err fault) = refl

-- the names that are declared with a value, name by name
with_more : (o : Option ProcessTree) (more : List ProcessTree) → cons_option o more ≡ cons_option o [] ++ more
with_more None more = refl
with_more (Some s) more = refl

pub starts_open : (words : List Text) (word : NetKind) (list : List Declared) (i : ℕ) (x : Declared) → i < length list → x ≡ get_or list i x →
    starts_in words word (drop i list) ≡ starts_in words word (x ∷ []) ++ starts_in words word (drop (i + 1) list)
starts_open words word list i x within is =
    ap (starts_in words word) (drop_at list i x within is) ∙ with_more (process_of word (declared_tree words x)) (starts_in words word (drop (i + 1) list))

-- the values of ports, port by port
pub values_open : (words : List Text) (list : List Port) (i : ℕ) (x : Port) → i < length list → x ≡ get_or list i x →
    values_in words (drop i list) ≡ values_in words (x ∷ []) ++ values_in words (drop (i + 1) list)
values_open words list i x within is =
    ap (values_in words) (drop_at list i x within is) ∙ with_more (process_of Reg (port_declared (port_tree words x))) (values_in words (drop (i + 1) list))

-- the next item, in the scope of its place
pub item_put : (words : List Text) (path : Text) (scope : Scope) (items : List ModuleItem) (i : ℕ) (x : ModuleItem) → i < length items → x ≡ get_or items i x → (known n : ℕ) (here : Scope) →
    here ≡ at scope known → n ≡ length (symbols_by (item_tree words x)) → (now after : Table) (before begins : List (List ℕ)) (all : Result Processes ElabFault) →
    with_begins_before before (processes_of_item words path here now x) ≡ Ok (record { table = after; begins = begins }) →
    with_begins_before before (processes_of words path (at scope known) now (drop i items)) ≡ all →
    with_begins_before begins (processes_of words path (at scope (known + n)) after (drop (i + 1) items)) ≡ all
item_put words path scope items i x within is known n here there counted now after before begins all put same =
    let rest : List ModuleItem = drop (i + 1) items in
    let later : Scope = at scope (known + length (symbols_by (item_at words path x))) in
    let known_then : n ≡ length (symbols_by (item_at words path x)) = counted ∙ sym (ap length (symbols_placed path (item_tree words x))) in
    ap (λ k. with_begins_before begins (processes_of words path (at scope (known + k)) after rest)) known_then
    ∙ processes_put before (λ t. processes_of words path later t rest) (processes_of_item words path (at scope known) now x) after begins
    (ap (λ (s : Scope). with_begins_before before (processes_of_item words path s now x)) (sym there) ∙ put)
    ∙ ap (λ (l : List ModuleItem). with_begins_before before (processes_of words path (at scope known) now l)) (sym (drop_at items i x within is))
    ∙ same

-- the parameters that are left
pub fewer_given : (words : List Text) (items : List ModuleItem) (i : ℕ) (x : ModuleItem) → i < length items → x ≡ get_or items i x → (known : ℕ) →
    known + length (flat_map symbols_by (map (item_tree words) (drop i items))) < 2 ^ 64 →
    (known + length (symbols_by (item_tree words x))) + length (flat_map symbols_by (map (item_tree words) (drop (i + 1) items))) < 2 ^ 64
fewer_given words items i x within is known small =
    let opens = ap (λ (l : List ModuleItem). length (flat_map symbols_by (map (item_tree words) l))) (drop_at items i x within is) in
    let both = length-append (symbols_by (item_tree words x)) (flat_map symbols_by (map (item_tree words) (drop (i + 1) items))) in
    omega (arith, small, opens, both)

-- ---- the processes of a module: those of the values of its ports, and then those of its items

-- the values give no names, so the first item stands where they do
pub values_placed : (scope : Scope) (m : ModuleTree) → behind_item scope (port_values m) ≡ scope
values_placed scope m = let no_more : scope.known + 0 ≡ scope.known = omega arith in ap (at scope) no_more

-- the processes of a module as an instance of this path, in two parts
module _ (words : List Text) (path : Text) (scope : Scope) (unit : Parsed) where
  values_first : (now : Table) →
      (values_of words scope now unit.ports >>= λ one. with_begins_before one.begins (processes_of words path scope one.table unit.items.items))
      ≡ lower_items scope now (placed_items path (module_tree words unit))
  values_first now =
      ap (λ (s : Scope). values_of words scope now unit.ports >>= λ one. with_begins_before one.begins (processes_of words path s one.table unit.items.items))
      (sym (values_placed scope (module_tree words unit)))

  module _ (before : List (List ℕ)) where
    pub values_put : (now after : Table) (begins : List (List ℕ)) →
        with_begins_before before (values_of words scope now unit.ports) ≡ Ok (record { table = after; begins = begins }) →
        with_begins_before begins (processes_of words path scope after unit.items.items)
        ≡ with_begins_before before (lower_items scope now (placed_items path (module_tree words unit)))
    values_put now after begins put =
        processes_put before (λ t. processes_of words path scope t unit.items.items) (values_of words scope now unit.ports) after begins put
        ∙ ap (with_begins_before before) (values_first now)

    pub values_refused : (now : Table) (fault : ElabFault) →
        with_begins_before before (values_of words scope now unit.ports) ≡ Err fault →
        with_begins_before before (lower_items scope now (placed_items path (module_tree words unit))) ≡ Err fault
    values_refused now fault is =
        sym (ap (with_begins_before before) (values_first now))
        ∙ processes_refused before (λ t. processes_of words path scope t unit.items.items) (values_of words scope now unit.ports) fault is
