-- What is told of ports that items declare and of names of blocks is wrong with them; and where nothing is told nothing is.
use Rattle.std.proofs.Common.{◌≡◌, Bool, true, false, true≢false, if◌then◌else◌, List, [], ◌∷◌, ◌++◌, map, Option, Some, None, refl, sym, ap, ◌∙◌, ◌⊎◌, inl, inr}
use Rattle.std.specs.List.{Contains, flat_map}
use Rattle.std.specs.Option.{option_or}
use Rattle.vast.specs.NumberedWords.{Word}
use Rattle.vast.specs.NumberedModules.{input, output, output_integer, PortTree, variables, integers, directed, ItemTree, parameters, declaration, events, assignments, initial, always, instances, ModuleTree, SourceTree}
use Rattle.vast.specs.declared.module.NetKind.TheVariants as net
use Rattle.vmodules.specs.Names.{is_declared, has_double, letters_of, first_again}
use Rattle.vmodules.specs.Ports.{listed_names, plain_names, is_plain_list}
use Rattle.vmodules.specs.Blocks.{blocks_by, named_in, doubled_block}
use Rattle.vmodules.specs.Misdeclared.{Misdeclared, misdeclared_at, words_by, words_as, outside, among, stray, port_flaw, valued_port, flaw_of, first_misdeclared}
use Rattle.vmodules.specs.declared.misdeclared.PortFlaw.{PortFlaw}
use Rattle.vmodules.specs.declared.misdeclared.PortFlaw.TheVariants as flaw
use Rattle.vmodules.specs.declared.misdeclared.Declaring.TheVariants as how
use Rattle.elaboration_law.specs.ItemPorts.{seconds_as, HasOneOf, HasPortTwice, listed_twice, directed_twice, directed_besides, held_twice, HasPortAlone, undirected, unlisted, HasVariableInput, HasValuedNet, HasBlockTwice, blocks_alike, block_and_other}
use Rattle.elaboration_law.proofs.StepLemmas.{contains_first, contains_more, contains_cases, contains_none}
use Rattle.elaboration_law.proofs.DoubleLemmas.{none_twice, one_twice}
use Rattle.elaboration_law.proofs.ValueLemmas.{or_told, or_nothing, value_wrong, no_value}
use Rattle.elaboration_law.proofs.WordLemmas.{double_parts, second_double, shared_double, found_outside, none_outside, behind_told, none_behind, fewer_double, among_each}

-- ---- one flaw behind another

flawed_told : (f : PortFlaw) (word : Option Word) (x : Misdeclared) → misdeclared_at f word ≡ Some x → (w : Word) × (word ≡ Some w) × (x.flaw ≡ f)
flawed_told f None x is = absurd cc
flawed_told f (Some w) x is =
    let told : Misdeclared = record { flaw = f; word = w } in
    let same : told ≡ x = cc in
    (w, refl, sym (ap (λ (m : Misdeclared). m.flaw) same))

flawed_nothing : (f : PortFlaw) (word : Option Word) → misdeclared_at f word ≡ None → word ≡ None
flawed_nothing f None is = refl
flawed_nothing f (Some w) is = absurd cc

stray_told : (listed : List Word) (word : Option Word) (x : Misdeclared) → stray listed word ≡ Some x →
    (w : Word) × (word ≡ Some w) × (x.flaw ≡ (if is_declared (letters_of listed) w.letters then flaw.Doubled else flaw.Undeclared))
stray_told listed None x is = absurd cc
stray_told listed (Some w) x is =
    let told : Misdeclared = record { flaw = if is_declared (letters_of listed) w.letters then flaw.Doubled else flaw.Undeclared; word = w } in
    let same : told ≡ x = cc in
    (w, refl, sym (ap (λ (m : Misdeclared). m.flaw) same))

stray_nothing : (listed : List Word) (word : Option Word) → stray listed word ≡ None → word ≡ None
stray_nothing listed None is = refl
stray_nothing listed (Some w) is = absurd cc

-- ---- lists of names alone, and others

alone_is : (ports : Option (List PortTree)) → is_plain_list ports ≡ true → plain_names ports ≡ listed_names ports
alone_is None e = absurd (true≢false (sym e))
alone_is (Some list) e = ap (λ b. if b then map (λ (port : PortTree). port.name) list else []) e

directed_is : (ports : Option (List PortTree)) → is_plain_list ports ≡ false → plain_names ports ≡ []
directed_is None e = refl
directed_is (Some list) e = ap (λ b. if b then map (λ (port : PortTree). port.name) list else []) e

-- ---- fewer names

inputs_are_ports : (item : ItemTree) → (words_by how.Inputs item ≡ words_by how.Ports item) ⊎ (words_by how.Inputs item ≡ [])
inputs_are_ports (parameters local type settings) = inl refl
inputs_are_ports (declaration (variables net type) list) = inl refl
inputs_are_ports (declaration (integers long) list) = inl refl
inputs_are_ports (declaration (directed (input wire type)) list) = inl refl
inputs_are_ports (declaration (directed (output net type)) list) = inr refl
inputs_are_ports (declaration (directed (output_integer long)) list) = inr refl
inputs_are_ports (events names) = inl refl
inputs_are_ports (assignments settings) = inl refl
inputs_are_ports (initial statement) = inl refl
inputs_are_ports (always statement) = inl refl
inputs_are_ports (instances letters overrides list) = inl refl

registers_are_seconds : (names : List Word) (item : ItemTree) →
    (among names (words_by how.Registers item) ≡ among names (words_by how.Seconds item)) ⊎ (among names (words_by how.Registers item) ≡ [])
registers_are_seconds names (parameters local type settings) = inl refl
registers_are_seconds names (declaration (variables net.Wire type) list) = inr refl
registers_are_seconds names (declaration (variables net.Reg type) list) = inl refl
registers_are_seconds names (declaration (integers long) list) = inl refl
registers_are_seconds names (declaration (directed direction) list) = inl refl
registers_are_seconds names (events list) = inl refl
registers_are_seconds names (assignments settings) = inl refl
registers_are_seconds names (initial statement) = inl refl
registers_are_seconds names (always statement) = inl refl
registers_are_seconds names (instances letters overrides list) = inl refl

-- ---- a module

-- nothing is told of it
pub record IsUntold (m : ModuleTree) : Type 0 where
  pub listed : first_again (plain_names m.ports) ≡ None
  pub stray : outside (plain_names m.ports) (words_as how.Ports m.items) ≡ None
  pub directed : first_again (words_as how.Ports m.items) ≡ None
  pub whole : outside (words_as how.Ports m.items) (plain_names m.ports) ≡ None
  pub held : first_again (words_as how.WholePorts m.items ++ seconds_as how.Seconds m) ≡ None
  pub input : first_again (words_as how.Inputs m.items ++ seconds_as how.Registers m) ≡ None
  pub value : valued_port m ≡ None
  pub block : doubled_block m ≡ None

-- what a flaw is told for is wrong
pub data IsWrong (m : ModuleTree) (f : PortFlaw) : Type 0 where
  port_doubled : f ≡ flaw.Doubled → HasPortTwice m → IsWrong m f
  block_doubled : f ≡ flaw.Doubled → HasBlockTwice m → IsWrong m f
  port_alone : f ≡ flaw.Undeclared → HasPortAlone m → IsWrong m f
  variable_input : f ≡ flaw.Input → HasVariableInput m → IsWrong m f
  valued_net : f ≡ flaw.Valued → HasValuedNet m → IsWrong m f

module _ (m : ModuleTree) where
  abbrev plain : List Word
  plain = plain_names m.ports

  abbrev listed : List Word
  listed = listed_names m.ports

  abbrev ports : List Word
  ports = words_as how.Ports m.items

  abbrev holding : List Word
  holding = words_as how.WholePorts m.items ++ seconds_as how.Seconds m

  abbrev inputs : List Word
  inputs = words_as how.Inputs m.items

  abbrev registers : List Word
  registers = seconds_as how.Registers m

  abbrev flaw_6 : Option Misdeclared
  flaw_6 = misdeclared_at flaw.Input (first_again (inputs ++ registers))

  abbrev flaw_5 : Option Misdeclared
  flaw_5 = option_or (misdeclared_at flaw.Doubled (first_again holding)) flaw_6

  abbrev flaw_4 : Option Misdeclared
  flaw_4 = option_or (misdeclared_at flaw.Undeclared (outside ports plain)) flaw_5

  abbrev flaw_3 : Option Misdeclared
  flaw_3 = option_or (misdeclared_at flaw.Doubled (first_again ports)) flaw_4

  abbrev flaw_2 : Option Misdeclared
  flaw_2 = option_or (stray listed (outside plain ports)) flaw_3

  -- ---- where nothing is told

  pub untold : flaw_of m ≡ None → IsUntold m
  untold is =
      let both = or_nothing (port_flaw m) (option_or (misdeclared_at flaw.Valued (valued_port m)) (misdeclared_at flaw.Doubled (doubled_block m))) is in
      let last = or_nothing (misdeclared_at flaw.Valued (valued_port m)) (misdeclared_at flaw.Doubled (doubled_block m)) both.1 in
      let one = or_nothing (misdeclared_at flaw.Doubled (first_again plain)) flaw_2 both.0 in
      let two = or_nothing (stray listed (outside plain ports)) flaw_3 one.1 in
      let three = or_nothing (misdeclared_at flaw.Doubled (first_again ports)) flaw_4 two.1 in
      let four = or_nothing (misdeclared_at flaw.Undeclared (outside ports plain)) flaw_5 three.1 in
      let five = or_nothing (misdeclared_at flaw.Doubled (first_again holding)) flaw_6 four.1 in
      record {
        listed = flawed_nothing flaw.Doubled (first_again plain) one.0;
        stray = stray_nothing listed (outside plain ports) two.0;
        directed = flawed_nothing flaw.Doubled (first_again ports) three.0;
        whole = flawed_nothing flaw.Undeclared (outside ports plain) four.0;
        held = flawed_nothing flaw.Doubled (first_again holding) five.0;
        input = flawed_nothing flaw.Input (first_again (inputs ++ registers)) five.1;
        value = flawed_nothing flaw.Valued (valued_port m) last.0;
        block = flawed_nothing flaw.Doubled (doubled_block m) last.1;
      }

  module _ (right : IsUntold m) where
    pub no_port_twice : HasPortTwice m → ⊥
    no_port_twice (listed_twice twice) = true≢false (sym twice ∙ none_twice plain right.listed)
    no_port_twice (directed_twice twice) = true≢false (sym twice ∙ none_twice ports right.directed)
    no_port_twice (directed_besides other (word, inside, there)) =
        true≢false (sym (none_outside plain ports word right.stray inside) ∙ ap (λ (l : List Word). is_declared (letters_of l) word.letters) (directed_is m.ports other))
    no_port_twice (held_twice twice) = true≢false (sym twice ∙ none_twice holding right.held)

    pub no_port_alone : HasPortAlone m → ⊥
    no_port_alone (undirected (word, inside, lacks)) = true≢false (sym (none_outside ports plain word right.whole inside) ∙ lacks)
    no_port_alone (unlisted (word, inside, lacks)) = by (is_plain_list m.ports) refl
      where
        there : is_declared (letters_of plain) word.letters ≡ true
        there = none_outside plain ports word right.stray inside

        by : (b : Bool) → is_plain_list m.ports ≡ b → ⊥
        by true e = true≢false (sym there ∙ ap (λ (l : List Word). is_declared (letters_of l) word.letters) (alone_is m.ports e) ∙ lacks)
        by false e = true≢false (sym there ∙ ap (λ (l : List Word). is_declared (letters_of l) word.letters) (directed_is m.ports e))

    pub no_variable_input : HasVariableInput m → ⊥
    no_variable_input one = true≢false (sym (shared_double inputs registers one) ∙ none_twice (inputs ++ registers) right.input)

    pub no_valued_net : HasValuedNet m → ⊥
    no_valued_net one = no_value m right.value one

    pub no_block_twice : HasBlockTwice m → ⊥
    no_block_twice (blocks_alike twice) = (none_behind (letters_of (named_in m)) (flat_map blocks_by m.items) right.block).0 twice
    no_block_twice (block_and_other one) = (none_behind (letters_of (named_in m)) (flat_map blocks_by m.items) right.block).1 one

  -- ---- where something is

  stray_wrong : (f : PortFlaw) (w : Word) → outside plain ports ≡ Some w → (b : Bool) → is_declared (letters_of listed) w.letters ≡ b → f ≡ (if b then flaw.Doubled else flaw.Undeclared) → IsWrong m f
  stray_wrong f w is true e told = port_doubled told (directed_besides (by (is_plain_list m.ports) refl) (w, at.0, e))
    where
      at : Contains ports w × (is_declared (letters_of plain) w.letters ≡ false)
      at = found_outside plain ports w is

      by : (b : Bool) → is_plain_list m.ports ≡ b → b ≡ false
      by true alone = absurd (true≢false (sym e ∙ sym (ap (λ (l : List Word). is_declared (letters_of l) w.letters) (alone_is m.ports alone)) ∙ at.1))
      by false other = refl
  stray_wrong f w is false e told = port_alone told (unlisted (w, (found_outside plain ports w is).0, e))

  -- two of the inputs and of the registers are alike, where no two ports are and nothing else is held twice
  input_wrong : first_again ports ≡ None → first_again holding ≡ None → (w : Word) → first_again (inputs ++ registers) ≡ Some w → HasVariableInput m
  input_wrong ports_once held_once w is = by (double_parts inputs registers (one_twice (inputs ++ registers) w is))
    where
      by : (has_double (letters_of inputs) ≡ true) ⊎ ((has_double (letters_of registers) ≡ true) ⊎ HasOneOf (letters_of registers) inputs) → HasVariableInput m
      by (inl twice) =
          absurd (true≢false (sym (fewer_double (words_by how.Inputs) (words_by how.Ports) inputs_are_ports m.items twice) ∙ none_twice ports ports_once))
      by (inr (inl twice)) =
          absurd (true≢false (sym (second_double (words_as how.WholePorts m.items) (seconds_as how.Seconds m)
          (ap (λ (l : List Word). has_double (letters_of l)) (among_each plain (words_by how.Seconds) m.items)
          ∙ fewer_double (λ item. among plain (words_by how.Registers item)) (λ item. among plain (words_by how.Seconds item)) (registers_are_seconds plain) m.items
          (sym (ap (λ (l : List Word). has_double (letters_of l)) (among_each plain (words_by how.Registers) m.items)) ∙ twice)))
          ∙ none_twice holding held_once))
      by (inr (inr one)) = one

  module _ (x : Misdeclared) where
    wrong_6 : first_again ports ≡ None → first_again holding ≡ None → flaw_6 ≡ Some x → IsWrong m x.flaw
    wrong_6 ports_once held_once is =
        let t = flawed_told flaw.Input (first_again (inputs ++ registers)) x is in
        variable_input t.2 (input_wrong ports_once held_once t.0 t.1)

    wrong_5 : first_again ports ≡ None → (misdeclared_at flaw.Doubled (first_again holding) ≡ Some x) ⊎ ((misdeclared_at flaw.Doubled (first_again holding) ≡ None) × (flaw_6 ≡ Some x)) → IsWrong m x.flaw
    wrong_5 ports_once (inl is) = let t = flawed_told flaw.Doubled (first_again holding) x is in port_doubled t.2 (held_twice (one_twice holding t.0 t.1))
    wrong_5 ports_once (inr (none, is)) = wrong_6 ports_once (flawed_nothing flaw.Doubled (first_again holding) none) is

    wrong_4 : first_again ports ≡ None → (misdeclared_at flaw.Undeclared (outside ports plain) ≡ Some x) ⊎ ((misdeclared_at flaw.Undeclared (outside ports plain) ≡ None) × (flaw_5 ≡ Some x)) → IsWrong m x.flaw
    wrong_4 ports_once (inl is) =
        let t = flawed_told flaw.Undeclared (outside ports plain) x is in
        let at = found_outside ports plain t.0 t.1 in
        port_alone t.2 (undirected (t.0, at.0, at.1))
    wrong_4 ports_once (inr (none, is)) = wrong_5 ports_once (or_told (misdeclared_at flaw.Doubled (first_again holding)) flaw_6 x is)

    wrong_3 : (misdeclared_at flaw.Doubled (first_again ports) ≡ Some x) ⊎ ((misdeclared_at flaw.Doubled (first_again ports) ≡ None) × (flaw_4 ≡ Some x)) → IsWrong m x.flaw
    wrong_3 (inl is) = let t = flawed_told flaw.Doubled (first_again ports) x is in port_doubled t.2 (directed_twice (one_twice ports t.0 t.1))
    wrong_3 (inr (none, is)) =
        wrong_4 (flawed_nothing flaw.Doubled (first_again ports) none) (or_told (misdeclared_at flaw.Undeclared (outside ports plain)) flaw_5 x is)

    wrong_2 : (stray listed (outside plain ports) ≡ Some x) ⊎ ((stray listed (outside plain ports) ≡ None) × (flaw_3 ≡ Some x)) → IsWrong m x.flaw
    wrong_2 (inl is) =
        let t = stray_told listed (outside plain ports) x is in
        stray_wrong x.flaw t.0 t.1 (is_declared (letters_of listed) t.0.letters) refl t.2
    wrong_2 (inr (none, is)) = wrong_3 (or_told (misdeclared_at flaw.Doubled (first_again ports)) flaw_4 x is)

    wrong_1 : (misdeclared_at flaw.Doubled (first_again plain) ≡ Some x) ⊎ ((misdeclared_at flaw.Doubled (first_again plain) ≡ None) × (flaw_2 ≡ Some x)) → IsWrong m x.flaw
    wrong_1 (inl is) = let t = flawed_told flaw.Doubled (first_again plain) x is in port_doubled t.2 (listed_twice (one_twice plain t.0 t.1))
    wrong_1 (inr (none, is)) = wrong_2 (or_told (stray listed (outside plain ports)) flaw_3 x is)

    block_wrong : (w : Word) → doubled_block m ≡ Some w → HasBlockTwice m
    block_wrong w is = by (behind_told (letters_of (named_in m)) (flat_map blocks_by m.items) w is)
      where
        by : (has_double (letters_of (flat_map blocks_by m.items)) ≡ true) ⊎ HasOneOf (letters_of (named_in m)) (flat_map blocks_by m.items) → HasBlockTwice m
        by (inl twice) = blocks_alike twice
        by (inr one) = block_and_other one

    later_wrong : (misdeclared_at flaw.Valued (valued_port m) ≡ Some x) ⊎ ((misdeclared_at flaw.Valued (valued_port m) ≡ None) × (misdeclared_at flaw.Doubled (doubled_block m) ≡ Some x)) → IsWrong m x.flaw
    later_wrong (inl value) = let t = flawed_told flaw.Valued (valued_port m) x value in valued_net t.2 (value_wrong m t.0 t.1)
    later_wrong (inr (none, block)) = let t = flawed_told flaw.Doubled (doubled_block m) x block in block_doubled t.2 (block_wrong t.0 t.1)

    pub flaw_wrong : flaw_of m ≡ Some x → IsWrong m x.flaw
    flaw_wrong is = by (or_told (port_flaw m) (option_or (misdeclared_at flaw.Valued (valued_port m)) (misdeclared_at flaw.Doubled (doubled_block m))) x is)
      where
        by : (port_flaw m ≡ Some x) ⊎ ((port_flaw m ≡ None) × (option_or (misdeclared_at flaw.Valued (valued_port m)) (misdeclared_at flaw.Doubled (doubled_block m)) ≡ Some x)) → IsWrong m x.flaw
        by (inl port) = wrong_1 (or_told (misdeclared_at flaw.Doubled (first_again plain)) flaw_2 x port)
        by (inr (none, later)) = later_wrong (or_told (misdeclared_at flaw.Valued (valued_port m)) (misdeclared_at flaw.Doubled (doubled_block m)) x later)

-- ---- the modules of a text

pub one_wrong : (modules : SourceTree) (x : Misdeclared) → first_misdeclared modules ≡ Some x → (m : ModuleTree) × Contains modules m × IsWrong m x.flaw
one_wrong [] x is = absurd cc
one_wrong (m ∷ more) x is = by (or_told (flaw_of m) (first_misdeclared more) x is) (one_wrong more x)
  where
    by : (flaw_of m ≡ Some x) ⊎ ((flaw_of m ≡ None) × (first_misdeclared more ≡ Some x)) → (first_misdeclared more ≡ Some x → (u : ModuleTree) × Contains more u × IsWrong u x.flaw) →
        (u : ModuleTree) × Contains (m ∷ more) u × IsWrong u x.flaw
    by (inl here) rest = (m, contains_first m more, flaw_wrong m x here)
    by (inr (none, there)) rest = let r = rest there in (r.0, contains_more m r.0 more r.1, r.2)

pub all_untold : (modules : SourceTree) → first_misdeclared modules ≡ None → (m : ModuleTree) → Contains modules m → IsUntold m
all_untold [] is u inside = absurd (contains_none u inside)
all_untold (m ∷ more) is u inside = by (or_nothing (flaw_of m) (first_misdeclared more) is) (contains_cases m u more inside) (λ none. all_untold more none u)
  where
    by : (flaw_of m ≡ None) × (first_misdeclared more ≡ None) → (m ≡ u) ⊎ Contains more u → (first_misdeclared more ≡ None → Contains more u → IsUntold u) → IsUntold u
    by (here, there) (inl same) rest = untold u (sym (ap (λ (v : ModuleTree). flaw_of v) same) ∙ here)
    by (here, there) (inr later) rest = rest there later
