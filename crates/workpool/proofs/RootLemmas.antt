-- When an entry is the root's.
use Rattle.std.proofs.Common.{◌≡◌, ℕ, List, [], ◌∷◌, length, Option, true, arith, ap, refl, subst}
use Rattle.sched_core.specs.Rules.{Rules, NamesBelow, stands}
use Rattle.statebook.specs.ExplorerCore.{IsEntry}
use Rattle.statebook.specs.declared.entry.Entry.{Entry}
use Rattle.statebook.specs.declared.limits.Limits.{Limits}
use Rattle.shardbook.specs.EntryRules.{IsWanted}
use Rattle.workpool.specs.Searches.{AreParametersOf, IsRootOf}

-- what a book's search parameters ask of an entry is what the limits do
pub wanted_entry : {S : Type 0} (rules : Option (Rules S)) (depart steps : ℕ) (r : Rules S) (limits : Limits) (e : Entry S) → AreParametersOf rules depart steps r limits → IsWanted rules depart steps e → IsEntry r limits.depart limits.steps e
wanted_entry {S} rules depart steps r limits e parameters wanted =
    let P : ℕ → Type 0 = λ k. IsEntry r k limits.steps e in
    let Q : ℕ → Type 0 = λ n. IsEntry r depart n e in
    subst P parameters.depart_is (subst Q parameters.steps_are (wanted r parameters.rules_are))

no_names : (log : List (ℕ × ℕ)) → NamesBelow log 0 → log ≡ []
no_names [] b = refl
no_names (m ∷ log) b = absurd (omega (arith, b.0))

-- an entry of no step is the root's
pub root_entry : {S : Type 0} (r : Rules S) (limits : Limits) (e : Entry S) → IsEntry r limits.depart limits.steps e → e.steps ≡ 0 → IsRootOf r limits e
root_entry {S} r limits e is none =
    let N : ℕ → Type 0 = λ n. NamesBelow e.log n in
    let empty : e.log ≡ [] = no_names e.log (subst N none is.names) in
    let A : ℕ → Type 0 = λ n. r.same e.state (stands r e.log n) ≡ true in
    let short : length e.log ≡ 0 = ap length empty in
    record { same = subst A none is.at; budget = omega (arith, is.budget, short); log = empty; steps = none }
