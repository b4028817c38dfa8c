-- From one text to the next: what is left to take of a whole text.
use Rattle.std.proofs.Common.{ℕ, List, [], ◌++◌}
use Rattle.basis.specs.declared.memory.NoMemory.{NoMemory}
use Rattle.basis.specs.declared.memory.OrMemory.{OrMemory}
use Rattle.basis.specs.declared.memory.OrMemory.TheVariants.{Memory}
use Rattle.byte_sinks.specs.ByteSinks.{IsByteSink, Stopped}
use Rattle.byte_sinks.specs.ByteSinkLaws.{stopped_before, stopped_after}

module _ {O F : Type 0} (takes : O → List ℕ → O → Type 0) (fails : O → List ℕ → F → O → Type 0) (laws : IsByteSink takes fails) where
  -- what is left to take now, from a whole text
  pub record Leads (old : O) (text : List ℕ) (now : O) (rest : List ℕ) : Type 0 where
    pub taking : (t : O) → takes now rest t → takes old text t
    pub stopping : (fault : OrMemory F) (t : O) → Stopped takes fails now rest fault t → Stopped takes fails old text fault t

  pub leads_first : (old : O) (text : List ℕ) → Leads old text old text
  leads_first old text = record { taking = λ t p. p; stopping = λ fault t p. p }

  -- one more was taken
  pub leads_on : (old now next : O) (text part rest : List ℕ) → Leads old text now (part ++ rest) → takes now part next → Leads old text next rest
  leads_on old now next text part rest leads taken = record {
    taking = λ t p. leads.taking t (laws.joins now next t part rest taken p);
    stopping = λ fault t p. leads.stopping fault t (stopped_after takes fails laws now next t part rest fault taken p);
  }

  -- it stopped in the next one
  pub leads_stop : (old now new : O) (text part rest : List ℕ) (fault : OrMemory F) → Leads old text now (part ++ rest) → Stopped takes fails now part fault new →
      Stopped takes fails old text fault new
  leads_stop old now new text part rest fault leads stopped = leads.stopping fault new (stopped_before takes fails laws now new part rest fault stopped)

  -- memory was refused in between
  pub leads_memory : (old now : O) (text rest : List ℕ) (refused : NoMemory) → Leads old text now rest → Stopped takes fails old text (Memory refused) now
  leads_memory old now text rest refused leads = leads.stopping (Memory refused) now (0, laws.none now)

  -- nothing is left
  pub leads_end : (old now : O) (text : List ℕ) → Leads old text now [] → takes old text now
  leads_end old now text leads = leads.taking now (laws.none now)
