-- *internal*: What the hash of a state is fed: one number made of its time, its values, where its processes stand, what its queue holds, and
-- what is held back and printed where that is kept. Equal states have the same one; no more is asked of it.
use Rattle.std.specs.Prelude.{◌≡◌, ℕ, ◌+◌, ◌*◌, ◌%◌, ◌/◌, ◌^◌, true, List, [], ◌∷◌, Option, Some, None, slice_get}
use Rattle.std.specs.Hash as fed
use Rattle.std.proofs.Common.{ap}
use Rattle.vbits.specs.Vectors.{Vector}
use Rattle.vbits.specs.Planes.{values_of, unknowns_of}
use Rattle.vmodel.specs.declared.frame.Frame.{Frame}
use Rattle.vmodel.specs.declared.frame.Frame.TheVariants.{Executing, Repeating, Writing}
use Rattle.vmodel.specs.declared.part.Part.{Part}
use Rattle.vmodel.specs.declared.part.Part.TheVariants.{Whole, Bits}
use Rattle.vmodel.specs.ProcessSets.{number_of}
use Rattle.vmodel.specs.Queue.{Later, Queue}
use Rattle.vmodel.specs.State.{Process, State}
use Rattle.vmodel.specs.Same.{state_same}
use Rattle.vmodel.specs.SameLaws.{states_tell}

-- one word more, in 64 bits
abbrev pub digest_with : ℕ → ℕ → ℕ
digest_with digest word = (digest + word) % 2 ^ 64 * 11400714819323198485 % 2 ^ 64

-- a vector, by its two planes
abbrev pub digest_of_vector : ℕ → Vector → ℕ
digest_of_vector digest v = digest_with (digest_with digest (values_of v.letters)) (unknowns_of v.letters)

abbrev pub digest_of_values : ℕ → List Vector → ℕ
digest_of_values digest [] = digest
digest_of_values digest (v ∷ values) = digest_of_values (digest_of_vector digest v) values

-- Where a process stands: 0 where nothing is left for it. With it go the turns that are left of a `repeat`, and 0 turns where it is to
-- write what it holds.
abbrev pub stand_of : Option Frame → ℕ
stand_of None = 0
stand_of (Some (Executing place)) = (place + 1) % 2 ^ 64
stand_of (Some (Repeating place turns)) = digest_with ((place + 1) % 2 ^ 64) turns
stand_of (Some (Writing place)) = digest_with ((place + 1) % 2 ^ 64) 0

abbrev pub digest_of_processes : ℕ → List Process → ℕ
digest_of_processes digest [] = digest
digest_of_processes digest (p ∷ processes) = digest_of_processes (digest_with digest (stand_of (slice_get p.continuation 0))) processes

-- ---- the queue

-- 256 marks the end of a list, and stands for no process. A place or a variable may have that number: then two states may share a
-- digest, which costs time and nothing else
abbrev pub digest_of_end : ℕ → ℕ
digest_of_end digest = digest_with digest 256

abbrev pub digest_of_numbers : ℕ → List ℕ → ℕ
digest_of_numbers digest [] = digest
digest_of_numbers digest (n ∷ ns) = digest_of_numbers (digest_with digest n) ns

abbrev pub digest_of_part : ℕ → Part → ℕ
digest_of_part digest (Whole variable value) = digest_of_vector (digest_with digest variable) value
digest_of_part digest (Bits variable low value) = digest_of_vector (digest_with (digest_with digest variable) low) value

abbrev pub digest_of_parts : ℕ → List Part → ℕ
digest_of_parts digest [] = digest
digest_of_parts digest (part ∷ parts) = digest_of_parts (digest_of_part digest part) parts

abbrev pub digest_of_updates : ℕ → List (List Part) → ℕ
digest_of_updates digest [] = digest
digest_of_updates digest (parts ∷ updates) = digest_of_updates (digest_of_parts digest parts) updates

-- a list of places, and its end
abbrev pub digest_of_list : ℕ → List ℕ → ℕ
digest_of_list digest ns = digest_of_end (digest_of_numbers digest ns)

-- updates, and their end
abbrev pub digest_of_update_list : ℕ → List (List Part) → ℕ
digest_of_update_list digest updates = digest_of_end (digest_of_updates digest updates)

-- 128 bits, as two words
abbrev pub digest_of_half : ℕ → ℕ → ℕ
digest_of_half digest half = digest_with (digest_with digest (half % 2 ^ 64)) (half / 2 ^ 64)

-- a set of processes: a bit for each of the 256 numbers, as four words
abbrev pub digest_of_set : ℕ → List ℕ → ℕ
digest_of_set digest ps = digest_of_half (digest_of_half digest (number_of ps % 2 ^ 128)) (number_of ps / 2 ^ 128)

-- a future time, with what it holds
abbrev pub digest_of_time : ℕ → ℕ × Later → ℕ
digest_of_time digest e = digest_of_update_list (digest_of_set (digest_with digest e.0) e.1.processes) e.1.updates

abbrev pub digest_of_future : ℕ → List (ℕ × Later) → ℕ
digest_of_future digest [] = digest
digest_of_future digest (e ∷ es) = digest_of_future (digest_of_time digest e) es

-- the process that made the last step, if one goes on
abbrev pub digest_of_last : ℕ → Option ℕ → ℕ
digest_of_last digest None = digest_of_end digest
digest_of_last digest (Some p) = digest_with digest p

-- which processes are active and inactive
abbrev pub digest_of_processes_ready : ℕ → Queue → ℕ
digest_of_processes_ready digest q = digest_of_set (digest_of_set (digest_of_last digest q.last) q.active) q.inactive

-- which updates are activated and posted, and which monitor events stand
abbrev pub digest_of_events : ℕ → Queue → ℕ
digest_of_events digest q = digest_of_list (digest_of_update_list (digest_of_update_list digest q.activated) q.posted) q.strobes

abbrev pub digest_of_queue : ℕ → Queue → ℕ
digest_of_queue digest q = digest_of_future (digest_of_events (digest_of_processes_ready digest q) q) q.future

-- ---- the state

-- what is held back, where that is kept
abbrev pub digest_of_held : ℕ → Option (List ℕ) → ℕ
digest_of_held digest None = digest
digest_of_held digest (Some held) = digest_of_set digest held

abbrev pub digest_of_lines : ℕ → List (List ℕ) → ℕ
digest_of_lines digest [] = digest
digest_of_lines digest (line ∷ lines) = digest_of_lines (digest_of_list digest line) lines

-- the lines of the slot and their end, where they are kept
abbrev pub digest_of_printed : ℕ → Option (List (List ℕ)) → ℕ
digest_of_printed digest None = digest
digest_of_printed digest (Some lines) = digest_of_end (digest_of_lines digest lines)

abbrev pub digest_of_run : State → ℕ
digest_of_run s = digest_of_queue (digest_of_processes (digest_of_values (digest_with 0 s.queue.time) s.values) s.processes) s.queue

abbrev pub digest : State → ℕ
digest s = digest_of_printed (digest_of_held (digest_of_run s) s.held_back) s.printed

pub fed_alike : (s t : State) → state_same s t ≡ true → fed.u64 (digest s) ≡ fed.u64 (digest t)
fed_alike s t h = ap (λ (u : State). fed.u64 (digest u)) ((states_tell s t).0 h)
