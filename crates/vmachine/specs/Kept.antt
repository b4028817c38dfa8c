-- *internal*: What a state of a machine is, and all of it but its processes, by how it is kept.
use Rattle.vmachine.specs.declared.machine_state.Kept.{Kept}
use Rattle.vmachine.specs.declared.machine_state.Kept.TheVariants.{Plain, Fast}
use Rattle.vmachine.specs.declared.rest.KeptRest.{KeptRest}
use Rattle.vmachine.specs.declared.rest.KeptRest.TheVariants as rests
use Rattle.vmodel.specs.State.{State}
use Rattle.vflat.specs.Representations.{Representation, plain, fast}

abbrev pub representation_of : Kept → Representation
representation_of (Plain state) = plain state.value
representation_of (Fast flat) = fast flat.value

abbrev pub state_of_rest : KeptRest → State
state_of_rest (rests.Plain state) = state.now
state_of_rest (rests.Flat kernel) = kernel.now
