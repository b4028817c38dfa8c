-- *internal*: How the program keeps what a process has left: a stack, the first frame last, of which the front is shared.
use Rattle.std.specs.Prelude.{◌≤◌, List, ◌++◌, length, reverse, take}
use Rattle.std.specs.Arc.{arc_slice_items}
use Rattle.plain_steps.specs.declared.continuation.Continuation.{Continuation}
use Rattle.vmodel.specs.declared.frame.Frame.{Frame}

-- no more of the beginning is left than there was
abbrev pub IsWhole : Continuation → Type 0
IsWhole continuation = continuation.kept ≤ length (arc_slice_items continuation.base)

-- all of it, the first last
abbrev pub stack : Continuation → List Frame
stack continuation = take continuation.kept (arc_slice_items continuation.base) ++ continuation.own.items

abbrev pub continuation_frames : Continuation → List Frame
continuation_frames continuation = reverse (stack continuation)
