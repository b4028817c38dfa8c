use Rattle.std.proofs.Common.{◌≡◌, drop}
use Rattle.vflat.specs.Flat.{terms_told}
use Rattle.vflat.specs.InnerFlat.{told_of}
use Rattle.vflat.proofs.flat.Flat.tell.Given as goal

abbrev pub invariant-loop-part : goal.invariant-loop-part
invariant-loop-part l =
    told_of l.code l.parts l.triggered (terms_told (drop l.part-index l.parts) l.triggered) l.self
    ≡ told_of l.code l.parts l.triggered (terms_told l.parts l.triggered) l.fn.self
