mod SlotLemmas
mod NamedLemmas
mod UnderWayLemmas
mod ReadLemmas
mod CountLemmas
mod KnownLemmas
mod ComparedLemmas
