mod DigestLemmas
mod PlaceLemmas
mod MarkLemmas
mod QueueLemmas
mod LawLemmas
