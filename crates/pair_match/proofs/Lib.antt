mod TimeLemmas
mod PairLemmas
mod PartingLemmas
