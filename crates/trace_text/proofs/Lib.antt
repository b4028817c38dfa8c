mod LineLemmas
mod StepLemmas
