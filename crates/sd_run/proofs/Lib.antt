mod BulkLemmas
mod EndLemmas
mod LineLemmas
mod MergingLemmas
mod PromiseLemmas
mod StrictLemmas
