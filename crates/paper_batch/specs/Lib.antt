-- What must be believed: Batch. The request's sentences about it, each proved: Sentences. Small sites, computed: Examples.
pub mod Batch
pub mod Sentences
pub mod Examples
