-- What is stated: TakenOver, and told more fully LimitOver (a table at another limit), LinkOver, TextOver, SiteRestored (a site restored whole); at the two
-- limits OldOver (text and link) and OtherLimit (sites and shared formulas). Small examples, computed: Examples, OverExamples, SiteExamples.
pub mod TakenOver
pub mod LimitOver
pub mod LinkOver
pub mod TextOver
pub mod OldOver
pub mod Examples
pub mod OverExamples
pub mod SiteRestored
pub mod OtherLimit
pub mod SiteExamples
