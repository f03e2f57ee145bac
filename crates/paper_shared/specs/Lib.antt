-- What must be believed, in reading order: Shared, Answers, Calls, Demands. The same again in other words, held to it by a theorem: Refusals; in
-- figures: Slices, Examples. Only a tool: Records.
pub mod Shared
pub mod Answers
pub mod Calls
pub mod Demands
pub mod Refusals
pub mod Records
pub mod Slices
pub mod Examples
