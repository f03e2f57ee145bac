-- What must be believed of formulas as text, in reading order: Text, Erased, Answers. The same in figures, held to it by a theorem: Examples. Only a tool, for
-- laws and for the code's contracts: Levels (reading a text some levels deep).
pub mod Text
pub mod Levels
pub mod Answers
pub mod Examples
pub mod Slices
