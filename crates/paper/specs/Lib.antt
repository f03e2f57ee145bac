-- What must be believed, in reading order: Limits, Bytes, Tree, WellFormed, Record, Table, Verdict, Equal, Walk, Rules, Driver, Answers,
-- Calls, Told; then what is asked of a simplifier: Admits, Demands, Takeover; and what the two limits have to do with each other: OldMachine.
-- The same again, in other words or in figures, each held to it by a theorem: Refusals (1 to 6, 9 and 19 in the papers' words), Examples and Stored
-- (trees and what the driver makes of them), Sayings, SmallTables, Bounds, Slices (small calls, limits), Worthless and WorthlessKinds
-- (simplifiers that are turned away), BeforeMarks (a machine without marks), Erased (trees without their marks).
-- More than was asked: Squared (a better bound on the tries, from both sides).
-- Only tools, for laws and for the code's contracts: Exact (the value with no reduction), Good (what is asked of a rule), Shallow (what is asked of it
-- besides, for that bound), Gathering (document 01's gathering, to be compared with), Standing (trees that stand in a table), Cost (what tries may come
-- to), Height (nodes one inside the other), Once (the form of the uniqueness lemmas).
pub mod Limits
pub mod Bytes
pub mod Tree
pub mod Equal
pub mod Record
pub mod Verdict
pub mod Refusals
pub mod WellFormed
pub mod Table
pub mod Standing
pub mod Walk
pub mod Rules
pub mod Driver
pub mod Gathering
pub mod Exact
pub mod Admits
pub mod Good
pub mod Shallow
pub mod Answers
pub mod Calls
pub mod Demands
pub mod Takeover
pub mod OldMachine
pub mod BeforeMarks
pub mod Erased
pub mod Worthless
pub mod Examples
pub mod Once
pub mod Sayings
pub mod Stored
pub mod Bounds
pub mod Slices
pub mod SmallTables
pub mod WorthlessKinds
pub mod Told
pub mod Squared
pub mod Cost
pub mod Height
