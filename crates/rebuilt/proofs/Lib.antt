pub mod Encoded
pub mod IntegerTests
pub mod Closing
pub mod Becomes
pub mod WriteLaws
pub mod Without
pub mod Unique
