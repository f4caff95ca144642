-- Lists as every layer above reads them: sums, tests over a list, the first place where a test holds, and the same below a number.
pub mod Sum
pub mod Tests
pub mod Below
pub mod Flat
