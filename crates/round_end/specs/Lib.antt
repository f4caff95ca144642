-- Request 2.14: the rounds of a list of calls with what is counted of each, one round counted by hand, the bound, and that a round can always go on.
pub mod Rounds
pub mod Counted
pub mod Bound
pub mod GoesOn
