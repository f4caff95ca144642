-- Close and void keep a table good: sound, and in agreement with the history. Before them the bank's cards, what goes back to a guest, and that the
-- tray pays it; beside them that each pay line is there exactly once, and from the left.
pub mod BankDraw
pub mod Back
pub mod Tray
pub mod Taken
pub mod Close
pub mod PayLines
pub mod EachOnce
pub mod InOrder
pub mod Void
