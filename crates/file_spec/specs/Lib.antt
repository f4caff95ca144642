-- Request 2.9: the session file of 512-byte blocks. Its parts in the paper's order, then the one file of a session, the number of any bytes, what a checked file hands out, the
-- reader and the writer, and what is claimed of them.
pub mod Block
pub mod TableBlock
pub mod CallBlock
pub mod File
pub mod Number
pub mod Handed
pub mod Reader
pub mod Writer
pub mod Laws
