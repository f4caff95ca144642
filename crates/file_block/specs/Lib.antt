-- What the code of one block cites beside the definitions of `file_spec`.
pub mod Aids
