-- What the code of the writer gives, as its definitions see it (`file_spec`).
pub mod Parts
pub mod Codes
pub mod Writer
pub mod Aids
