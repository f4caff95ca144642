-- What the code of the session file gives, as its definitions see it (`file_spec`).
pub mod Reader
