-- What stands in a script's rows, the calls that their letters stand for, and the words that programs write for calls.
pub mod Letters
pub mod Names
pub mod Rows
pub mod Script
