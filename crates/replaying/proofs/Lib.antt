-- Laws of playing a file call by call.
pub mod Plays
pub mod PlaysFile
