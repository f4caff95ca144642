-- What is seen and what is left make up the decks; parts of a list; and how the counts go face by face.
pub mod Unseen
pub mod Parts
