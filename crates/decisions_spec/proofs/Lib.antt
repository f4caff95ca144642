-- Each accepted insurance and decision keeps a sound table sound, and a table that agrees with a history in agreement: `Decision` says what that takes of a decision,
-- and each has a file with what its acceptance gives and the lemma that it is such a decision. An insurance changes one guest's money.
pub mod Acting
pub mod Insure
pub mod Decision
pub mod Paying
-- The decisions in turn and surrender, which put other hands in their places.
pub mod Turn
pub mod HandChange
pub mod End
pub mod Stand
pub mod Even
pub mod Five
pub mod Surrender
pub mod Card
pub mod Draw
pub mod Double
pub mod Split
pub mod Permitted
