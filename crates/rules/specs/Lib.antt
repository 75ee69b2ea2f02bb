pub mod Answers
pub mod KnownAnswers
pub mod Rules
pub mod Promises
pub mod SecretSegment
pub mod Harmless
pub mod Internals
