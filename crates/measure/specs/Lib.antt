pub mod Tests
pub mod Measures
pub mod Words
pub mod Promises
pub mod OneOutcome
pub mod Examples
