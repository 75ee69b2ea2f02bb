pub mod Runs
mod Unique
pub mod Secrecy
pub mod SecrecyOfRuns
mod SecrecyOfContracts
