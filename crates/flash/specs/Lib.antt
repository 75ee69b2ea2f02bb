pub mod Parts
pub mod Operations
pub mod Promises
pub mod Examples
pub mod Internals
