pub mod Table
pub mod Promises
