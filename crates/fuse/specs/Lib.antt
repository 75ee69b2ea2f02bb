pub mod Byte
pub mod Promises
pub mod Examples
