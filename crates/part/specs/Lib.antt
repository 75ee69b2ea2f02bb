pub mod Descriptions
pub mod Places
pub mod Promises
