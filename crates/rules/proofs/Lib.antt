pub mod Laws
mod Unique
pub mod Decided
