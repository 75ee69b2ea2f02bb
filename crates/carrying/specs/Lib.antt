pub mod CarryingOut
pub mod Lent
pub mod Promises
pub mod Alike
