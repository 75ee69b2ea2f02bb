mod Unique
pub mod CarriedAlike
