pub mod Amounts
pub mod Agree
pub mod Says
