pub mod Rules
pub mod Totals
