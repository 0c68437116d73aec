pub mod Entries
pub mod Texts
