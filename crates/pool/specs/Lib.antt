pub mod Free
pub mod Waits
