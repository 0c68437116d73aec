pub mod Loads
pub mod Images
pub mod Runs
pub mod Cases
