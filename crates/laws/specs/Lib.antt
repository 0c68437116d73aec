pub mod Chains
pub mod Worlds
pub mod Acts
pub mod Calls
pub mod Histories
pub mod Maps
pub mod Theorem
pub mod Trees
