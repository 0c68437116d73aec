pub mod Places
pub mod Leading
pub mod Unordered
pub mod Accepted
pub mod Splices
