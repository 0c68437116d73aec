pub mod Items
pub mod Chains
pub mod Frames
pub mod Halving
pub mod Build
pub mod Scan
pub mod Merge
