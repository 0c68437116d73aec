pub mod Resolved
pub mod Relation
pub mod Following
pub mod Beginning
pub mod Accounts
pub mod Service
pub mod Stands
