pub mod Kind
pub mod Lines
pub mod Refused
pub mod Report
pub mod Table
