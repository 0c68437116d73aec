pub mod ByteOrder
pub mod Hex
pub mod Laws
