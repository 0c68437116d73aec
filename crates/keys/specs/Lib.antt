pub mod Bytes
pub mod Hex
pub mod Order
pub mod Tokens
pub mod BytesLemmas
