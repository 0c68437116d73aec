pub mod Firsts
pub mod Freeing
pub mod Leaving
