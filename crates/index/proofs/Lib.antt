mod Worked
pub mod ImageBytes
pub mod RoundTrips
