pub mod Words
pub mod Numbers
pub mod Turns
pub mod Right
pub mod RoundTrip
pub mod Grammatical
