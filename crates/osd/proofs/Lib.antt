pub mod Booking
pub mod Parting
pub mod Sending
