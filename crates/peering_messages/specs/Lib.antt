-- What the code does between the rules; group_world defines the messages.
pub mod Sending
