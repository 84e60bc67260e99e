-- A reader must believe Found: what is known of heads that were found.
pub mod Found
