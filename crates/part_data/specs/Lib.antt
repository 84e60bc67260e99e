-- A reader must believe Known (what is known of data) and Changes (what a call makes of it).
pub mod Known
pub mod Changes
pub mod inner
