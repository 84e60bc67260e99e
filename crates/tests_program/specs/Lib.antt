-- A reader need believe nothing of it: what files hold in the tests.
pub mod Known
