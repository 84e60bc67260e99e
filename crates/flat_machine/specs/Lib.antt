-- What the program takes and gives, as the machine's definitions have it; inner is the code's own.
pub mod View
pub mod StateView
pub mod inner
