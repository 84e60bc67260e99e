-- To be believed: Kind, Slots, Link and Frame (what is known of registers and of the stack's slots,
-- and what they hold), Links (what instructions do with links, and what these tell), Flow (where an
-- instruction goes on, and the frame along each edge), Moves (what instructions do with registers
-- and slots, and the truth of links). Seen is the view of the code's kinds; Laws and Flat are
-- proved of these.
pub mod Kind
pub mod Slots
pub mod Link
pub mod Frame
pub mod Links
pub mod Flow
pub mod Moves
pub mod Edged
pub mod Seen
pub mod Laws
pub mod Flat
