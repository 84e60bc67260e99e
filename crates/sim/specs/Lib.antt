-- A reader must believe Run (what is printed of the lines of a file, and what holds of the worlds
-- on the way), Replies (that a reply is its method's run) and Simulating (what is printed or drawn,
-- or why nothing was done); what a line does is sim_world's Step.
pub mod Replies
pub mod Run
pub mod Simulating
