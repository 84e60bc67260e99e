-- A reader must believe Safe (the class of a file by its heads, and why there is none), Reports (what is told of
-- files), LoopRun (a call by its loops, and why it failed), Heads and PackedHeads (the image with heads that is
-- written, of a file's class and of raw code, and why not),
-- and Places and NoHeads (the line on a method for which no heads are found).
pub mod Heads
pub mod LoopRun
pub mod WriteHeadsError
pub mod NoHeads
pub mod PackedHeads
pub mod Places
pub mod Reports
pub mod Safe
