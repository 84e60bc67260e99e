-- A reader must believe Packing, Run, LargeRun, Each and ActionResult (the result of each command,
-- and why it fails), Begun (the object of a call), Log and RunReport (which call a report is of,
-- and how it prints), and Note (that what explains a failure is a text).
pub mod ActionResult
pub mod Begun
pub mod Each
pub mod LargeRun
pub mod Log
pub mod Note
pub mod Packing
pub mod RunReport
pub mod Run
