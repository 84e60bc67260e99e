-- A reader must believe Program (how the program ends, and what it prints and writes), and what it
-- cites: Asked and Arguments (what words ask for; `command_line` says how they are read), Inputs
-- (how standard input is used), Entries, Tenants and Raw (how words spell xattrs and keys, tenants'
-- classes and methods), Shown, Judged, Looped, Tested, Playing and Clustered (how an action,
-- `verify --all`, `verify` of files and by loops, `run` by loops, `heads`, `test`, `sim` and `cluster`
-- end), Status, Streams and Change (the number of an exit status, what is known of standard output,
-- and what of it and of files a run changes).
pub mod Arguments
pub mod Asked
pub mod Change
pub mod Clustered
pub mod Entries
pub mod Inputs
pub mod Judged
pub mod Looped
pub mod Tenants
pub mod Values
pub mod Playing
pub mod Program
pub mod Raw
pub mod Shown
pub mod Status
pub mod Streams
pub mod Tested
