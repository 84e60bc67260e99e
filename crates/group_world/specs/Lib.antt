-- Read from the theorem down: World, Rules, Unanswered, Monitor, Node, Maps. Refusal has what
-- refusals print.
pub mod Maps
pub mod Refusal
pub mod Node
pub mod Rules
pub mod Unanswered
pub mod Monitor
pub mod World
pub mod Told
pub mod Runs
