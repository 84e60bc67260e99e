pub mod Agreeing
mod Making
mod Picturing
mod Reaching
mod Replying
mod Tables
mod Typed
