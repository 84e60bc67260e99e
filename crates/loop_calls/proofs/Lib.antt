mod LoopRuns
mod Halves
mod LoopAnswered
mod LoopMore
