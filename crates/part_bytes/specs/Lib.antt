-- A reader must believe Part, what a part is and how it is spelled, and Need, how a need is spelled. View says which
-- part a value of the code stands for. inner/Reading says how a part is read from left to right.
pub mod Part
pub mod View
pub mod Need
pub mod inner
