-- A reader must believe ByBudget (what a call by a budget answers on a part of an object) and Enough (that more is
-- enough). inner is the code's own.
pub mod ByBudget
pub mod Enough
pub mod inner
