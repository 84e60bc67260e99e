-- A reader of the contracts must believe Numbered and Mapping. The code's own steps are in inner.
pub mod Numbered
pub mod Mapping
pub mod inner
