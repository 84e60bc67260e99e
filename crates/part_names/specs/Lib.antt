-- A reader must believe Order, Known (what is known, and which maps agree), Changes and Answers.
-- Apart says what the code keeps.
pub mod Order
pub mod Known
pub mod Changes
pub mod Answers
pub mod Apart
