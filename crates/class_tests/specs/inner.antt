-- The code's own: what private contracts say.
pub mod Made
