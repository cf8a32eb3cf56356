-- What only mirrors the code: how places are found, added and moved, what an edit makes of an index, and which index has room
-- for it.
pub mod Adding
pub mod Edits
pub mod Finding
pub mod Fitting
pub mod Leading
pub mod Places
pub mod Rooms
pub mod Settling
pub mod Shifting
pub mod Taking
