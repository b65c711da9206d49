-- Steps over a text: bytes that are known, a name in whatever case, and a part up to a byte.
pub mod Stands
pub mod Steps
pub mod Spelled
pub mod Ended
pub mod Laws
