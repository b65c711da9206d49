-- What the calls for a whole task give.
pub mod OneShot
pub mod SearchNumbers
pub mod Laws
