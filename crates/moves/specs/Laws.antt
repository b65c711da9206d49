-- The laws behind what contracts cite.
pub mod Placed
pub mod Trail
pub mod ClassEnd
pub mod Moves
pub mod Choice
