-- What the readers of every machine share.
pub mod Form
pub mod Table
pub mod Target
pub mod Entry
pub mod Walk
pub mod Join
pub mod Reader
