pub mod LoopLaws
pub mod RecordPlaces
pub mod TableClauses
pub mod NumberClauses
pub mod FriendClauses
pub mod NoteClauses
pub mod SoundTheorems
