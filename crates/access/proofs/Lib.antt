pub mod RefusalLaws
pub mod AcceptedPlaces
pub mod TableReads
pub mod RecordReads
pub mod RightLaws
