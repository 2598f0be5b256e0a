pub mod FrameLaws
pub mod FieldLaws
pub mod KindLaws
pub mod MessageLaws
pub mod MessageTheorems
pub mod EnumTheorems
pub mod Examples
