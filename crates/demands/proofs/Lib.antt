pub mod DemandTheorems
pub mod CallTheorems
