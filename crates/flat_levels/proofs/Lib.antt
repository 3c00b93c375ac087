mod Laws
pub mod Cards
