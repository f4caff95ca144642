-- One that fails decides, and a place without a card.
pub mod Laws
