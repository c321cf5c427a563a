pub mod PageLayers
pub mod KeptHoldings
pub mod InOrder
pub mod Agreement
pub mod LastNumbers
