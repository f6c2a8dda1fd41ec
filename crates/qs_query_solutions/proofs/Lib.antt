pub mod Collecting
pub mod SeenQuads
pub mod Fronts
pub mod Coming
pub mod EachOnce
pub mod Keys
pub mod InOrder
pub mod Listing
