pub mod Unbound
pub mod Bindings
pub mod Same
pub mod TermOrder
pub mod KnownValues
pub mod KnownKeys
