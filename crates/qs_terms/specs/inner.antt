-- For proofs and the layers between: no clause of the headline cites a definition of these files.
pub mod Datatype
pub mod Bag
pub mod Dataset
pub mod Device
pub mod Iri
pub mod Literal
pub mod OrOutOf
pub mod Outcome
pub mod Term
