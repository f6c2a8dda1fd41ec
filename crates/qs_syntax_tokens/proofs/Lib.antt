pub mod FirstKinds
