pub mod FirstKinds
pub mod StepsLoop
