pub mod Numbered
pub mod Once
pub mod Fresh
pub mod Named
pub mod Counted
pub mod DataBlocks
pub mod OneBlock
