pub mod HashTests
pub mod Entries
pub mod WrittenLists
