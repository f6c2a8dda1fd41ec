mod Digits
mod Lines
mod Reading
mod Runs
mod Tellings
mod Unique
