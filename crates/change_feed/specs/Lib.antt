pub mod Places
pub mod Shown
pub mod Watchers
pub mod Kinds
pub mod Watches
pub mod Feeds
pub mod inner
