-- What the contracts of this crate speak of: the layout of a plan's state of eight bytes. Nothing that is called from outside uses it yet.
pub mod Stored
