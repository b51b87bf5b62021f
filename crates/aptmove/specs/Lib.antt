-- What the program `aptmove` writes, as definitions: what a reader must believe of it.
pub mod Moving
