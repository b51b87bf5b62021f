-- What the sets of children are as words, and what is known once they are found.
pub mod Sets
