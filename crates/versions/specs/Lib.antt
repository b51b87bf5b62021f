-- Document 02 (vi) as definitions: what a reader must believe of tables that are moved, and rows that show it.
pub mod Versions
pub mod Cases
pub mod Room
