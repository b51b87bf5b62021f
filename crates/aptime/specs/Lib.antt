-- The program `aptime`: what a reader must believe of what a text says (Lines) and of what is printed for it (Printed), examples of both
-- (Cases); and, for the contracts inside the crate, the steps of the reading (Steps).
pub mod Lines
pub mod Printed
pub mod Cases
pub mod Steps
