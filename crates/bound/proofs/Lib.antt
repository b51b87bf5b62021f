-- Laws of the question for the figure, and that it has one answer.
pub mod Answers
pub mod Unique
