-- Laws and theorems over the definitions of crate rules. The theorems: Witness and PlanByPlan (which picks explain the states
-- shown), Valid (a step keeps check 11 passed), OneInExecution, OnlyWhileParent and EndingsKept (demand 3's last rules), Unique (one
-- verdict), VerdictStays (the same verdicts as before document 02 (vii)), RestsWithin (document 02 (viii): when a run rests) and ForEver
-- (why that has premises). The rest leads to them.
pub mod Numbers
pub mod Tests
pub mod Lists
pub mod States
pub mod Children
pub mod Moves
pub mod Step
pub mod Orders
pub mod Choice
pub mod SameStep
pub mod Witness
pub mod PlanByPlan
pub mod PassedStates
pub mod PassedWords
pub mod TwoChildren
pub mod Went
pub mod Valid
pub mod PassedCall
pub mod Accepted
pub mod VerdictStays
pub mod OneInExecution
pub mod OnlyWhileParent
pub mod EndingsKept
pub mod Lively
pub mod Unique
pub mod Falls
pub mod Resting
pub mod RestsWithin
pub mod ForEver
