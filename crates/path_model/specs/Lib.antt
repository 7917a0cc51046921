-- The definitions of the subject, and its laws. Seven files are enough to judge what a proof says; read them in the order of their numbers.

-- Subject: what paths mean
pub mod Trees  -- 1: the tree of a path
pub mod Histories
pub mod Labellings
pub mod Words  -- 2: its whole executions
pub mod Behaviour  -- 3: what may have happened while it repeats
pub mod Projection
pub mod Legal  -- 4: what may have happened under all paths, and which path forbids a start
pub mod Declarations  -- 5: what a declaration contains
pub mod Devices
-- Machine: the semaphores, and what is left of them
pub mod Machine
pub mod Downward
pub mod Trimmed
pub mod Flat
pub mod KeptTerms
-- Journals: which reply is owed to an attempt
pub mod Journals
pub mod Contents
pub mod Rooms
pub mod Places
pub mod Owed  -- 6: the reply that the lines so far owe
pub mod Honest  -- 7: journals in which each reply was owed
pub mod Asked
pub mod Stuck
pub mod Segments
-- Laws: that the machine keeps the meaning of the paths, and what follows for callers
pub mod OnePath
pub mod AmongOthers
pub mod BurstCounts
pub mod AllPaths
pub mod Agreement
pub mod BoundedValues
pub mod TreeTests
pub mod Executions
pub mod Guarantees
pub mod Refusals
pub mod JournalGuarantees
