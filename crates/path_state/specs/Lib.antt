-- The definitions that snapshots rest on, and their laws; read them in the order of their numbers.
pub mod Standings  -- 1: where a path stands, and what may follow
pub mod Pasts  -- 2: where a path can stand
pub mod Values  -- what its semaphores are then
pub mod States  -- 3: the state behind lines, and what is owed behind it
