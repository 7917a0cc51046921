pub mod Waiting  -- who waits, in which order, and who runs
pub mod Ways  -- when a start is withheld, and for whom
pub mod Rulings  -- what the calls answer
pub mod Bounds  -- how long one waits
pub mod Beside  -- spare gates beside a gate
pub mod Inner
