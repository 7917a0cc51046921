-- What contracts see of where the paths of a declaration stand.
pub mod Told  -- trees, rows and places by their numbers
pub mod Numbers  -- what is left of bounds, and how much is underway in braces
pub mod Misfits  -- whether the paths can stand so
pub mod Written  -- the values of a gate whose paths stand so
