-- Texts in buffers.
use Rattle.std.specs.Prelude.{◌<◌, ◌⊎◌, ℕ, List, ◌++◌, length, drop}

-- a buffer with a text over its front
abbrev pub overlaid : List ℕ → List ℕ → List ℕ
overlaid text buffer = text ++ drop (length text) buffer

-- one of two buffers is shorter than its text
abbrev pub IsShort : List ℕ → List ℕ → List ℕ → List ℕ → Type 0
IsShort out err out_buffer err_buffer = (length out_buffer < length out) ⊎ (length err_buffer < length err)
