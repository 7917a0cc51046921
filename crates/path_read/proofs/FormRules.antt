-- The rules and limits of a declaration, in the names of its text.
use Rattle.std.proofs.Common.{◌≡◌, ℕ, ◌+◌, ◌≤◌, List, length, map, Contains}
use Rattle.std.specs.List.{AllByRecursion}
use Rattle.path_decl.specs.Lawful.{IsDistinct}
use Rattle.path_decl.specs.Forms.{Form, once, sequence, selection, braced, names_in, ResourceForm, all_operations, all_paths, BoundFits, LawFits}

-- inside this many open braces, no braces are inside braces, and each bound is a number from 1 to 65,535
abbrev pub BracesFit : ℕ → Form → Type 0
BracesFit b (once n) = Unit {0}
BracesFit b (sequence f g) = BracesFit b f × BracesFit b g
BracesFit b (selection f g) = BracesFit b f × BracesFit b g
BracesFit b (braced c f) = (b ≡ 0) × BracesFit (b + 1) f × BoundFits c

-- a path names, each once, at most 64 operations of its own resource, and its braces fit
pub record KeepsPathRules (own : List (List ℕ)) (p : Form) : Type 0 where
  pub declared : AllByRecursion (λ n. Contains own n) (names_in p)
  pub once : IsDistinct (names_in p)
  pub few : length (names_in p) ≤ 64
  pub braces : BracesFit 0 p

-- each path keeps them for its own resource
abbrev pub PathsKeepRules : List ResourceForm → Type 0
PathsKeepRules rs = AllByRecursion (λ r. AllByRecursion (KeepsPathRules r.operations) r.paths) rs

pub record KeepsRules (rs : List ResourceForm) : Type 0 where
  pub resources : IsDistinct (map (λ r. r.name) rs)
  pub laws : AllByRecursion (λ r. LawFits r.law) rs
  pub operations : IsDistinct (all_operations rs)
  pub paths : PathsKeepRules rs
  pub few_resources : length rs ≤ 64
  pub few_operations : length (all_operations rs) ≤ 256
  pub few_paths : length (all_paths rs) ≤ 256
