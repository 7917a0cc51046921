-- What always holds of a gate.
use Rattle.std.specs.Prelude.{◌≡◌, ◌+◌, ◌-◌, ◌<◌, ◌≤◌, ℕ, List, [], length, map, take, drop, slice_index, slice_index_or, All}
use Rattle.path_model.specs.declared.ids.OpId.{OpId}
use Rattle.path_model.specs.Trees.{Names, FewAtOnce, WellFormed}
use Rattle.path_model.specs.Legal as legal
use Rattle.path_gate.specs.declared.gate.Term.{Term}
use Rattle.path_gate.specs.Sites.{kept_paths}
use Rattle.path_gate.specs.Standings.{Standing, HavePlaces, HavePasts}
use Rattle.path_gate.specs.Inner.Terms.{terms_at}

-- the run of each operation: the terms in its range
abbrev pub runs_of : List Term → List (ℕ × ℕ) → List (List Term)
runs_of terms ranges = map (λ r. take (r.1 - r.0) (drop r.0 terms)) ranges

-- the ends of each range are in order, and within the list
abbrev pub IsLaidOut : List Term → List (ℕ × ℕ) → Type 0
IsLaidOut terms ranges = All (λ r. (r.0 ≤ r.1) × (r.1 ≤ length terms)) ranges

-- what holds of a gate: its runs are the terms of its paths, each kept value has its place, and each path has a past
pub record IsSound (g : Standing) (runs : List (List Term)) : Type 0 where
  pub well_formed : legal.Every WellFormed g.paths
  pub few_at_once : legal.Every FewAtOnce g.paths
  pub terms : (a : OpId) → slice_index_or runs a.0 [] ≡ terms_at (kept_paths g.paths) a
  pub counts : length g.in_progress ≡ length runs
  pub places : HavePlaces g
  -- the count of an operation that no path names is 0
  pub idle : (a : OpId) → legal.NoneOf (λ s. Names s a) g.paths → slice_index g.in_progress a.0 ≡ 0
  pub pasts : HavePasts g
