-- A pool of connections, in its own words.
use Rattle.std.specs.Prelude.{◌≡◌, ◌<◌, ◌≤◌, ℕ, List, [], ◌∷◌, length}
use Rattle.path_model.specs.declared.ids.OpId.{OpId}
use Rattle.path_model.specs.declared.ids.ActId.{ActId}
use Rattle.path_model.specs.declared.journal.Activation.{Activation}
use Rattle.path_model.specs.declared.journal.Line.{Line}
use Rattle.path_model.specs.Trees.{most, Tree, op, alt, burst}
use Rattle.path_model.specs.Declarations.{Declaration, trees}
use Rattle.path_model.specs.Journals.{live, live_count}
use Rattle.path_model.specs.Owed.{IsOwn}
use Rattle.path_system.specs.Accounts.{Account, IsSystem}

-- the two operations
abbrev pub query : OpId
query = record { 0 = 0 }

abbrev pub backup : OpId
backup = record { 0 = 1 }

-- { query : 3 } , backup
abbrev pub pool_tree : Tree
pool_tree = alt (burst (most 3) (op query)) (op backup)

-- the declaration has this path alone, and the two operations
pub record IsPoolDeclaration (d : Declaration) : Type 0 where
  pub path : trees d ≡ pool_tree ∷ []
  pub operations : length d.operations ≡ 2

-- what always holds of a pool's system: there is room for the next start, also when all that may be live is
pub record IsPool (account : Account) : Type 0 where
  pub declared : IsPoolDeclaration account.declaration
  pub roomy : 5 ≤ account.room
  pub system : IsSystem account

-- how many queries and how many backups have a connection
abbrev pub queries : List Line → ℕ
queries ls = live_count query (live ls)

abbrev pub backups : List Line → ℕ
backups ls = live_count backup (live ls)

-- at most three queries and one backup have a connection, and no query beside a backup
pub record KeepsLimits (ls : List Line) : Type 0 where
  pub few : queries ls ≤ 3
  pub one : backups ls ≤ 1
  pub alone : 0 < backups ls → queries ls ≡ 0

-- the worker has a connection with this number
abbrev pub Holds : List Line → ℕ → ActId → Type 0
Holds ls worker act = (a : Activation) × IsOwn ls worker act a

-- a connection that is in use
abbrev pub connection : ℕ → OpId → ActId → Activation
connection worker o act = record { act = act; worker = worker; op = o }
