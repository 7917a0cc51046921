-- When devices make no shelf of a declaration.
use Rattle.std.specs.Prelude.{◌≡◌, ◌≢◌, ◌<◌, ℕ, List, length, map, take}
use Rattle.path_model.specs.declared.resource.Law.{Law}
use Rattle.path_model.specs.Declarations.{Declaration, law_of}
use Rattle.path_shelf.specs.declared.shelf.ShelfFault.{ShelfFault}
use Rattle.path_shelf.specs.declared.shelf.ShelfFault.TheVariants.{WrongCount, WrongDevice}
use Rattle.path_shelf.specs.States.{State, state_at, laws_of}

-- the laws of a declaration's resources, in order
abbrev pub declared_laws : Declaration → List Law
declared_laws d = map (λ r. r.law) d.resources

-- r is the first resource whose device has another law
pub record IsFirstOther (states : List State) (d : Declaration) (r : ℕ) : Type 0 where
  pub declared : r < length d.resources
  pub same_before : take r (laws_of states) ≡ take r (declared_laws d)
  pub other : (state_at states r).law ≢ law_of d r

-- there isn't one device for each resource; or there is, and r is the first resource whose device has another law
abbrev pub IsShelfFault : List State → Declaration → ShelfFault → Type 0
IsShelfFault states d WrongCount = length states ≢ length d.resources
IsShelfFault states d (WrongDevice r) = (length states ≡ length d.resources) × IsFirstOther states d r.0
