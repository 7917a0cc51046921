-- The state after the parts so far.
use Rattle.std.specs.Prelude.{◌≡◌, List, Option, Some, None}
use Rattle.path_lex.specs.declared.fault.DeclFault.{DeclFault}
use Rattle.path_read.specs.declared.intake.Intake.{Intake}
use Rattle.path_read.specs.Inner.Parts.{Saying}
use Rattle.path_read.specs.Inner.Reading.{Fails}
use Rattle.path_read.specs.Inner.Building.{Drafted, drafted, AllAllowed, after_all}

-- a draft of parts that all were allowed, or the fault of the first that wasn't
pub data Taking : Type 0 where
  sound : Drafted → Taking
  broken : DeclFault → Taking

abbrev pub unless : Option DeclFault → Drafted → Taking
unless None d = sound d
unless (Some e) d = broken e

abbrev pub taken : {Y : Type 0} → Intake Y → Taking
taken i = unless i.fault (drafted i.draft)

-- these parts were taken after those before
abbrev pub Follows : List Saying → Taking → Taking → Type 0
Follows ps (sound d) (sound e) = AllAllowed ps d × (e ≡ after_all ps d)
Follows ps (sound d) (broken e) = Fails e (AllAllowed ps d → ⊥)
Follows ps (broken e) (sound d) = ⊥
Follows ps (broken e) (broken f) = e ≡ f

-- some item of which R holds was read, and its parts were taken
abbrev pub Adds : {X : Type 0} → (X → List Saying) → (X → Type 0) → Taking → Taking → Type 0
Adds {X} says R old new = (x : X) × R x × Follows (says x) old new
