-- What a command writes of a declaration.
use Rattle.std.specs.Prelude.{ℕ, List, ◌++◌, codes}
use Rattle.path_model.specs.Declarations.{Declaration, trees}
use Rattle.path_print.specs.Printed.{printed}
use Rattle.path_code.specs.Listing.{listing_text}
use Rattle.path_trim.specs.LeanListing.{lean_text}
use Rattle.tell_base.specs.declared.status.Status.{Status}
use Rattle.tell_base.specs.declared.status.Status.TheVariants.{Done}
use Rattle.tell_base.specs.Ends.{UnderText, Writes}
use Rattle.cmd_check.specs.declared.output.Output.{Output}
use Rattle.cmd_check.specs.declared.output.Output.TheVariants.{Print, Listings}

-- what it is compiled to: its listing, the line `trimmed`, and the listing of what is left
abbrev pub compiled_text : Declaration → List ℕ
compiled_text d = listing_text d d.paths ++ (codes "trimmed\n" ++ lean_text d (trees d))

-- its print, or what it is compiled to
abbrev pub output_text : Output → Declaration → List ℕ
output_text Print d = printed d
output_text Listings d = compiled_text d

-- how a command ends that writes this of a declaration, and nothing else
abbrev pub OutputEnd : (Declaration → List ℕ) → Declaration → Status → List ℕ → Type 0
OutputEnd output d = Writes Done (output d)

-- the same, of the declaration in a text
abbrev pub OutputEnds : (Declaration → List ℕ) → List ℕ → Status → List ℕ → Type 0
OutputEnds output text = UnderText text (OutputEnd output)
