-- The tests of bounds tell whether they are kept.
use Rattle.path_standings.specs.Told.{progress_of}
use Rattle.path_standings.proofs.Few.{few_names_at}
use Rattle.path_standings.proofs.Fits.{fits_iff}
use Rattle.path_standings.proofs.misfit.walk_path.Goals as goal

pub walk-requires-clause-names : goal.walk-requires-clause-names
walk-requires-clause-names g c = rw c.tree_numbered-tree.ensures (few_names_at c.args.decl.now.declaration c.args.decl.now.lawful c.args.number c.requires.declared)

pub returns-clause-fits : goal.returns-clause-fits
returns-clause-fits g c = rw (← c.tree_numbered-tree.ensures) (fits_iff (progress_of c.args.in_progress.now) c.args.row.now _ 0 _ c.walk.ensures.fits)
