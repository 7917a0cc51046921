-- The machines agree: a path has the same values alone, among others, and in the one table of all paths.
use Rattle.std.proofs.Common.{◌≡◌, ℕ, List, [], ◌∷◌, refl, ◌∙◌, subst}
use Rattle.path_model.specs.declared.history.Event.{Event}
use Rattle.path_model.specs.Trees.{Tree}
use Rattle.path_model.specs.Projection.{projection}
use Rattle.path_model.specs.Legal.{Every}
use Rattle.path_model.specs.Machine.{opening, values_after}
use Rattle.path_model.specs.Flat.{Table, Sited, sited, flat_from, flat_opening, Shows}
use Rattle.path_model.specs.Agreement.{each_alone, TheMachinesAgree}
use Rattle.path_model.proofs.AmongOthers.{among}
use Rattle.path_model.proofs.AllPaths.{placed, after_placed, now}
use Rattle.path_model.proofs.Flat.{one_table_shows_all}

pub alone : (s : Tree) (h : List Event) → now h s ≡ values_after s (projection s h)
alone s h = among s (opening s) h

each_placed : (xs : List (ℕ × Tree)) (h : List Event) → placed (now h) xs ≡ each_alone xs h
each_placed [] h = refl
each_placed (x ∷ xs) h = λ i. (x.0, record { tree = x.1; values = alone x.1 h i }) ∷ each_placed xs h i

in_one_table : (v : Table) (h : List Event) (xs : List (ℕ × Sited)) → Every (λ x. Shows x v (now h x.tree)) xs → Every (λ x. Shows x v (values_after x.tree (projection x.tree h))) xs
in_one_table v h [] S = tt
in_one_table v h (x ∷ xs) S = (subst (Shows x.1 v) (alone x.1.tree h) S.0, in_one_table v h xs S.1)

pub the_machines_agree : TheMachinesAgree
the_machines_agree xs h = record {
  among = λ s. alone s h;
  all = after_placed xs h ∙ each_placed xs h;
  table = in_one_table (flat_from (sited 0 0 xs) (flat_opening (sited 0 0 xs)) h) h (sited 0 0 xs) (one_table_shows_all xs h);
}
