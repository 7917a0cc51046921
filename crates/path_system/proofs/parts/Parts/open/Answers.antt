-- There is one mark for each device, and none is set.
use Rattle.std.proofs.Common.{◌+◌, false, length, refl, ap, sym, ◌∙◌}
use Rattle.std.proofs.lemmas.List.{length-replicate}
use Rattle.path_ledger.specs.Ledgers.{Book}
use Rattle.path_system.proofs.Opened.{opened_count}
use Rattle.path_system.proofs.parts.Parts.open.Goals as goal

pub new-requires : goal.new-requires
new-requires g c =
    ap length c.in-Ok.ensures.unasked ∙ length-replicate (length c.args.decl.declaration.resources) false
    ∙ sym (opened_count _ c.args.decl.declaration c.requires) ∙ sym (ap length c.over.ensures)

pub returns-clause-ok : goal.returns-clause-ok
returns-clause-ok g c =
    let fresh = c.in-Ok.ensures in
    record {
      lawful = c.args.decl.lawful;
      declaration = refl;
      paths = fresh.paths;
      at = fresh.at;
      admitted = fresh.admitted;
      idle = ap (λ (b : Book). record { live = b.live; begun = b.first + b.begun }) fresh.idle;
      places = ap (λ (b : Book). b.room) fresh.idle;
      devices = c.new.ensures ∙ (λ i. record { states = c.over.ensures i; asked = fresh.unasked i });
    }
