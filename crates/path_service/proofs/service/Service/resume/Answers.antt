-- Why no service goes on.
use Rattle.std.proofs.Common.{◌≡◌, ◌∙◌, ap, sym, subst}
use Rattle.path_service.specs.Services.{IsUnserved}
use Rattle.path_service.specs.Taken.{IsResumeRefusal, StopsAt, fresh, room_in}
use Rattle.path_service.proofs.ReadFault.{read_fault}
use Rattle.path_service.proofs.Refusing.{unserved}
use Rattle.path_service.proofs.service.Service.resume.Goals as goal

pub returns-in-Err-clause-err : goal.returns-in-Err-clause-err
returns-in-Err-clause-err c =
    let told = c.in-Err.ensures in
    read_fault _ c.args.text.now c.in-Err.fault told.err told.too_long told.bad_byte told.first_bad told.word_too_long told.first_long_word told.number_too_long told.first_long_number

pub returns-in-Err-service_over-clause-err : goal.returns-in-Err-service_over-clause-err
returns-in-Err-service_over-clause-err c =
    subst (IsResumeRefusal c.args.text.now c.args.room c.args.keeps c.args.journal.now) (sym c.from.ensures)
    (unserved c.args.text.now c.args.room c.args.keeps c.args.journal.now c.in-Ok.decl.declaration c.in-Ok-read_cut.cut.version c.in-Ok-read_cut.cut.lines.items c.in-Ok-read_cut.cut.bytes c.in-Ok.ensures.ok
    c.in-Ok-read_cut.ensures.ok c.in-Err-service_over.fault (subst (λ r. IsUnserved r c.in-Err-service_over.fault) c.room_of.ensures c.in-Err-service_over.ensures.err))

pub returns-clause-err : goal.returns-clause-err
returns-clause-err c =
    let d = c.in-Ok.decl.declaration in
    let cut = c.in-Ok-read_cut.cut in
    let opened : c.in-Ok-service_over.service ≡ fresh d (room_in cut.version c.args.room) c.args.keeps =
    c.in-Ok-service_over.ensures.ok ∙ ap (λ r. fresh d r c.args.keeps) c.room_of.ensures in
    record {
      declaration = d;
      declared = c.in-Ok.ensures.ok;
      version = cut.version;
      lines = cut.lines.items;
      bytes = cut.bytes;
      cut = c.in-Ok-read_cut.ensures.ok;
      new = c.take_lines.new.self;
      stops = subst (λ s. StopsAt s cut.lines.items c.in-Err-take_lines.line c.in-Err-take_lines.owed c.take_lines.new.self) opened
          (subst (λ ls. StopsAt c.in-Ok-service_over.service ls c.in-Err-take_lines.line c.in-Err-take_lines.owed c.take_lines.new.self) c.deref.ensures.value c.in-Err-take_lines.ensures.stopped);
    }
