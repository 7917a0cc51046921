-- What is read of a file is what was found in it, and its repair keeps that.
use Rattle.std.proofs.Common.{inl, inr, refl, ap, [], ◌++◌, ◌≤◌, length, take, sym, ◌∙◌, subst, arith}
use Rattle.std.proofs.lemmas.Result.{err_from_is_err_and}
use Rattle.std.proofs.lemmas.List.{append-nil, length-take-le}
use Rattle.std.proofs.lemmas.List.Elements.{All-nil}
use Rattle.path_journal.specs.declared.version.Version.TheVariants.{Three}
use Rattle.path_journal.specs.JournalTexts.{KeptFits}
use Rattle.path_journal.specs.CutTexts.{IsCutFault, IsNoCutJournal, front_of, IsCutJournal}
use Rattle.path_store.proofs.Repairs.{cut_taken, end_cut, fault_none, has_these, head_cut, head_short, head_written, image_none, not_too_long, only_journal, read_leaves, torn_head, whole_head}
use Rattle.path_store.proofs.recovery.recover.Goals as goal

pub returns-in_err-repair-clause-any_moment : goal.returns-in_err-repair-clause-any_moment
returns-in_err-repair-clause-any_moment g c = λ synced fresh file.
    let head = c.as_bytes.ensures.value ∙ c.in_ok-front.ensures in
    let same = c.deref.ensures.value ∙ c.in_ok-text.ensures.bytes file.text file.read in
    let torn = torn_head c.as_bytes.result.now c.deref.result.now (front_of (Three c.args.room)) file.text head same c.if-is_torn.ensures.yes in
    let held = c.read.ensures.holds file.text file.read in
    let counted = c.len.ensures in
    let bytes = ap length (c.in_ok-text.ensures.bytes file.text file.read) in
    let first = read_leaves g.D.Device.holds g.D.Device.may_leave c.args.decl.now.declaration c.args.room g.D.Device.moment g.D.Device.left_since g.met.D.Device.only_now c.args.device.now c.read.new.self synced fresh file c.read.ensures.crash c.read.ensures.time in
    let cut = head_cut g.D.Device.holds g.D.Device.may_leave c.args.decl.now.declaration c.args.room g.D.Device.moment g.D.Device.left_since g.met.D.Device.only_now c.args.device.now c.read.new.self c.repair.new.device synced fresh file c.read.ensures.crash torn.0 first (c.repair.ensures.any_moment file.text held (omega (arith, counted, bytes)) (omega arith)) in
    cut

pub returns-in_err-begin-clause-any_moment : goal.returns-in_err-begin-clause-any_moment
returns-in_err-begin-clause-any_moment g c = λ synced fresh file.
    let head = c.as_bytes.ensures.value ∙ c.in_ok-front.ensures in
    let same = c.deref.ensures.value ∙ c.in_ok-text.ensures.bytes file.text file.read in
    let torn = torn_head c.as_bytes.result.now c.deref.result.now (front_of (Three c.args.room)) file.text head same c.if-is_torn.ensures.yes in
    let held = c.read.ensures.holds file.text file.read in
    let counted = c.len.ensures in
    let bytes = ap length (c.in_ok-text.ensures.bytes file.text file.read) in
    let first = read_leaves g.D.Device.holds g.D.Device.may_leave c.args.decl.now.declaration c.args.room g.D.Device.moment g.D.Device.left_since g.met.D.Device.only_now c.args.device.now c.read.new.self synced fresh file c.read.ensures.crash c.read.ensures.time in
    let cut = head_cut g.D.Device.holds g.D.Device.may_leave c.args.decl.now.declaration c.args.room g.D.Device.moment g.D.Device.left_since g.met.D.Device.only_now c.args.device.now c.read.new.self c.repair.new.device synced fresh file c.read.ensures.crash torn.0 first (c.repair.ensures.any_moment file.text held (omega (arith, counted, bytes)) (omega arith)) in
    let none = image_none c.args.decl.now.declaration c.args.room file.text (synced ++ fresh) torn.0 file.found in
    let empty = c.in_ok-repair.ensures.holds file.text held (omega (arith, counted, bytes)) (omega arith) in
    let only = c.in_ok-repair.ensures.only file.text held (omega (arith, counted, bytes)) (omega arith) in
    head_written g.D.Device.holds g.D.Device.may_leave c.args.decl.now.declaration c.args.room g.D.Device.moment g.D.Device.left_since g.met.D.Device.only_now c.args.device.now c.repair.new.device c.begin.new.device synced fresh c.as_bytes-then-is_torn.result.now none (c.as_bytes-then-is_torn.ensures.value ∙ c.in_ok-front.ensures) cut (c.begin.ensures.any_moment empty only)

pub returns-then-is_torn-clause-any_moment : goal.returns-then-is_torn-clause-any_moment
returns-then-is_torn-clause-any_moment g c = λ synced fresh file.
    let head = c.as_bytes.ensures.value ∙ c.in_ok-front.ensures in
    let same = c.deref.ensures.value ∙ c.in_ok-text.ensures.bytes file.text file.read in
    let torn = torn_head c.as_bytes.result.now c.deref.result.now (front_of (Three c.args.room)) file.text head same c.if-is_torn.ensures.yes in
    let held = c.read.ensures.holds file.text file.read in
    let counted = c.len.ensures in
    let bytes = ap length (c.in_ok-text.ensures.bytes file.text file.read) in
    let first = read_leaves g.D.Device.holds g.D.Device.may_leave c.args.decl.now.declaration c.args.room g.D.Device.moment g.D.Device.left_since g.met.D.Device.only_now c.args.device.now c.read.new.self synced fresh file c.read.ensures.crash c.read.ensures.time in
    let cut = head_cut g.D.Device.holds g.D.Device.may_leave c.args.decl.now.declaration c.args.room g.D.Device.moment g.D.Device.left_since g.met.D.Device.only_now c.args.device.now c.read.new.self c.repair.new.device synced fresh file c.read.ensures.crash torn.0 first (c.repair.ensures.any_moment file.text held (omega (arith, counted, bytes)) (omega arith)) in
    let none = image_none c.args.decl.now.declaration c.args.room file.text (synced ++ fresh) torn.0 file.found in
    let empty = c.in_ok-repair.ensures.holds file.text held (omega (arith, counted, bytes)) (omega arith) in
    let only = c.in_ok-repair.ensures.only file.text held (omega (arith, counted, bytes)) (omega arith) in
    head_written g.D.Device.holds g.D.Device.may_leave c.args.decl.now.declaration c.args.room g.D.Device.moment g.D.Device.left_since g.met.D.Device.only_now c.args.device.now c.repair.new.device c.begin.new.device synced fresh c.as_bytes-then-is_torn.result.now none (c.as_bytes-then-is_torn.ensures.value ∙ c.in_ok-front.ensures) cut (c.begin.ensures.any_moment empty only)

pub returns-then-is_torn-clause-lines : goal.returns-then-is_torn-clause-lines
returns-then-is_torn-clause-lines g c = λ synced fresh file.
    let head = c.as_bytes.ensures.value ∙ c.in_ok-front.ensures in
    let same = c.deref.ensures.value ∙ c.in_ok-text.ensures.bytes file.text file.read in
    let torn = torn_head c.as_bytes.result.now c.deref.result.now (front_of (Three c.args.room)) file.text head same c.if-is_torn.ensures.yes in
    c.new.ensures.items ∙ sym (image_none c.args.decl.now.declaration c.args.room file.text (synced ++ fresh) torn.0 file.found)

pub returns-then-is_torn-clause-recovered : goal.returns-then-is_torn-clause-recovered
returns-then-is_torn-clause-recovered g c = λ synced fresh file.
    let head = c.as_bytes.ensures.value ∙ c.in_ok-front.ensures in
    let same = c.deref.ensures.value ∙ c.in_ok-text.ensures.bytes file.text file.read in
    let torn = torn_head c.as_bytes.result.now c.deref.result.now (front_of (Three c.args.room)) file.text head same c.if-is_torn.ensures.yes in
    let held = c.read.ensures.holds file.text file.read in
    let counted = c.len.ensures in
    let bytes = ap length (c.in_ok-text.ensures.bytes file.text file.read) in
    let first = read_leaves g.D.Device.holds g.D.Device.may_leave c.args.decl.now.declaration c.args.room g.D.Device.moment g.D.Device.left_since g.met.D.Device.only_now c.args.device.now c.read.new.self synced fresh file c.read.ensures.crash c.read.ensures.time in
    let cut = head_cut g.D.Device.holds g.D.Device.may_leave c.args.decl.now.declaration c.args.room g.D.Device.moment g.D.Device.left_since g.met.D.Device.only_now c.args.device.now c.read.new.self c.repair.new.device synced fresh file c.read.ensures.crash torn.0 first (c.repair.ensures.any_moment file.text held (omega (arith, counted, bytes)) (omega arith)) in
    let none = image_none c.args.decl.now.declaration c.args.room file.text (synced ++ fresh) torn.0 file.found in
    let empty = c.in_ok-repair.ensures.holds file.text held (omega (arith, counted, bytes)) (omega arith) in
    let only = c.in_ok-repair.ensures.only file.text held (omega (arith, counted, bytes)) (omega arith) in
    let written = c.as_bytes-then-is_torn.ensures.value ∙ c.in_ok-front.ensures in
    let size = c.len-then-is_torn.ensures in
    let long = c.as_bytes-then-is_torn.ensures.len in
    let short = head_short c.args.room c.requires in
    let all = ap length written in
    has_these g.D.Device.holds g.D.Device.may_leave c.args.decl.now.declaration c.args.room c.begin.new.device [] (synced ++ fresh) c.as_bytes-then-is_torn.result.now c.len-then-is_torn.result c.requires c.args.decl.now.lawful.operation_names (sym none) (All-nil (KeptFits _)) (written ∙ sym (append-nil (front_of (Three c.args.room)))) (omega (arith, size, long)) (omega (arith, size, long, all, short)) (c.in_ok-begin.ensures.holds empty) (c.in_ok-begin.ensures.only empty)

pub returns-then-is_torn-clause-found : goal.returns-then-is_torn-clause-found
returns-then-is_torn-clause-found g c = λ b held.
    let head = c.as_bytes.ensures.value ∙ c.in_ok-front.ensures in
    let same = c.deref.ensures.value ∙ c.in_ok-text.ensures.bytes b held in
    let torn = torn_head c.as_bytes.result.now c.deref.result.now (front_of (Three c.args.room)) b head same c.if-is_torn.ensures.yes in
    inl (torn.0, c.new.ensures.items)

pub returns-in_err-repair-clause-other : goal.returns-in_err-repair-clause-other
returns-in_err-repair-clause-other g c = λ b held none.
    let head = c.as_bytes.ensures.value ∙ c.in_ok-front.ensures in
    let same = c.deref.ensures.value ∙ c.in_ok-text.ensures.bytes b held in
    let torn = torn_head c.as_bytes.result.now c.deref.result.now (front_of (Three c.args.room)) b head same c.if-is_torn.ensures.yes in
    absurd (none [] (inl (torn.0, refl)))

pub returns-in_err-begin-clause-other : goal.returns-in_err-begin-clause-other
returns-in_err-begin-clause-other g c = λ b held none.
    let head = c.as_bytes.ensures.value ∙ c.in_ok-front.ensures in
    let same = c.deref.ensures.value ∙ c.in_ok-text.ensures.bytes b held in
    let torn = torn_head c.as_bytes.result.now c.deref.result.now (front_of (Three c.args.room)) b head same c.if-is_torn.ensures.yes in
    absurd (none [] (inl (torn.0, refl)))

pub returns-then-is_torn-clause-other : goal.returns-then-is_torn-clause-other
returns-then-is_torn-clause-other g c = λ b held none.
    let head = c.as_bytes.ensures.value ∙ c.in_ok-front.ensures in
    let same = c.deref.ensures.value ∙ c.in_ok-text.ensures.bytes b held in
    let torn = torn_head c.as_bytes.result.now c.deref.result.now (front_of (Three c.args.room)) b head same c.if-is_torn.ensures.yes in
    absurd (none [] (inl (torn.0, refl)))

pub returns-then-not-is_of_room-clause-any_moment : goal.returns-then-not-is_of_room-clause-any_moment
returns-then-not-is_of_room-clause-any_moment g c = λ synced fresh file.
    read_leaves g.D.Device.holds g.D.Device.may_leave c.args.decl.now.declaration c.args.room g.D.Device.moment g.D.Device.left_since g.met.D.Device.only_now c.args.device.now c.read.new.self synced fresh file c.read.ensures.crash c.read.ensures.time

pub returns-in_err-repair-2-clause-any_moment : goal.returns-in_err-repair-2-clause-any_moment
returns-in_err-repair-2-clause-any_moment g c = λ synced fresh file.
    let head = c.as_bytes.ensures.value ∙ c.in_ok-front.ensures in
    let same = c.deref.ensures.value ∙ c.in_ok-text.ensures.bytes file.text file.read in
    let again = c.deref-2.ensures.value ∙ c.in_ok-text.ensures.bytes file.text file.read in
    let whole = whole_head c.as_bytes.result.now c.deref.result.now (front_of (Three c.args.room)) file.text head same c.if-is_torn.ensures.no in
    let found = only_journal c.args.decl.now.declaration c.args.decl.now.lawful.operation_names c.args.room c.requires file.text (synced ++ fresh) whole file.found in
    let one = c.in_ok-journal.ensures.one (Three c.args.room) (synced ++ fresh) found.0 (subst (λ x. IsCutJournal c.args.decl.now.declaration x (Three c.args.room) (synced ++ fresh) found.0) (sym again) found.1) in
    let journal = subst (IsCutJournal c.args.decl.now.declaration file.text (Three c.args.room) (synced ++ fresh)) one.2 found.1 in
    let held = c.read.ensures.holds file.text file.read in
    let counted = journal.counted in
    let long = c.len-2.ensures in
    let bytes = ap length (c.in_ok-text.ensures.bytes file.text file.read) in
    end_cut g.D.Device.holds g.D.Device.may_leave c.args.decl.now.declaration c.args.room g.D.Device.moment g.D.Device.left_since g.met.D.Device.only_now c.args.device.now c.read.new.self c.repair-2.new.device synced fresh c.in_ok-journal.journal.bytes file c.read.ensures.crash journal found.2 (read_leaves g.D.Device.holds g.D.Device.may_leave c.args.decl.now.declaration c.args.room g.D.Device.moment g.D.Device.left_since g.met.D.Device.only_now c.args.device.now c.read.new.self synced fresh file c.read.ensures.crash c.read.ensures.time) (c.repair-2.ensures.any_moment file.text held (omega (arith, long, bytes)) (omega (arith, counted, long, bytes)))

pub returns-clause-any_moment : goal.returns-clause-any_moment
returns-clause-any_moment g c = λ synced fresh file.
    let head = c.as_bytes.ensures.value ∙ c.in_ok-front.ensures in
    let same = c.deref.ensures.value ∙ c.in_ok-text.ensures.bytes file.text file.read in
    let again = c.deref-2.ensures.value ∙ c.in_ok-text.ensures.bytes file.text file.read in
    let whole = whole_head c.as_bytes.result.now c.deref.result.now (front_of (Three c.args.room)) file.text head same c.if-is_torn.ensures.no in
    let found = only_journal c.args.decl.now.declaration c.args.decl.now.lawful.operation_names c.args.room c.requires file.text (synced ++ fresh) whole file.found in
    let one = c.in_ok-journal.ensures.one (Three c.args.room) (synced ++ fresh) found.0 (subst (λ x. IsCutJournal c.args.decl.now.declaration x (Three c.args.room) (synced ++ fresh) found.0) (sym again) found.1) in
    let journal = subst (IsCutJournal c.args.decl.now.declaration file.text (Three c.args.room) (synced ++ fresh)) one.2 found.1 in
    let held = c.read.ensures.holds file.text file.read in
    let counted = journal.counted in
    let long = c.len-2.ensures in
    let bytes = ap length (c.in_ok-text.ensures.bytes file.text file.read) in
    end_cut g.D.Device.holds g.D.Device.may_leave c.args.decl.now.declaration c.args.room g.D.Device.moment g.D.Device.left_since g.met.D.Device.only_now c.args.device.now c.read.new.self c.repair-2.new.device synced fresh c.in_ok-journal.journal.bytes file c.read.ensures.crash journal found.2 (read_leaves g.D.Device.holds g.D.Device.may_leave c.args.decl.now.declaration c.args.room g.D.Device.moment g.D.Device.left_since g.met.D.Device.only_now c.args.device.now c.read.new.self synced fresh file c.read.ensures.crash c.read.ensures.time) (c.repair-2.ensures.any_moment file.text held (omega (arith, long, bytes)) (omega (arith, counted, long, bytes)))

pub returns-clause-lines : goal.returns-clause-lines
returns-clause-lines g c = λ synced fresh file.
    let head = c.as_bytes.ensures.value ∙ c.in_ok-front.ensures in
    let same = c.deref.ensures.value ∙ c.in_ok-text.ensures.bytes file.text file.read in
    let again = c.deref-2.ensures.value ∙ c.in_ok-text.ensures.bytes file.text file.read in
    let whole = whole_head c.as_bytes.result.now c.deref.result.now (front_of (Three c.args.room)) file.text head same c.if-is_torn.ensures.no in
    let found = only_journal c.args.decl.now.declaration c.args.decl.now.lawful.operation_names c.args.room c.requires file.text (synced ++ fresh) whole file.found in
    let one = c.in_ok-journal.ensures.one (Three c.args.room) (synced ++ fresh) found.0 (subst (λ x. IsCutJournal c.args.decl.now.declaration x (Three c.args.room) (synced ++ fresh) found.0) (sym again) found.1) in
    let journal = subst (IsCutJournal c.args.decl.now.declaration file.text (Three c.args.room) (synced ++ fresh)) one.2 found.1 in
    let held = c.read.ensures.holds file.text file.read in
    let counted = journal.counted in
    let long = c.len-2.ensures in
    let bytes = ap length (c.in_ok-text.ensures.bytes file.text file.read) in
    sym one.1

pub returns-clause-recovered : goal.returns-clause-recovered
returns-clause-recovered g c = λ synced fresh file.
    let head = c.as_bytes.ensures.value ∙ c.in_ok-front.ensures in
    let same = c.deref.ensures.value ∙ c.in_ok-text.ensures.bytes file.text file.read in
    let again = c.deref-2.ensures.value ∙ c.in_ok-text.ensures.bytes file.text file.read in
    let whole = whole_head c.as_bytes.result.now c.deref.result.now (front_of (Three c.args.room)) file.text head same c.if-is_torn.ensures.no in
    let found = only_journal c.args.decl.now.declaration c.args.decl.now.lawful.operation_names c.args.room c.requires file.text (synced ++ fresh) whole file.found in
    let one = c.in_ok-journal.ensures.one (Three c.args.room) (synced ++ fresh) found.0 (subst (λ x. IsCutJournal c.args.decl.now.declaration x (Three c.args.room) (synced ++ fresh) found.0) (sym again) found.1) in
    let journal = subst (IsCutJournal c.args.decl.now.declaration file.text (Three c.args.room) (synced ++ fresh)) one.2 found.1 in
    let held = c.read.ensures.holds file.text file.read in
    let counted = journal.counted in
    let long = c.len-2.ensures in
    let bytes = ap length (c.in_ok-text.ensures.bytes file.text file.read) in
    let short = found.2 in
    has_these g.D.Device.holds g.D.Device.may_leave c.args.decl.now.declaration c.args.room c.repair-2.new.device journal.kept (synced ++ fresh) (take c.in_ok-journal.journal.bytes file.text) c.in_ok-journal.journal.bytes c.requires c.args.decl.now.lawful.operation_names journal.lines journal.cut.lines.fits (cut_taken c.args.decl.now.declaration file.text (Three c.args.room) (synced ++ fresh) c.in_ok-journal.journal.bytes journal)
    (sym (length-take-le c.in_ok-journal.journal.bytes file.text (omega (arith, counted)))) (omega (arith, counted, short)) (c.in_ok-repair-2.ensures.holds file.text held (omega (arith, long, bytes)) (omega (arith, counted, long, bytes))) (c.in_ok-repair-2.ensures.only file.text held (omega (arith, long, bytes)) (omega (arith, counted, long, bytes)))

pub returns-in_err-journal-clause-fault : goal.returns-in_err-journal-clause-fault
returns-in_err-journal-clause-fault g c = λ b held.
    let p = err_from_is_err_and c.from_residual-in_err-journal.result c.from_residual-in_err-journal.ensures.1 in
    let head = c.as_bytes.ensures.value ∙ c.in_ok-front.ensures in
    let same = c.deref.ensures.value ∙ c.in_ok-text.ensures.bytes b held in
    let again = c.deref-2.ensures.value ∙ c.in_ok-text.ensures.bytes b held in
    let whole = whole_head c.as_bytes.result.now c.deref.result.now (front_of (Three c.args.room)) b head same c.if-is_torn.ensures.no in
    let fault = subst (λ x. IsCutFault c.args.decl.now.declaration x c.in_err-journal.field-0.0) again c.in_err-journal.ensures.err in
    rw (p.1, p.2) (
      fault,
      fault_none c.args.decl.now.declaration c.args.decl.now.lawful.operation_names c.args.room c.requires b c.in_err-journal.field-0.0 whole fault (λ long memory. subst (IsNoCutJournal c.args.decl.now.declaration) again (c.in_err-journal.ensures.none long memory)),
    )

pub returns-then-not-is_of_room-clause-fault : goal.returns-then-not-is_of_room-clause-fault
returns-then-not-is_of_room-clause-fault g c = λ b held ls found.
    let head = c.as_bytes.ensures.value ∙ c.in_ok-front.ensures in
    let same = c.deref.ensures.value ∙ c.in_ok-text.ensures.bytes b held in
    let again = c.deref-2.ensures.value ∙ c.in_ok-text.ensures.bytes b held in
    let whole = whole_head c.as_bytes.result.now c.deref.result.now (front_of (Three c.args.room)) b head same c.if-is_torn.ensures.no in
    let p = only_journal c.args.decl.now.declaration c.args.decl.now.lawful.operation_names c.args.room c.requires b ls whole found in
    let one = c.in_ok-journal.ensures.one (Three c.args.room) ls p.0 (subst (λ x. IsCutJournal c.args.decl.now.declaration x (Three c.args.room) ls p.0) (sym again) p.1) in
    c.if-not-is_of_room.ensures.no (sym one.0)

pub returns-clause-found : goal.returns-clause-found
returns-clause-found g c = λ b held.
    let again = c.deref-2.ensures.value ∙ c.in_ok-text.ensures.bytes b held in
    let read = subst (λ x. IsCutJournal c.args.decl.now.declaration x c.in_ok-journal.journal.version c.in_ok-journal.journal.lines.items c.in_ok-journal.journal.bytes) again c.in_ok-journal.ensures.ok in
    let journal = subst (λ v. IsCutJournal c.args.decl.now.declaration b v c.in_ok-journal.journal.lines.items c.in_ok-journal.journal.bytes) c.if-not-is_of_room.ensures.yes read in
    let short = subst (λ x. length x ≤ 134217728) again (not_too_long c.read_cut.result c.deref-2.result.now _ c.in_ok-journal.was c.read_cut.ensures.too_long) in
    inr (c.in_ok-journal.journal.bytes, journal, short)

pub returns-in_err-repair-2-clause-other : goal.returns-in_err-repair-2-clause-other
returns-in_err-repair-2-clause-other g c = λ b held none.
    let again = c.deref-2.ensures.value ∙ c.in_ok-text.ensures.bytes b held in
    let read = subst (λ x. IsCutJournal c.args.decl.now.declaration x c.in_ok-journal.journal.version c.in_ok-journal.journal.lines.items c.in_ok-journal.journal.bytes) again c.in_ok-journal.ensures.ok in
    let journal = subst (λ v. IsCutJournal c.args.decl.now.declaration b v c.in_ok-journal.journal.lines.items c.in_ok-journal.journal.bytes) c.if-not-is_of_room.ensures.yes read in
    let short = subst (λ x. length x ≤ 134217728) again (not_too_long c.read_cut.result c.deref-2.result.now _ c.in_ok-journal.was c.read_cut.ensures.too_long) in
    absurd (none c.in_ok-journal.journal.lines.items (inr (c.in_ok-journal.journal.bytes, journal, short)))

pub returns-clause-other : goal.returns-clause-other
returns-clause-other g c = λ b held none.
    let again = c.deref-2.ensures.value ∙ c.in_ok-text.ensures.bytes b held in
    let read = subst (λ x. IsCutJournal c.args.decl.now.declaration x c.in_ok-journal.journal.version c.in_ok-journal.journal.lines.items c.in_ok-journal.journal.bytes) again c.in_ok-journal.ensures.ok in
    let journal = subst (λ v. IsCutJournal c.args.decl.now.declaration b v c.in_ok-journal.journal.lines.items c.in_ok-journal.journal.bytes) c.if-not-is_of_room.ensures.yes read in
    let short = subst (λ x. length x ≤ 134217728) again (not_too_long c.read_cut.result c.deref-2.result.now _ c.in_ok-journal.was c.read_cut.ensures.too_long) in
    absurd (none c.in_ok-journal.journal.lines.items (inr (c.in_ok-journal.journal.bytes, journal, short)))

pub returns-clause-cut : goal.returns-clause-cut
returns-clause-cut g c = λ b held.
    let again = c.deref-2.ensures.value ∙ c.in_ok-text.ensures.bytes b held in
    let read = subst (λ x. IsCutJournal c.args.decl.now.declaration x c.in_ok-journal.journal.version c.in_ok-journal.journal.lines.items c.in_ok-journal.journal.bytes) again c.in_ok-journal.ensures.ok in
    let journal = subst (λ v. IsCutJournal c.args.decl.now.declaration b v c.in_ok-journal.journal.lines.items c.in_ok-journal.journal.bytes) c.if-not-is_of_room.ensures.yes read in
    let counted = journal.counted in
    let long = c.len-3.ensures in
    let bytes = ap length (c.in_ok-text.ensures.bytes b held) in
    inr (c.in_ok-journal.journal.bytes, journal, omega (arith, counted, long, bytes))
