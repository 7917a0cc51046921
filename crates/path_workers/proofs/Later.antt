-- A step of a system is a later state of it.
use Rattle.std.proofs.Common.{◌≡◌, ◌≢◌, ℕ, ◌+◌, List, [], ◌++◌, length, length-append, refl, sym, ap, ◌∙◌}
use Rattle.std.proofs.lemmas.List.{append-nil, append_assoc}
use Rattle.path_model.specs.declared.journal.Attempt.{Attempt}
use Rattle.path_model.specs.declared.journal.Reply.{Reply}
use Rattle.path_model.specs.declared.journal.Reply.TheVariants.{Started, Blocked, UnknownOperation, Used, NotOffered, Empty, Full, Overflow, DeviceFailed, Finished, Stale, NotYours, NoRoom}
use Rattle.path_model.specs.declared.journal.Line.{Line}
use Rattle.path_model.specs.Journals.{with_line}
use Rattle.path_system.specs.Accounts.{Account}
use Rattle.path_workers.specs.Later.{IsLater}

-- a journal with one line more, or with none, has the lines that it had first
grown : (ls : List Line) (w : ℕ) (a : Attempt) (r : Reply) → (more : List Line) × (with_line ls w a r ≡ ls ++ more)
grown ls w a (Started n) = (_, refl)
grown ls w a (Blocked n) = (_, refl)
grown ls w a UnknownOperation = (_, refl)
grown ls w a (Used n) = (_, refl)
grown ls w a NotOffered = (_, refl)
grown ls w a Empty = (_, refl)
grown ls w a Full = (_, refl)
grown ls w a Overflow = (_, refl)
grown ls w a DeviceFailed = (_, refl)
grown ls w a Finished = (_, refl)
grown ls w a Stale = (_, refl)
grown ls w a NotYours = (_, refl)
grown ls w a NoRoom = ([], sym (append-nil ls))

pub later_then : (opened before after : Account) (w : ℕ) (a : Attempt) (r : Reply) → IsLater opened before
    → after ≡ record before { journal = with_line before.journal w a r; failures = after.failures } → IsLater opened after
later_then opened before after w a r so step =
    let more = grown before.journal w a r in
    record {
      declaration = ap (λ (x : Account). x.declaration) step ∙ so.declaration;
      room = ap (λ (x : Account). x.room) step ∙ so.room;
      openings = ap (λ (x : Account). x.openings) step ∙ so.openings;
      earlier = ap (λ (x : Account). x.earlier) step ∙ so.earlier;
      more = so.more ++ more.0;
      journal = ap (λ (x : Account). x.journal) step ∙ more.1 ∙ ap (λ (ls : List Line). ls ++ more.0) so.journal ∙ append_assoc opened.journal so.more more.0;
    }

-- a step that has room adds a line
pub one_more : (ls : List Line) (w : ℕ) (a : Attempt) (r : Reply) → r ≢ NoRoom → length (with_line ls w a r) ≡ length ls + 1
one_more ls w a (Started n) some = length-append ls _
one_more ls w a (Blocked n) some = length-append ls _
one_more ls w a UnknownOperation some = length-append ls _
one_more ls w a (Used n) some = length-append ls _
one_more ls w a NotOffered some = length-append ls _
one_more ls w a Empty some = length-append ls _
one_more ls w a Full some = length-append ls _
one_more ls w a Overflow some = length-append ls _
one_more ls w a DeviceFailed some = length-append ls _
one_more ls w a Finished some = length-append ls _
one_more ls w a Stale some = length-append ls _
one_more ls w a NotYours some = length-append ls _
one_more ls w a NoRoom some = absurd (some refl)
