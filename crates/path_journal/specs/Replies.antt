-- Kinds of replies: of one kind are those that differ by their number alone.
use Rattle.std.specs.Prelude.{◌≢◌, ℕ, List, ◌++◌}
use Rattle.path_model.specs.declared.journal.Reply.{Reply}
use Rattle.path_model.specs.declared.journal.Reply.TheVariants.{Started, Blocked, Used}
use Rattle.path_fields.specs.Splits.{EndsAt}
use Rattle.path_lines.specs.LineTexts.{reply_text}
use Rattle.path_journal.specs.JournalTexts.{ReplyFits}

-- the reply of this kind with this number, if it has one
abbrev pub with_number : Reply → ℕ → Reply
with_number (Started m) n = Started (record { 0 = n })
with_number (Blocked p) n = Blocked (record { 0 = n })
with_number (Used x) n = Used n
with_number r n = r

-- a text begins with no reply of this kind that ends the line
abbrev pub IsNone : Reply → List ℕ → Type 0
IsNone kind text =
    (n : ℕ) (rest : List ℕ) → ReplyFits (with_number kind n) → EndsAt 10 rest → text ≢ reply_text (with_number kind n) ++ rest
