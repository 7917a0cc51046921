-- The texts of attempts, replies and the lines of a journal. Each value has one text.
use Rattle.std.specs.Prelude.{ℕ, ◌<◌, ◌^◌, List, [], ◌∷◌, ◌++◌, map, codes, decimal, slice_get, Option, Some, None}
use Rattle.path_model.specs.declared.ids.OpId.{OpId}
use Rattle.path_model.specs.declared.journal.Verb.{Verb}
use Rattle.path_model.specs.declared.journal.Verb.TheVariants.{Put, Take, Look, Add}
use Rattle.path_model.specs.declared.journal.Attempt.{Attempt}
use Rattle.path_model.specs.declared.journal.Attempt.TheVariants.{Start, Apply, Finish}
use Rattle.path_model.specs.declared.journal.Reply.{Reply}
use Rattle.path_model.specs.declared.journal.Reply.TheVariants.{Started, Blocked, UnknownOperation, Used, NotOffered, Empty, Full}
use Rattle.path_model.specs.declared.journal.Reply.TheVariants.{Overflow, DeviceFailed, Finished, Stale, NotYours, NoRoom}
use Rattle.path_model.specs.declared.journal.Line.{Line}
use Rattle.path_model.specs.Declarations.{Declaration}

-- a verb
abbrev pub verb_text : Verb → List ℕ
verb_text (Put x) = codes "put " ++ decimal x
verb_text Take = codes "take"
verb_text Look = codes "look"
verb_text (Add x) = codes "add " ++ decimal x

-- the names of all operations, in order
abbrev pub operation_names : Declaration → List (List ℕ)
operation_names d = map (λ o. o.name) d.operations

-- a name, or `#` and a number if there is none
abbrev pub name_or_number : Option (List ℕ) → ℕ → List ℕ
name_or_number (Some name) n = name
name_or_number None n = 35 ∷ decimal n

-- a declared operation by its name, any other by its number
abbrev pub operation_text : Declaration → OpId → List ℕ
operation_text d a = name_or_number (slice_get (operation_names d) a.0) a.0

-- the activation and the verb of a use
abbrev pub use_text : ℕ → Verb → List ℕ
use_text n verb = decimal n ++ (32 ∷ verb_text verb)

-- an attempt without its worker
abbrev pub attempt_text : Declaration → Attempt → List ℕ
attempt_text d (Start a) = codes "start " ++ operation_text d a
attempt_text d (Apply n verb) = codes "use " ++ use_text n.0 verb
attempt_text d (Finish n) = codes "finish " ++ decimal n.0

-- the worker and the attempt
abbrev pub line_text : Declaration → ℕ → Attempt → List ℕ
line_text d w a = decimal w ++ (32 ∷ attempt_text d a)

-- the words of a reply
abbrev pub reply_words : Reply → List ℕ
reply_words (Started n) = codes "started"
reply_words (Blocked p) = codes "blocked"
reply_words UnknownOperation = codes "unknown operation"
reply_words (Used x) = codes "used"
reply_words NotOffered = codes "not offered"
reply_words Empty = codes "empty"
reply_words Full = codes "full"
reply_words Overflow = codes "overflow"
reply_words DeviceFailed = codes "device failed"
reply_words Finished = codes "finished"
reply_words Stale = codes "stale"
reply_words NotYours = codes "not yours"
reply_words NoRoom = codes "no room"

-- the number of a reply: of the activation, of the path, or what the device answers
abbrev pub reply_number : Reply → Option ℕ
reply_number (Started n) = Some n.0
reply_number (Blocked p) = Some p.0
reply_number (Used x) = Some x
reply_number r = None

-- a number behind a space, if there is one
abbrev pub spaced : Option ℕ → List ℕ
spaced None = []
spaced (Some n) = 32 ∷ decimal n

-- a reply
abbrev pub reply_text : Reply → List ℕ
reply_text r = reply_words r ++ spaced (reply_number r)

-- a line of a journal: the attempt, a colon, a space, the reply
abbrev pub journal_line_text : Declaration → Line → List ℕ
journal_line_text d l = line_text d l.worker l.attempt ++ (codes ": " ++ reply_text l.reply)

-- a number of a verb has at most 64 bits
abbrev pub VerbFits : Verb → Type 0
VerbFits (Put x) = x < 2 ^ 64
VerbFits Take = Unit {0}
VerbFits Look = Unit {0}
VerbFits (Add x) = x < 2 ^ 64

-- the number of an operation has at most 32 bits, any other at most 64
abbrev pub AttemptFits : Attempt → Type 0
AttemptFits (Start a) = a.0 < 2 ^ 32
AttemptFits (Apply n verb) = (n.0 < 2 ^ 64) × VerbFits verb
AttemptFits (Finish n) = n.0 < 2 ^ 64
