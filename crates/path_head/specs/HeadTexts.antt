-- The text of a head, with which a file of a journal begins. Each line is given before the rest of the text, so that what is read is
-- spelled as what is written.
use Rattle.std.specs.Prelude.{◌≡◌, ◌<◌, ◌^◌, ℕ, List, [], ◌∷◌, ◌++◌, length, codes, decimal, Option, Some, None}
use Rattle.std.specs.List.{AllByRecursion}
use Rattle.hex.specs.Hex.{encode_lower, IsBytes}
use Rattle.sha2.specs.Sha256.{sha256}
use Rattle.path_model.specs.declared.journal.Activation.{Activation}
use Rattle.path_model.specs.Declarations.{Declaration}
use Rattle.path_model.specs.Rooms.{IsRoom}
use Rattle.path_lines.specs.LineTexts.{operation_text}
use Rattle.path_head.specs.declared.fact.Fact.{Fact}
use Rattle.path_head.specs.declared.fact.Fact.TheVariants.{Live, Stands, Contains}
use Rattle.path_head.specs.declared.fact.Stand.{Stand}
use Rattle.path_head.specs.declared.fact.Contained.{Contained}
use Rattle.path_head.specs.declared.hash.Sum.{Sum}
use Rattle.path_head.specs.declared.front.Counts.{Counts}
use Rattle.path_head.specs.declared.front.Front.{Front}

-- the room of the journal
abbrev pub room_before : ℕ → List ℕ → List ℕ
room_before room rest = codes "journal 4 room " ++ (decimal room ++ 10 ∷ rest)

-- the sum of the printed declaration, without its line feed
abbrev pub of_before : List ℕ → List ℕ → List ℕ
of_before print rest = codes "of " ++ (encode_lower (sha256 print) ++ 10 ∷ rest)

-- how many lines, starts, workers and files there were before
abbrev pub counts_before : Counts → List ℕ → List ℕ
counts_before c rest =
    codes "after " ++ (decimal c.lines ++ (codes " lines " ++ (decimal c.starts ++ (codes " starts "
    ++ (decimal c.highest ++ (codes " workers " ++ (decimal c.files ++ (codes " files\n" ++ rest))))))))

-- the sum of the file before; in the first there is none, and the printed declaration itself follows
abbrev pub link_rest : List ℕ → Option Sum → List ℕ → List ℕ
link_rest print None rest = codes "-\ndeclares " ++ (print ++ 10 ∷ rest)
link_rest print (Some sum) rest = encode_lower sum.0 ++ 10 ∷ rest

abbrev pub link_before : List ℕ → Option Sum → List ℕ → List ℕ
link_before print link rest = codes "link " ++ link_rest print link rest

-- all of these lines
abbrev pub front_before : List ℕ → Front → List ℕ → List ℕ
front_before print f rest =
    room_before f.room (of_before print (counts_before f.before (link_before print f.link rest)))

-- what is in progress, behind the word that its line begins with
abbrev pub live_rest : Declaration → Activation → List ℕ → List ℕ
live_rest d a rest = decimal a.act.0 ++ (codes " " ++ (decimal a.worker ++ (codes " " ++ (operation_text d a.op ++ 10 ∷ rest))))

-- what stands behind a `;`
abbrev pub stand_rest : Stand → List ℕ → List ℕ
stand_rest s rest =
    decimal s.number ++ (codes " at " ++ (decimal s.place ++ (codes " of path " ++ (decimal s.path.0 ++ (codes "\n" ++ rest)))))

-- what a device contains
abbrev pub contained_rest : Contained → List ℕ → List ℕ
contained_rest c rest = decimal c.resource.0 ++ (codes " " ++ (decimal c.number ++ (codes "\n" ++ rest)))

-- the line of a fact
abbrev pub fact_before : Declaration → Fact → List ℕ → List ℕ
fact_before d (Live a) rest = codes "live " ++ live_rest d a rest
fact_before d (Stands s) rest = codes "stands " ++ stand_rest s rest
fact_before d (Contains c) rest = codes "contains " ++ contained_rest c rest

-- the lines of all facts, in order
abbrev pub facts_before : Declaration → List Fact → List ℕ → List ℕ
facts_before d [] rest = rest
facts_before d (f ∷ fs) rest = fact_before d f (facts_before d fs rest)

-- all lines but the last
abbrev pub lines_before : Declaration → List ℕ → Front → List Fact → List ℕ → List ℕ
lines_before d print front facts rest = front_before print front (facts_before d facts rest)

-- the last line is the sum of those above it
abbrev pub sum_before : List ℕ → List ℕ → List ℕ
sum_before above rest = codes "sum " ++ (encode_lower (sha256 above) ++ 10 ∷ rest)

-- a whole head of a declaration with this printed text
abbrev pub head_before : Declaration → List ℕ → Front → List Fact → List ℕ → List ℕ
head_before d print front facts rest = lines_before d print front facts (sum_before (lines_before d print front facts []) rest)

-- a link is a sum of 32 bytes
abbrev pub LinkFits : Option Sum → Type 0
LinkFits None = Unit {0}
LinkFits (Some sum) = (length sum.0 ≡ 32) × IsBytes sum.0

-- numbers are in range
abbrev pub CountsFit : Counts → Type 0
CountsFit c = (c.lines < 2 ^ 64) × (c.starts < 2 ^ 64) × (c.highest < 2 ^ 32) × (c.files < 2 ^ 64)

-- there is a link exactly if there were files before
abbrev pub IsLinked : ℕ → Option Sum → Type 0
IsLinked files None = files ≡ 0
IsLinked files (Some sum) = 0 < files

pub record FrontFits (f : Front) : Type 0 where
  pub room : IsRoom f.room
  pub before : CountsFit f.before
  pub link : LinkFits f.link
  pub linked : IsLinked f.before.files f.link

-- what is in progress is of a declared operation, and numbers are in range
abbrev pub LiveFits : Declaration → Activation → Type 0
LiveFits d a = (a.act.0 < 2 ^ 64) × (a.worker < 2 ^ 32) × (a.op.0 < length d.operations)

abbrev pub StandFits : Stand → Type 0
StandFits s = (s.number < 2 ^ 64) × (s.place < 2 ^ 32) × (s.path.0 < 2 ^ 32)

abbrev pub ContainedFits : Contained → Type 0
ContainedFits c = (c.resource.0 < 2 ^ 32) × (c.number < 2 ^ 64)

abbrev pub FactFits : Declaration → Fact → Type 0
FactFits d (Live a) = LiveFits d a
FactFits d (Stands s) = StandFits s
FactFits d (Contains c) = ContainedFits c

abbrev pub FactsFit : Declaration → List Fact → Type 0
FactsFit d facts = AllByRecursion (FactFits d) facts
