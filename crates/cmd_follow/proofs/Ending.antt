-- How a follow ends, and what it wrote then.
use Rattle.std.proofs.Common.{◌≡◌, ◌≢◌, ℕ, Bool, false, List, [], ◌⊎◌, inl, inr, Option, refl, sym, ◌∙◌, subst, arith}
use Rattle.path_model.specs.declared.journal.Line.{Line}
use Rattle.path_model.specs.Declarations.{Declaration}
use Rattle.path_model.specs.Rooms.{IsBadRoom, IsRoom}
use Rattle.path_decl.specs.Text.{IsDeclarationText}
use Rattle.path_shelf.specs.Own.{own_state}
use Rattle.path_shelf.specs.States.{MayFail, State}
use Rattle.path_system.specs.declared.fault.OpenFault.{OpenFault}
use Rattle.path_system.specs.declared.fault.OpenFault.TheVariants as openings
use Rattle.path_system.specs.Accounts.{Account, account_of}
use Rattle.path_system.specs.Faults.{IsOpenFault}
use Rattle.tell_base.specs.declared.status.Status.{Status}
use Rattle.tell_base.specs.declared.status.Status.TheVariants as statuses
use Rattle.tell_base.specs.Statuses.{open_status}
use Rattle.tell_base.specs.Writes.{AppendsSome}
use Rattle.tell_base.specs.Own.{own_states}
use Rattle.tell_base.specs.Refusals.{IsUnopened, IsUndeclared}
use Rattle.tell_base.proofs.CallerLemmas.{unfailing}
use Rattle.cmd_follow.specs.declared.stop.Stop.{Stop}
use Rattle.cmd_follow.specs.declared.stop.Stop.TheVariants as stops
use Rattle.cmd_follow.specs.Follows.{AnswersFirst, Follows, GaveAll, GaveFirst, IsAnswer, IsFollowOf, WroteAll, WroteFirst, answers, at_end, refuses, replies, reports}
use Rattle.cmd_follow.specs.Inner.Taken.{Stopped, StoppedSent, StoppedTook, Through}
use Rattle.cmd_follow.specs.Stops.{IsEnding, UnlessWriting, stop_status}
use Rattle.cmd_follow.proofs.Passing.{through_sent, through_took}
use Rattle.cmd_follow.proofs.Written.{all_first, read_first, read_none, wrote_none}

-- how a stop is told
abbrev pub EndsStop : Status → Type 0
EndsStop statuses.StreamFailed = Unit {0}
EndsStop statuses.NoMemory = Unit {0}
EndsStop status = ⊥

ends : (stop : Stop) → EndsStop (stop_status stop)
ends stops.Quiet = tt
ends stops.Output = tt
ends stops.Unreadable = tt
ends stops.TooLong = tt
ends stops.Unkept = tt
ends stops.OutOfMemory = tt

pub ends_stop : (stop : Stop) (r s : Status) → (r ≡ stop_status stop) ⊎ (r ≡ statuses.StreamFailed) → r ≡ s → EndsStop s
ends_stop stop r s (inl e) is = subst EndsStop (sym e ∙ is) (ends stop)
ends_stop stop r s (inr e) is = subst EndsStop (sym e ∙ is) tt

ending : (s : Status) → EndsStop s → IsEnding s
ending statuses.StreamFailed h = tt
ending statuses.NoMemory h = tt
ending statuses.Done h = absurd h
ending statuses.DeclarationRefused h = absurd h
ending statuses.CommandRefused h = absurd h
ending statuses.TextRefused h = absurd h
ending statuses.Unsound h = absurd h

pub ending_stop : (stop : Stop) (r : Status) → (r ≡ stop_status stop) ⊎ (r ≡ statuses.StreamFailed) → IsEnding r
ending_stop stop r told = ending r (ends_stop stop r r told refl)

-- unless a stream failed, no write did
pub memory_stop : (stop : Stop) (P : Type 0) (r : Status) → UnlessWriting stop P → (r ≡ stop_status stop) ⊎ (r ≡ statuses.StreamFailed) → r ≢ statuses.StreamFailed → P
memory_stop stops.OutOfMemory P r p told not = p
memory_stop stops.Unreadable P r p told not = p
memory_stop stops.TooLong P r p told not = p
memory_stop stops.Unkept P r p told not = p
memory_stop stops.Quiet P r p (inl e) not = absurd (not e)
memory_stop stops.Quiet P r p (inr e) not = absurd (not e)
memory_stop stops.Output P r p (inl e) not = absurd (not e)
memory_stop stops.Output P r p (inr e) not = absurd (not e)

pub memory_not_failed : (r : Status) → r ≡ statuses.NoMemory → r ≢ statuses.StreamFailed
memory_not_failed r is failed = let no : statuses.NoMemory ≡ statuses.StreamFailed = sym is ∙ failed in cc

-- how a system is told that can't be opened
abbrev pub EndsOpen : Status → Type 0
EndsOpen statuses.CommandRefused = Unit {0}
EndsOpen statuses.StreamFailed = Unit {0}
EndsOpen statuses.NoMemory = Unit {0}
EndsOpen status = ⊥

opens : (f : OpenFault) → EndsOpen (open_status f)
opens openings.BadRoom = tt
opens openings.WrongCount = tt
opens (openings.WrongDevice r) = tt
opens openings.OutOfMemory = tt

pub ends_open : (f : OpenFault) (r s : Status) → (r ≡ open_status f) ⊎ (r ≡ statuses.StreamFailed) → r ≡ s → EndsOpen s
ends_open f r s (inl e) is = subst EndsOpen (sym e ∙ is) (opens f)
ends_open f r s (inr e) is = subst EndsOpen (sym e ∙ is) tt

pub unopened : (d : Declaration) (states : List State) (room : ℕ) (f : OpenFault) (r : Status) → IsOpenFault room states d f
    → (r ≡ open_status f) ⊎ (r ≡ statuses.StreamFailed) → r ≡ statuses.CommandRefused → IsUnopened d states room
unopened d states room f r is (inr e) refused = let no : statuses.StreamFailed ≡ statuses.CommandRefused = sym e ∙ refused in cc
unopened d states room openings.BadRoom r is (inl e) refused = (openings.BadRoom, (λ h. cc), is)
unopened d states room openings.WrongCount r is (inl e) refused = (openings.WrongCount, (λ h. cc), is)
unopened d states room (openings.WrongDevice x) r is (inl e) refused = (openings.WrongDevice x, (λ h. cc), is)
unopened d states room openings.OutOfMemory r is (inl e) refused = let no : statuses.NoMemory ≡ statuses.CommandRefused = sym e ∙ refused in cc

-- how a declaration is told that is refused
abbrev pub EndsUndeclared : List ℕ → Status → Type 0
EndsUndeclared text statuses.StreamFailed = Unit {0}
EndsUndeclared text status = IsUndeclared text status

ends_told : (text : List ℕ) (s : Status) → IsUndeclared text s → EndsUndeclared text s
ends_told text statuses.StreamFailed is = tt
ends_told text s is = is

pub ends_undeclared : (text : List ℕ) (told result s : Status) → IsUndeclared text told → (result ≡ told) ⊎ (result ≡ statuses.StreamFailed) → result ≡ s → EndsUndeclared text s
ends_undeclared text told result s undeclared (inl e) is = subst (EndsUndeclared text) (sym e ∙ is) (ends_told text told undeclared)
ends_undeclared text told result s undeclared (inr e) is = subst (EndsUndeclared text) (sym e ∙ is) tt

-- what holds behind the lines of a system holds behind those of an equal one
pub kept_from : (a b : Account) (P : List Line → Type 0) (Q : Type 0) → a ≡ b → (P a.journal → Q) → P b.journal → Q
kept_from a b P Q same to p = to (subst (λ (x : Account). P x.journal) (sym same) p)

module _ (may_fail : Type 0) (had wrote writes : Option (List ℕ)) where
  -- a follow that began with no line refused
  pub began : (a b : Account) (before after x : Bool) (end : List Line) → a ≡ b → before ≡ false → after ≡ x
      → GaveAll had (λ text. Through may_fail a text before after end wrote writes) → GaveAll had (λ text. Through may_fail b text false x end wrote writes)
  began a b before after x end same none is t =
      subst (λ s. GaveAll had (λ text. Through may_fail s text false x end wrote writes)) same
      (subst (λ s. GaveAll had (λ text. Through may_fail a text s x end wrote writes)) none
      (subst (λ s. GaveAll had (λ text. Through may_fail a text before s end wrote writes)) is t))

  -- one that stopped, and one that went on to the end
  module _ (a b : Account) (before : Bool) (same : a ≡ b) (none : before ≡ false) (P : Account → List Line → List Line → Type 0) where
    from_first : (stop : Stop) → GaveFirst had (λ text. Stopped may_fail a text before wrote writes stop (P a)) → GaveFirst had (λ text. Stopped may_fail b text false wrote writes stop (P b))
    from_first stop t =
        subst (λ s. GaveFirst had (λ text. Stopped may_fail s text false wrote writes stop (P s))) same
        (subst (λ s. GaveFirst had (λ text. Stopped may_fail a text s wrote writes stop (P a))) none t)

    pub stopped_sent : (stop : Stop) (r : Status) → (r ≡ stop_status stop) ⊎ (r ≡ statuses.StreamFailed) → r ≢ statuses.StreamFailed
        → GaveFirst had (λ text. Stopped may_fail a text before wrote writes stop (P a)) → GaveFirst had (λ text. StoppedSent may_fail b text wrote writes (P b))
    stopped_sent stop r told not t =
        let h = from_first stop t in
        (h.0, h.1, (h.2.0, h.2.1, h.2.2.taken, memory_stop stop _ r h.2.2.answered told not, h.2.3))

    pub stopped_took : (stop : Stop) → GaveFirst had (λ text. Stopped may_fail a text before wrote writes stop (P a)) → GaveFirst had (λ text. StoppedTook may_fail b text (P b))
    stopped_took stop t = let h = from_first stop t in (h.0, h.1, (h.2.0, h.2.1, h.2.2.taken, h.2.3))

    pub through_all_sent : (after : Bool) (end : List Line) → GaveAll had (λ text. Through may_fail a text before after end wrote writes) → P a end []
        → GaveFirst had (λ text. StoppedSent may_fail b text wrote writes (P b))
    through_all_sent after end t here =
        let h = subst (λ s. GaveAll had (λ text. Through may_fail s text false after end wrote writes)) same
        (subst (λ s. GaveAll had (λ text. Through may_fail a text s after end wrote writes)) none t) in
        (h.0, all_first had h.0 h.1, (end, [], through_took may_fail b h.0 false after end wrote writes h.2, through_sent may_fail b h.0 false after end wrote writes h.2, subst (λ s. P s end []) same here))

    pub through_all_took : (after : Bool) (end : List Line) → GaveAll had (λ text. Through may_fail a text before after end wrote writes) → P a end []
        → GaveFirst had (λ text. StoppedTook may_fail b text (P b))
    through_all_took after end t here =
        let h = through_all_sent after end t here in
        (h.0, h.1, (h.2.0, h.2.1, h.2.2, h.2.4))

  -- a follow by a system in which nothing was attempted
  pub follow_of : (d : Declaration) (states : List State) (room : ℕ) (system : Account) (refused : Bool) → system ≡ account_of d room states
      → (end : List Line) → GaveAll had (λ text. Through may_fail system text false refused end wrote writes)
      → GaveAll had (λ text. AppendsSome wrote writes (IsFollowOf d states may_fail room refused text))
  follow_of d states room system refused is end t =
      let h = subst (λ s. GaveAll had (λ text. Through may_fail s text false refused end wrote writes)) is t in
      (h.0, h.1, (h.2.0, (end, h.2.1), h.2.2))

  pub first_of : (d : Declaration) (states : List State) (room : ℕ) (system : Account) (P : List Line → List Line → Type 0) → system ≡ account_of d room states
      → GaveFirst had (λ text. StoppedSent may_fail system text wrote writes P)
      → GaveFirst had (λ text. AppendsSome wrote writes (AnswersFirst d states may_fail room text))
  first_of d states room system P is t =
      let h = subst (λ s. GaveFirst had (λ text. StoppedSent may_fail s text wrote writes P)) is t in
      let sent = h.2.3 in
      (h.0, h.1, (sent.0, (h.2.0, sent.1, sent.2), sent.3))

-- nothing was read or written
pub first_none : (may_fail : Type 0) (had wrote : Option (List ℕ)) (d : Declaration) (states : List State) (room : ℕ)
    → GaveFirst had (λ text. AppendsSome wrote wrote (AnswersFirst d states may_fail room text))
first_none may_fail had wrote d states room = ([], read_first had had [] (read_none had), ([], ([], false, at_end tt), wrote_none wrote))

-- what may follow from less may follow from more
answers_so : {d : Declaration} {room : ℕ} {openings : List (List ℕ)} {may might : Type 0} {ls now : List Line} {line bytes : List ℕ}
    → (may → might) → IsAnswer d room openings may ls line now bytes → IsAnswer d room openings might ls line now bytes
answers_so so (replies w a r is fits owed failed) = replies w a r is fits owed (λ e. so (failed e))
answers_so so (reports is told) = reports is told

pub follows_so : {d : Declaration} {room : ℕ} {openings : List (List ℕ)} {may might : Type 0} {whole : Bool} {ls end : List Line} {b e : Bool} {text bytes : List ℕ}
    → (may → might) → Follows d room openings may whole ls b text end e bytes → Follows d room openings might whole ls b text end e bytes
follows_so so (at_end h) = at_end h
follows_so so (answers is answer rest) = answers is (answers_so so answer) (follows_so so rest)
follows_so so (refuses is bad rest) = refuses is bad (follows_so so rest)

-- over the own devices
module _ {Y : Type 0} (declaration : List ℕ) (had wrote writes : Option (List ℕ)) (d : Declaration) (states : List State) (room : ℕ)
    (declares : IsDeclarationText declaration d) (own : states ≡ own_states d) where
  pub follow_under : (refused : Bool) → GaveAll had (λ text. AppendsSome wrote writes (IsFollowOf d states (MayFail (own_state {Y = Y})) room refused text))
      → WroteAll had wrote writes declaration room refused
  follow_under refused t =
      let h = subst (λ s. GaveAll had (λ text. AppendsSome wrote writes (IsFollowOf d s (MayFail (own_state {Y = Y})) room refused text))) own t in
      (h.0, h.1, (h.2.0, (d, declares, (h.2.1.0, follows_so (unfailing {Y = Y}) h.2.1.1)), h.2.2))

  pub first_under : GaveFirst had (λ text. AppendsSome wrote writes (AnswersFirst d states (MayFail (own_state {Y = Y})) room text))
      → WroteFirst had wrote writes declaration room
  first_under t =
      let h = subst (λ s. GaveFirst had (λ text. AppendsSome wrote writes (AnswersFirst d s (MayFail (own_state {Y = Y})) room text))) own t in
      inr (h.0, h.1, (h.2.0, (d, declares, (h.2.1.0, h.2.1.1, follows_so (unfailing {Y = Y}) h.2.1.2)), h.2.2))

pub no_good_room : (room : ℕ) → IsRoom room → IsBadRoom room → ⊥
no_good_room room good (inl none) = let low = good.0 in omega (arith, low, none)
no_good_room room good (inr much) = let high = good.1 in omega (arith, high, much)

pub never_both : (f : OpenFault) (r : Status) → (r ≡ open_status f) ⊎ (r ≡ statuses.StreamFailed) → (r ≡ statuses.Done) ⊎ (r ≡ statuses.TextRefused) → ⊥
never_both f r told (inl e) = ends_open f r statuses.Done told e
never_both f r told (inr e) = ends_open f r statuses.TextRefused told e
