-- Lines are taken one after the other, and blocks of them.
use Rattle.std.proofs.Common.{◌≡◌, ◌≢◌, ◌==◌, ℕ, Bool, true, false, List, [], ◌∷◌, ◌++◌, length, arith, inl, inr, Option, refl, sym, ap, ◌∙◌, subst, append_assoc}
use Rattle.std.proofs.lemmas.Grind.{common_steps}
use Rattle.std.proofs.lemmas.List.{append-nil, nil_from_length}
use Rattle.std.specs.Io.KnownBytes.{Keeps}
use Rattle.path_model.specs.declared.journal.Line.{Line}
use Rattle.path_model.specs.Declarations.{Declaration}
use Rattle.path_fields.specs.Splits.{HasNone}
use Rattle.path_fields.proofs.CallerLemmas.{none_joined}
use Rattle.path_system.specs.Accounts.{Account}
use Rattle.cmd_follow.specs.Follows.{IsLine, Follows, at_end, answers, refuses}
use Rattle.cmd_follow.specs.declared.stop.Stop.{Stop}
use Rattle.cmd_follow.specs.Inner.Taken.{GoesOn, TakesBy, Takes, Passes, Took, TookLine, Sent, Stopped, StoppedLine, Through}
use Rattle.cmd_follow.proofs.Stopping.{unless, unless_so}
use Rattle.cmd_follow.proofs.Written.{joins, wrote_none, kept_wrote, wrote_same}

-- whether a vector of so many items is empty
pub none_left : (xs : List ℕ) (n : ℕ) (is : Bool) → n ≡ length xs → is ≡ (n == 0) → is ≡ true → xs ≡ []
none_left xs n is len so holds = nil_from_length xs (grind (arith, common_steps))

pub some_left : (xs : List ℕ) (n : ℕ) (is : Bool) → n ≡ length xs → is ≡ (n == 0) → is ≡ false → xs ≢ []
some_left xs n is len so fails = λ e. let k : length xs ≡ 0 = ap length e in grind (arith, common_steps)

pub goes_same : (old new : Account) → new ≡ old → GoesOn old new
goes_same old new e = subst (λ x. x ≡ record old { journal = x.journal; failures = x.failures }) (sym e) refl

pub goes_more : (start now next : Account) → GoesOn start now → GoesOn now next → GoesOn start next
goes_more start now next h k = k ∙ ap (λ (x : Account). record x { journal = next.journal; failures = next.failures }) h

pub goes_whole : (start now : Account) → GoesOn start now → start.earlier ≡ [] → now.earlier ≡ []
goes_whole start now h e = ap (λ (x : Account). x.earlier) h ∙ e

pub goes_taken : (may_fail : Type 0) (old new : Account) (line : List ℕ) (before after : Bool) (bytes : List ℕ)
    → TakesBy may_fail old new line before after bytes → GoesOn old new
goes_taken may_fail old new line before after bytes (inl h) = h.0.0
goes_taken may_fail old new line before after bytes (inr h) = goes_same old new h.0

-- a line that was pending at first stands so in what is left
pub pending_line : (pending rest line joined given after : List ℕ) → given ≡ joined → joined ≡ pending ++ line → rest ≡ line ++ 10 ∷ after
    → HasNone 10 pending → HasNone 10 line → IsLine given (pending ++ rest) after
pending_line pending rest line joined given after same is cuts clean one =
    let whole : given ≡ pending ++ line = same ∙ is in (
      subst (λ x. HasNone 10 x) (sym whole) (none_joined 10 pending line clean one),
      inl (ap (λ x. pending ++ x) cuts ∙ sym (append_assoc pending line (10 ∷ after)) ∙ ap (λ x. x ++ 10 ∷ after) (sym whole)),
    )

module _ (may_fail : Type 0) where
  -- a follow of a text by an account
  abbrev Follow : Account → Bool → List Line → Bool → List ℕ → List Line → Bool → List ℕ → Type 0
  Follow a whole = Follows a.declaration a.room a.openings may_fail whole

  -- a follow goes on behind a line
  step : (old new : Account) (line bytes : List ℕ) (before after : Bool) → TakesBy may_fail old new line before after bytes
      → (whole : Bool) (text rest : List ℕ) → IsLine line text rest → (end : List Line) (e : Bool) (more : List ℕ)
      → Follow old whole new.journal after rest end e more → Follow old whole old.journal before text end e (bytes ++ more)
  step old new line bytes before after (inl (h, same)) whole text rest is end e more t =
      answers is h.1 (subst (λ b. Follow old whole new.journal b rest end e more) same t)
  step old new line bytes before after (inr (same, refused, one, none)) whole text rest is end e more t =
      let here : Follow old whole old.journal after rest end e more = subst (λ (x : Account). Follow old whole x.journal after rest end e more) same t in
      let bad : Follow old whole old.journal true rest end e more = subst (λ b. Follow old whole old.journal b rest end e more) one here in
      subst (λ x. Follow old whole old.journal before text end e (x ++ more)) (sym none) (refuses is refused bad)

  -- the same, by the account that a follow began with
  step_from : (start old new : Account) (line bytes : List ℕ) (before after : Bool) → GoesOn start old
      → TakesBy may_fail old new line before after bytes
      → (whole : Bool) (text rest : List ℕ) → IsLine line text rest → (end : List Line) (e : Bool) (more : List ℕ)
      → Follow start whole new.journal after rest end e more → Follow start whole old.journal before text end e (bytes ++ more)
  step_from start old new line bytes before after goes takes whole text rest is end e more =
      let P : Account → Type 0 = λ a. Follow a whole new.journal after rest end e more → Follow a whole old.journal before text end e (bytes ++ more) in
      subst P goes (step old new line bytes before after takes whole text rest is end e more)

  pub passes_none : (start : Account) (text : List ℕ) (before : Bool) (wrote : Option (List ℕ))
      → Passes may_fail start start text text before before wrote wrote
  passes_none start text before wrote = record {
    done = [];
    bytes = [];
    parts = refl;
    goes_on = refl;
    appends = wrote_none wrote;
    forth = λ whole rest end e more t. t;
  }

  -- one line more was taken
  pub passes_line : (start now next : Account) (text left line behind : List ℕ) (before mid after : Bool) (wrote writing writes : Option (List ℕ))
      → HasNone 10 line → left ≡ line ++ 10 ∷ behind → Takes may_fail now next line mid after writing writes
      → Passes may_fail start now text left before mid wrote writing → Passes may_fail start next text behind before after wrote writes
  passes_line start now next text left line behind before mid after wrote writing writes none is takes p = record {
    done = p.done ++ (line ++ 10 ∷ []);
    bytes = p.bytes ++ takes.0;
    parts = p.parts ∙ ap (λ x. p.done ++ x) is ∙ sym (regroup behind);
    goes_on = goes_more start now next p.goes_on (goes_taken may_fail now next line mid after takes.0 takes.1);
    appends = joins wrote writing writes p.bytes takes.0 p.appends takes.2;
    forth = λ whole rest end e more t.
        let one : Follow start whole now.journal mid (line ++ 10 ∷ rest) end e (takes.0 ++ more) =
        step_from start now next line takes.0 mid after p.goes_on takes.1 whole (line ++ 10 ∷ rest) rest (none, inl refl) end e more t in
        let all : Follow start whole start.journal before (p.done ++ (line ++ 10 ∷ rest)) end e (p.bytes ++ (takes.0 ++ more)) =
        p.forth whole (line ++ 10 ∷ rest) end e (takes.0 ++ more) one in
        subst (λ x. Follow start whole start.journal before ((p.done ++ (line ++ 10 ∷ [])) ++ rest) end e x) (sym (append_assoc p.bytes takes.0 more))
        (subst (λ x. Follow start whole start.journal before x end e (p.bytes ++ (takes.0 ++ more))) (sym (regroup rest)) all);
  }
    where
      regroup : (x : List ℕ) → (p.done ++ (line ++ 10 ∷ [])) ++ x ≡ p.done ++ (line ++ 10 ∷ x)
      regroup x = simp append_assoc

  -- the lines of one block more were taken
  pub passes_block : (start now next : Account) (text left block behind : List ℕ) (before mid after : Bool) (wrote writing writes : Option (List ℕ))
      → Passes may_fail start now text left before mid wrote writing → Passes may_fail now next (left ++ block) behind mid after writing writes
      → Passes may_fail start next (text ++ block) behind before after wrote writes
  passes_block start now next text left block behind before mid after wrote writing writes p q = record {
    done = p.done ++ q.done;
    bytes = p.bytes ++ q.bytes;
    parts = ap (λ x. x ++ block) p.parts ∙ append_assoc p.done left block ∙ ap (λ x. p.done ++ x) q.parts ∙ sym (append_assoc p.done q.done behind);
    goes_on = goes_more start now next p.goes_on q.goes_on;
    appends = joins wrote writing writes p.bytes q.bytes p.appends q.appends;
    forth = λ whole rest end e more t.
        let P : Account → Type 0 = λ a. Follow a whole next.journal after rest end e more → Follow a whole now.journal mid (q.done ++ rest) end e (q.bytes ++ more) in
        let second : Follow start whole now.journal mid (q.done ++ rest) end e (q.bytes ++ more) = subst P p.goes_on (q.forth whole rest end e more) t in
        let all : Follow start whole start.journal before (p.done ++ (q.done ++ rest)) end e (p.bytes ++ (q.bytes ++ more)) =
        p.forth whole (q.done ++ rest) end e (q.bytes ++ more) second in
        subst (λ x. Follow start whole start.journal before ((p.done ++ q.done) ++ rest) end e x) (sym (append_assoc p.bytes q.bytes more))
        (subst (λ x. Follow start whole start.journal before x end e (p.bytes ++ (q.bytes ++ more))) (sym (append_assoc p.done q.done rest)) all);
  }

  -- behind the lines that were taken
  sent_here : (start now : Account) (text left : List ℕ) (before mid : Bool) (wrote writes : Option (List ℕ))
      → Passes may_fail start now text left before mid wrote writes → Sent may_fail start text before now.journal wrote writes
  sent_here start now text left before mid wrote writes p = (
    p.bytes ++ [],
    mid,
    subst (λ x. Follow start false start.journal before x now.journal mid (p.bytes ++ [])) (sym p.parts) (p.forth false left now.journal mid [] (at_end tt)),
    wrote_same wrote writes p.bytes (p.bytes ++ []) (sym (append-nil p.bytes)) p.appends,
  )

  -- a follow of the text that is left is one of the text
  follow_rest : (start now : Account) (text left : List ℕ) (before mid : Bool) (wrote writes : Option (List ℕ)) (ls : List Line) (e : Bool) (bytes : List ℕ)
      → (p : Passes may_fail start now text left before mid wrote writes) → Follow now false now.journal mid left ls e bytes
      → Follow start false start.journal before text ls e (p.bytes ++ bytes)
  follow_rest start now text left before mid wrote writes ls e bytes p f =
      let P : Account → Type 0 = λ a. Follow a false now.journal mid left ls e bytes in
      subst (λ x. Follow start false start.journal before x ls e (p.bytes ++ bytes)) (sym p.parts) (p.forth false left ls e bytes (subst P p.goes_on f))

  took_rest : (start now : Account) (text left : List ℕ) (before mid : Bool) (wrote writes : Option (List ℕ)) (ls : List Line)
      → Passes may_fail start now text left before mid wrote writes → Took may_fail now left mid ls → Took may_fail start text before ls
  took_rest start now text left before mid wrote writes ls p took =
      (p.bytes ++ took.0, took.1, follow_rest start now text left before mid wrote writes ls took.1 took.0 p took.2)

  sent_rest : (start now : Account) (text left : List ℕ) (before mid : Bool) (wrote writing writes : Option (List ℕ)) (end : List Line)
      → Passes may_fail start now text left before mid wrote writing → Sent may_fail now left mid end writing writes → Sent may_fail start text before end wrote writes
  sent_rest start now text left before mid wrote writing writes end p sent =
      (p.bytes ++ sent.0, sent.1, follow_rest start now text left before mid wrote writing end sent.1 sent.0 p sent.2, joins wrote writing writes p.bytes sent.0 p.appends sent.3)

  -- a line is taken, which stands in a text so
  took_line : (old : Account) (line text rest : List ℕ) (before : Bool) (ls : List Line) → IsLine line text rest → TookLine may_fail old line before ls
      → Took may_fail old text before ls
  took_line old line text rest before ls is (inl same) = ([], before, subst (λ x. Follow old false old.journal before text x before []) (sym same) (at_end tt))
  took_line old line text rest before ls is (inr (next, after, bytes, takes, same)) = (
    bytes ++ [],
    after,
    subst (λ x. Follow old false old.journal before text x after (bytes ++ [])) (sym same)
        (step old next line bytes before after takes false text rest is next.journal after [] (at_end tt)),
  )

  -- nothing more was written
  sent_none : (old : Account) (text : List ℕ) (before : Bool) (wrote writes : Option (List ℕ)) (end : List Line) → end ≡ old.journal → Keeps wrote writes
      → Sent may_fail old text before end wrote writes
  sent_none old text before wrote writes end same k = (
    [],
    before,
    subst (λ x. Follow old false old.journal before text x before []) (sym same) (at_end tt),
    kept_wrote wrote wrote writes [] (wrote_none wrote) k,
  )

  -- it stopped behind the lines that were taken
  pub stops_here : (start now : Account) (text left : List ℕ) (before mid : Bool) (wrote writes : Option (List ℕ)) (P : List Line → List Line → Type 0)
      → Passes may_fail start now text left before mid wrote writes → P now.journal [] → (stop : Stop) → Stopped may_fail start text before wrote writes stop P
  stops_here start now text left before mid wrote writes P p here stop = (
    now.journal,
    [],
    record {
      taken = took_rest start now text left before mid wrote writes (now.journal ++ []) p ([], mid, subst (λ x. Follow now false now.journal mid left x mid []) (sym (append-nil now.journal)) (at_end tt));
      answered = unless stop _ (sent_here start now text left before mid wrote writes p);
    },
    here,
  )

  -- it stopped in a line, which stands in a text so
  pub stops_line : (old : Account) (line text rest : List ℕ) (before : Bool) (wrote writes : Option (List ℕ)) (stop : Stop) (P : List Line → List Line → Type 0)
      → IsLine line text rest → StoppedLine may_fail old line before wrote writes stop P → Stopped may_fail old text before wrote writes stop P
  stops_line old line text rest before wrote writes stop P is (end, more, took, same, p) = (
    end,
    more,
    record {
      taken = took_line old line text rest before (end ++ more) is took;
      answered = unless_so _ _ stop (λ q. sent_none old text before wrote writes end q.0 q.1) same;
    },
    p,
  )

  -- it stopped in what was left
  pub stops_rest : (start now : Account) (text left : List ℕ) (before mid : Bool) (wrote writing writes : Option (List ℕ)) (stop : Stop) (P Q : List Line → List Line → Type 0)
      → Passes may_fail start now text left before mid wrote writing → ((end more : List Line) → Q end more → P end more)
      → Stopped may_fail now left mid writing writes stop Q → Stopped may_fail start text before wrote writes stop P
  stops_rest start now text left before mid wrote writing writes stop P Q p to (end, more, stops, q) = (
    end,
    more,
    record {
      taken = took_rest start now text left before mid wrote writing (end ++ more) p stops.taken;
      answered = unless_so _ _ stop (sent_rest start now text left before mid wrote writing writes end p) stops.answered;
    },
    to end more q,
  )

  -- a block more was read
  pub passes_more : (start now : Account) (text left block : List ℕ) (before mid : Bool) (wrote writes : Option (List ℕ))
      → Passes may_fail start now text left before mid wrote writes → Passes may_fail start now (text ++ block) (left ++ block) before mid wrote writes
  passes_more start now text left block before mid wrote writes p = record {
    done = p.done;
    bytes = p.bytes;
    parts = ap (λ x. x ++ block) p.parts ∙ append_assoc p.done left block;
    goes_on = p.goes_on;
    appends = p.appends;
    forth = p.forth;
  }

  -- what was left was gone through
  pub through_rest : (start now : Account) (text left : List ℕ) (before mid after : Bool) (end : List Line) (wrote writing writes : Option (List ℕ))
      → Passes may_fail start now text left before mid wrote writing → Through may_fail now left mid after end writing writes
      → Through may_fail start text before after end wrote writes
  through_rest start now text left before mid after end wrote writing writes p s =
      let P : Account → Type 0 = λ a. Follow a true now.journal mid left end after s.0 in
      let all : Follow start true start.journal before (p.done ++ left) end after (p.bytes ++ s.0) =
      p.forth true left end after s.0 (subst P p.goes_on s.1) in (
        p.bytes ++ s.0,
        subst (λ x. Follow start true start.journal before x end after (p.bytes ++ s.0)) (sym p.parts) all,
        joins wrote writing writes p.bytes s.0 p.appends s.2,
      )

  -- what was gone through was taken, and answered
  front : {d : Declaration} {room : ℕ} {openings : List (List ℕ)} {ls end : List Line} {b e : Bool} {text bytes : List ℕ}
      → Follows d room openings may_fail true ls b text end e bytes → Follows d room openings may_fail false ls b text end e bytes
  front (at_end h) = at_end tt
  front (answers is answer rest) = answers is answer (front rest)
  front (refuses is bad rest) = refuses is bad (front rest)

  pub through_sent : (start : Account) (text : List ℕ) (before after : Bool) (end : List Line) (wrote writes : Option (List ℕ))
      → Through may_fail start text before after end wrote writes → Sent may_fail start text before end wrote writes
  through_sent start text before after end wrote writes t = (t.0, after, front t.1, t.2)

  pub through_took : (start : Account) (text : List ℕ) (before after : Bool) (end : List Line) (wrote writes : Option (List ℕ))
      → Through may_fail start text before after end wrote writes → Took may_fail start text before (end ++ [])
  through_took start text before after end wrote writes t =
      (t.0, after, subst (λ x. Follow start false start.journal before text x after t.0) (sym (append-nil end)) (front t.1))

  -- a last line that no line feed ends
  pub through_last : (old new : Account) (line : List ℕ) (before after : Bool) (wrote writes : Option (List ℕ))
      → HasNone 10 line → line ≢ [] → Takes may_fail old new line before after wrote writes → Through may_fail old line before after new.journal wrote writes
  through_last old new line before after wrote writes none some takes = (
    takes.0 ++ [],
    step old new line takes.0 before after takes.1 true line [] (none, inr (some, refl, refl)) new.journal after [] (at_end refl),
    wrote_same wrote writes takes.0 (takes.0 ++ []) (sym (append-nil takes.0)) takes.2,
  )

  pub through_none : (old : Account) (line : List ℕ) (before : Bool) (wrote : Option (List ℕ)) → line ≡ [] → Through may_fail old line before before old.journal wrote wrote
  through_none old line before wrote none = ([], at_end none, wrote_none wrote)

  -- the line was pending at first
  pub passes_pending : (start now next : Account) (text pending rest line joined given after cleared : List ℕ) (b mid e : Bool) (wrote writing writes : Option (List ℕ))
      → given ≡ joined → joined ≡ pending ++ line → rest ≡ line ++ 10 ∷ after → cleared ≡ [] → HasNone 10 pending → HasNone 10 line
      → Takes may_fail now next given mid e writing writes → Passes may_fail start now text (pending ++ rest) b mid wrote writing
      → Passes may_fail start next text (cleared ++ after) b e wrote writes
  passes_pending start now next text pending rest line joined given after cleared b mid e wrote writing writes same is cuts none clean one takes p =
      let whole : given ≡ pending ++ line = same ∙ is in
      let left : pending ++ rest ≡ given ++ 10 ∷ after =
      ap (λ x. pending ++ x) cuts ∙ sym (append_assoc pending line (10 ∷ after)) ∙ ap (λ x. x ++ 10 ∷ after) (sym whole) in
      let free : HasNone 10 given = subst (λ x. HasNone 10 x) (sym whole) (none_joined 10 pending line clean one) in
      let behind : cleared ++ after ≡ after = ap (λ x. x ++ after) none in
      subst (λ x. Passes may_fail start next text x b e wrote writes) (sym behind)
      (passes_line start now next text (pending ++ rest) given after b mid e wrote writing writes free left takes p)
