-- One more line of a journal: its starts, finishes, history and contents.
use Rattle.std.proofs.Common.{◌≡◌, ◌≢◌, ◌||◌, ◌+◌, ℕ, Bool, true, false, not, List, [], ◌∷◌, ◌++◌, length, filter, refl, sym, ap, ◌∙◌, append_assoc, append-nil, length-append}
use Rattle.path_model.specs.declared.ids.ActId.{ActId}
use Rattle.path_model.specs.declared.journal.Verb.{Verb}
use Rattle.path_model.specs.declared.journal.Attempt.{Attempt}
use Rattle.path_model.specs.declared.journal.Attempt.TheVariants.{Start, Apply, Finish}
use Rattle.path_model.specs.declared.journal.Reply.{Reply}
use Rattle.path_model.specs.declared.journal.Reply.TheVariants.{Started, Finished}
use Rattle.path_model.specs.declared.journal.Line.{Line}
use Rattle.path_model.specs.Declarations.{Declaration}
use Rattle.path_model.specs.Journals.{started_by, starts, begun_in, finishes, is_finished_in, live, events_of_line, history_from, admitted_history, IsQuiet}
use Rattle.path_model.specs.Contents.{line_applied, contents_from, contents_after}

pub starts_more : (ls : List Line) (l : Line) → starts (ls ++ l ∷ []) ≡ starts ls ++ started_by l.worker l.attempt l.reply
starts_more [] l = append-nil (started_by l.worker l.attempt l.reply)
starts_more (k ∷ ls) l =
    ap (λ x. started_by k.worker k.attempt k.reply ++ x) (starts_more ls l) ∙ sym (append_assoc (started_by k.worker k.attempt k.reply) (starts ls) (started_by l.worker l.attempt l.reply))

pub begun_more : (ls : List Line) (l : Line) → begun_in (ls ++ l ∷ []) ≡ begun_in ls + length (started_by l.worker l.attempt l.reply)
begun_more ls l = ap length (starts_more ls l) ∙ length-append (starts ls) (started_by l.worker l.attempt l.reply)

or_same : (x y z : Bool) → (x || (y || z)) ≡ ((x || y) || z)
or_same true y z = refl
or_same false y z = refl

pub or_false : (x : Bool) → (x || false) ≡ x
or_false true = refl
or_false false = refl

pub finished_more : (ls : List Line) (l : Line) (n : ActId) → is_finished_in (ls ++ l ∷ []) n ≡ (is_finished_in ls n || finishes n l.attempt l.reply)
finished_more [] l n = or_false (finishes n l.attempt l.reply)
finished_more (k ∷ ls) l n =
    ap (λ x. finishes n k.attempt k.reply || x) (finished_more ls l n) ∙ or_same (finishes n k.attempt k.reply) (is_finished_in ls n) (finishes n l.attempt l.reply)

history_from_more : (before ls : List Line) (l : Line) → history_from before (ls ++ l ∷ []) ≡ history_from before ls ++ events_of_line (before ++ ls) l.attempt l.reply
history_from_more before [] l =
    append-nil (events_of_line before l.attempt l.reply) ∙ ap (λ b. events_of_line b l.attempt l.reply) (sym (append-nil before))
history_from_more before (k ∷ ls) l =
    ap (λ x. events_of_line before k.attempt k.reply ++ x) (history_from_more (before ++ k ∷ []) ls l)
    ∙ sym (append_assoc (events_of_line before k.attempt k.reply) (history_from (before ++ k ∷ []) ls) (events_of_line ((before ++ k ∷ []) ++ ls) l.attempt l.reply))
    ∙ ap (λ b. (events_of_line before k.attempt k.reply ++ history_from (before ++ k ∷ []) ls) ++ events_of_line b l.attempt l.reply) (append_assoc before (k ∷ []) ls)

pub history_more : (ls : List Line) (l : Line) → admitted_history (ls ++ l ∷ []) ≡ admitted_history ls ++ events_of_line ls l.attempt l.reply
history_more ls l = history_from_more [] ls l

contents_from_more : (d : Declaration) (r : ℕ) (before : List Line) (held : List ℕ) (ls : List Line) (l : Line)
    → contents_from d r before held (ls ++ l ∷ []) ≡ line_applied d r (before ++ ls) l.attempt l.reply (contents_from d r before held ls)
contents_from_more d r before held [] l = ap (λ b. line_applied d r b l.attempt l.reply held) (sym (append-nil before))
contents_from_more d r before held (k ∷ ls) l =
    contents_from_more d r (before ++ k ∷ []) (line_applied d r before k.attempt k.reply held) ls l
    ∙ ap (λ b. line_applied d r b l.attempt l.reply (contents_from d r (before ++ k ∷ []) (line_applied d r before k.attempt k.reply held) ls)) (append_assoc before (k ∷ []) ls)

pub contents_more : (d : Declaration) (openings : List (List ℕ)) (ls : List Line) (l : Line) (r : ℕ)
    → contents_after d openings (ls ++ l ∷ []) r ≡ line_applied d r ls l.attempt l.reply (contents_after d openings ls r)
contents_more d openings ls l r = contents_from_more d r [] _ ls l

-- the live activations among all starts, by the finishes of the lines and of one more
pub live_more : (ls : List Line) (l : Line)
    → live (ls ++ l ∷ []) ≡ filter (λ a. not (is_finished_in ls a.act || finishes a.act l.attempt l.reply)) (starts ls ++ started_by l.worker l.attempt l.reply)
live_more ls l = λ i. filter (λ a. not (finished_more ls l a.act i)) (starts_more ls l i)

-- a quiet line changes nothing of these
module _ (ls : List Line) (l : Line) (q : IsQuiet l.worker l.attempt l.reply) where
  pub starts_quiet : starts (ls ++ l ∷ []) ≡ starts ls
  starts_quiet = starts_more ls l ∙ ap (λ x. starts ls ++ x) q.starts_none ∙ append-nil (starts ls)

  pub begun_quiet : begun_in (ls ++ l ∷ []) ≡ begun_in ls
  begun_quiet = ap length starts_quiet

  pub finished_quiet : (n : ActId) → is_finished_in (ls ++ l ∷ []) n ≡ is_finished_in ls n
  finished_quiet n = finished_more ls l n ∙ ap (λ x. is_finished_in ls n || x) (q.finishes_none n) ∙ or_false (is_finished_in ls n)

  pub live_quiet : live (ls ++ l ∷ []) ≡ live ls
  live_quiet = λ i. filter (λ a. not (finished_quiet a.act i)) (starts_quiet i)

  pub history_quiet : admitted_history (ls ++ l ∷ []) ≡ admitted_history ls
  history_quiet = history_more ls l ∙ ap (λ x. admitted_history ls ++ x) (q.no_events ls) ∙ append-nil (admitted_history ls)

-- a line of a use is quiet, whatever its reply
pub quiet_use : (w : ℕ) (n : ActId) (verb : Verb) (reply : Reply) → IsQuiet w (Apply n verb) reply
quiet_use w n verb reply = record { starts_none = refl; finishes_none = λ m. refl; no_events = λ before. refl }

-- so is a line whose reply admits nothing
pub quiet_reply : (w : ℕ) (attempt : Attempt) (reply : Reply) → ((n : ActId) → reply ≢ Started n) → reply ≢ Finished → IsQuiet w attempt reply
quiet_reply w (Apply n verb) reply s f = quiet_use w n verb reply
quiet_reply w (Start a) (Started n) s f = absurd (s n refl)
quiet_reply w (Start a) reply s f = record { starts_none = refl; finishes_none = λ m. refl; no_events = λ before. refl }
quiet_reply w (Finish n) Finished s f = absurd (f refl)
quiet_reply w (Finish n) reply s f = record { starts_none = refl; finishes_none = λ m. refl; no_events = λ before. refl }
