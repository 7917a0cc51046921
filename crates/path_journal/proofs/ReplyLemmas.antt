-- Each reply has one text, which is a line, and any other text is refused.
use Rattle.std.proofs.Common.{◌≡◌, ◌≢◌, ℕ, List, ◌∷◌, ◌++◌, All, codes, decimal, rules, refl, ap, arith}
use Rattle.std.proofs.lemmas.Fmt.{decimal_injective}
use Rattle.path_model.specs.declared.ids.ActId.{ActId}
use Rattle.path_model.specs.declared.ids.PathId.{PathId}
use Rattle.path_model.specs.declared.journal.Reply.{Reply}
use Rattle.path_model.specs.declared.journal.Reply.TheVariants.{Started, Blocked, UnknownOperation, Used, NotOffered, Empty, Full}
use Rattle.path_model.specs.declared.journal.Reply.TheVariants.{Overflow, DeviceFailed, Finished, Stale, NotYours, NoRoom}
use Rattle.path_fields.specs.Splits.{HasNone, EndsAt, IsDigit}
use Rattle.path_fields.proofs.CallerLemmas.{none_joined, none_in_number}
use Rattle.path_lines.specs.LineTexts.{reply_text}
use Rattle.path_lines.specs.declared.lines.TheConstants.{REPLIES}
use Rattle.path_journal.specs.Replies.{IsNone}
use Rattle.path_journal.specs.JournalTexts.{ReplyFits}

-- the first and the fourth byte tell nearly all replies apart
apart : {a b c d a' b' c' d' : ℕ} {xs ys : List ℕ} → a ∷ b ∷ c ∷ d ∷ xs ≡ a' ∷ b' ∷ c' ∷ d' ∷ ys → (a ≡ a') × (d ≡ d')
apart e = (cc, cc)

fifth : {a b c d x a' b' c' d' y : ℕ} {xs ys : List ℕ} → a ∷ b ∷ c ∷ d ∷ x ∷ xs ≡ a' ∷ b' ∷ c' ∷ d' ∷ y ∷ ys → x ≡ y
fifth e = cc

started_tail : {xs ys : List ℕ} → codes "started " ++ xs ≡ codes "started " ++ ys → xs ≡ ys
started_tail e = cc

used_tail : {xs ys : List ℕ} → codes "used " ++ xs ≡ codes "used " ++ ys → xs ≡ ys
used_tail e = cc

blocked_tail : {xs ys : List ℕ} → codes "blocked " ++ xs ≡ codes "blocked " ++ ys → xs ≡ ys
blocked_tail e = cc

pub reply_once : (r s : Reply) → ReplyFits r → ReplyFits s → reply_text r ≡ reply_text s → r ≡ s
reply_once (Started m) (Started n) h k e = ap (λ x. Started (let a : ActId = record { 0 = x } in a)) (decimal_injective m.0 n.0 h k (started_tail e))
reply_once (Blocked p) (Blocked q) h k e = ap (λ x. Blocked (let a : PathId = record { 0 = x } in a)) (decimal_injective p.0 q.0 (omega (arith, h)) (omega (arith, k)) (blocked_tail e))
reply_once UnknownOperation UnknownOperation h k e = refl
reply_once (Used x) (Used y) h k e = ap Used (decimal_injective x y h k (used_tail e))
reply_once NotOffered NotOffered h k e = refl
reply_once Empty Empty h k e = refl
reply_once Full Full h k e = refl
reply_once Overflow Overflow h k e = refl
reply_once DeviceFailed DeviceFailed h k e = refl
reply_once Finished Finished h k e = refl
reply_once Stale Stale h k e = refl
reply_once NotYours NotYours h k e = refl
reply_once NoRoom NoRoom h k e = refl
reply_once NotOffered NotYours h k e = let i = fifth e in absurd (omega (arith, i))
reply_once NotYours NotOffered h k e = let i = fifth e in absurd (omega (arith, i))
reply_once r s h k e = let i = apart e in let first = i.0 in let fourth = i.1 in absurd (omega (arith, first, fourth))

no_feed : IsDigit 10 → ⊥
no_feed d = let low = d.0 in omega (arith, low)

-- no reply has a line feed
pub reply_is_line : (r : Reply) → ReplyFits r → HasNone 10 (reply_text r)
reply_is_line (Started n) h = none_joined 10 (codes "started ") (decimal n.0) (search rules) (none_in_number 10 n.0 no_feed h)
reply_is_line (Blocked p) h = none_joined 10 (codes "blocked ") (decimal p.0) (search rules) (none_in_number 10 p.0 no_feed (omega (arith, h)))
reply_is_line (Used x) h = none_joined 10 (codes "used ") (decimal x) (search rules) (none_in_number 10 x no_feed h)
reply_is_line r h = search rules

-- each reply is of a kind in the table
pub each_kind : (text : List ℕ) → All (λ k. IsNone k text) REPLIES.now → (r : Reply) (rest : List ℕ) → ReplyFits r → EndsAt 10 rest → text ≢ reply_text r ++ rest
each_kind text none (Started n) rest fits end e = none 0 NoRoom (omega arith) n.0 rest fits end e
each_kind text none Finished rest fits end e = none 1 NoRoom (omega arith) 0 rest fits end e
each_kind text none (Used x) rest fits end e = none 2 NoRoom (omega arith) x rest fits end e
each_kind text none (Blocked p) rest fits end e = none 3 NoRoom (omega arith) p.0 rest fits end e
each_kind text none UnknownOperation rest fits end e = none 4 NoRoom (omega arith) 0 rest fits end e
each_kind text none NotOffered rest fits end e = none 5 NoRoom (omega arith) 0 rest fits end e
each_kind text none Empty rest fits end e = none 6 NoRoom (omega arith) 0 rest fits end e
each_kind text none Full rest fits end e = none 7 NoRoom (omega arith) 0 rest fits end e
each_kind text none Overflow rest fits end e = none 8 NoRoom (omega arith) 0 rest fits end e
each_kind text none DeviceFailed rest fits end e = none 9 NoRoom (omega arith) 0 rest fits end e
each_kind text none Stale rest fits end e = none 10 NoRoom (omega arith) 0 rest fits end e
each_kind text none NotYours rest fits end e = none 11 NoRoom (omega arith) 0 rest fits end e
each_kind text none NoRoom rest fits end e = none 12 NoRoom (omega arith) 0 rest fits end e
