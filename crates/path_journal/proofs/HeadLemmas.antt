-- A head names one room.
use Rattle.std.proofs.Common.{◌≡◌, ℕ, ◌<◌, ◌^◌, List, ◌++◌, codes, decimal, refl, sym, ◌∙◌}
use Rattle.path_fields.specs.Splits.{EndsAt}
use Rattle.path_fields.proofs.CallerLemmas.{same_number, feed_ends}
use Rattle.path_journal.specs.JournalTexts.{head_text}

head_tail : {xs ys : List ℕ} → codes "journal 2 room " ++ xs ≡ codes "journal 2 room " ++ ys → xs ≡ ys
head_tail e = cc

pub behind_head : (text r : List ℕ) (m : ℕ) (rest : List ℕ) → text ≡ codes "journal 2 room " ++ r → text ≡ head_text m ++ rest → r ≡ decimal m ++ rest
behind_head text r m rest e f = head_tail (sym e ∙ f)

-- a line has one number
pub one_number : (text : List ℕ) (m n : ℕ) (rest end : List ℕ) → text ≡ decimal m ++ rest → m < 2 ^ 64 → EndsAt 10 rest → n < 2 ^ 64 → EndsAt 10 end → text ≡ decimal n ++ end → (m ≡ n) × (rest ≡ end)
one_number text m n rest end e h stop k last f = same_number text m n rest end e (feed_ends rest stop) h k (feed_ends end last) f

pub one_head : (m n : ℕ) (rest end : List ℕ) → m < 2 ^ 64 → EndsAt 10 rest → n < 2 ^ 64 → EndsAt 10 end → head_text m ++ rest ≡ head_text n ++ end → (m ≡ n) × (rest ≡ end)
one_head m n rest end h stop k last e = one_number (decimal m ++ rest) m n rest end refl h stop k last (head_tail e)
