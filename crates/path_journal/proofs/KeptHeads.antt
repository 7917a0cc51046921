-- A head of version 3 names one room, and is no other head.
use Rattle.std.proofs.Common.{◌≡◌, ◌≢◌, ℕ, ◌<◌, ◌^◌, List, [], ◌∷◌, ◌++◌, get_or, codes, decimal, refl, sym, ap, ◌∙◌, arith, append_assoc}
use Rattle.path_model.specs.Rooms.{IsRoom}
use Rattle.path_journal.specs.declared.version.Version.{Version}
use Rattle.path_journal.specs.declared.version.Version.TheVariants.{One, Two, Three}
use Rattle.path_fields.specs.Splits.{EndsAt}
use Rattle.path_journal.specs.JournalTexts.{head_text, kept_head}
use Rattle.path_journal.specs.CutTexts.{front_of, VersionFits, HasNoHead}
use Rattle.path_journal.proofs.HeadLemmas.{one_number, one_head}

kept_tail : {xs ys : List ℕ} → codes "journal 3 room " ++ xs ≡ codes "journal 3 room " ++ ys → xs ≡ ys
kept_tail e = cc

pub behind_kept_head : (text r : List ℕ) (m : ℕ) (rest : List ℕ) → text ≡ codes "journal 3 room " ++ r → text ≡ kept_head m ++ rest → r ≡ decimal m ++ rest
behind_kept_head text r m rest e f = kept_tail (sym e ∙ f)

pub one_kept_head : (m n : ℕ) (rest end : List ℕ) → m < 2 ^ 64 → EndsAt 10 rest → n < 2 ^ 64 → EndsAt 10 end → kept_head m ++ rest ≡ kept_head n ++ end → (m ≡ n) × (rest ≡ end)
one_kept_head m n rest end h stop k last e = one_number (decimal m ++ rest) m n rest end refl h stop k last (kept_tail e)

room_small : (m : ℕ) → IsRoom m → m < 2 ^ 64
room_small m h = let few = h.1 in omega (arith, few)

-- the two kinds of heads differ in their number
pub other_number : (m n : ℕ) (x y : List ℕ) → head_text m ++ x ≡ kept_head n ++ y → ⊥
other_number m n x y e = let i : 50 ≡ 51 = ap (λ (l : List ℕ). get_or l 8 0) e in absurd (omega (arith, i))

feed_behind : (front after : List ℕ) → (front ++ 10 ∷ []) ++ after ≡ front ++ 10 ∷ after
feed_behind front after = append_assoc front (10 ∷ []) after

pub no_heads : (text : List ℕ) → ((room : ℕ) (rest : List ℕ) → IsRoom room → EndsAt 10 rest → text ≢ head_text room ++ rest) → ((room : ℕ) (rest : List ℕ) → IsRoom room → EndsAt 10 rest → text ≢ kept_head room ++ rest) → HasNoHead text
no_heads text two three One after fits other e = other refl
no_heads text two three (Two room) after fits other e = two room (10 ∷ after) fits refl (e ∙ feed_behind (head_text room) after)
no_heads text two three (Three room) after fits other e = three room (10 ∷ after) fits refl (e ∙ feed_behind (kept_head room) after)

-- a head that is cut before its line feed
pub short_two : (text rest : List ℕ) (m : ℕ) → text ≡ head_text m ++ rest → IsRoom m → EndsAt 10 rest → ((after : List ℕ) → rest ≢ 10 ∷ after) → HasNoHead text
short_two text rest m is room end none One after fits other e = other refl
short_two text rest m is room end none (Two n) after fits other e =
    none after (one_head m n rest (10 ∷ after) (room_small m room) end (room_small n fits) refl (sym is ∙ e ∙ feed_behind (head_text n) after)).1
short_two text rest m is room end none (Three n) after fits other e = other_number m n rest (10 ∷ after) (sym is ∙ e ∙ feed_behind (kept_head n) after)

pub short_three : (text rest : List ℕ) (m : ℕ) → text ≡ kept_head m ++ rest → IsRoom m → EndsAt 10 rest → ((after : List ℕ) → rest ≢ 10 ∷ after) → HasNoHead text
short_three text rest m is room end none One after fits other e = other refl
short_three text rest m is room end none (Two n) after fits other e = other_number n m (10 ∷ after) rest (sym (feed_behind (head_text n) after) ∙ sym e ∙ is)
short_three text rest m is room end none (Three n) after fits other e =
    none after (one_kept_head m n rest (10 ∷ after) (room_small m room) end (room_small n fits) refl (sym is ∙ e ∙ feed_behind (kept_head n) after)).1

-- what stands behind a head, from its line feed on
pub head_two : (text rest body : List ℕ) (m : ℕ) → text ≡ head_text m ++ rest → rest ≡ 10 ∷ body → text ≡ front_of (Two m) ++ body
head_two text rest body m is e = is ∙ ap (λ x. head_text m ++ x) e ∙ sym (feed_behind (head_text m) body)

pub head_three : (text rest body : List ℕ) (m : ℕ) → text ≡ kept_head m ++ rest → rest ≡ 10 ∷ body → text ≡ front_of (Three m) ++ body
head_three text rest body m is e = is ∙ ap (λ x. kept_head m ++ x) e ∙ sym (feed_behind (kept_head m) body)

-- a text has one head
pub one_front : (v w : Version) (x y : List ℕ) → VersionFits v → VersionFits w → v ≢ One → w ≢ One → front_of v ++ x ≡ front_of w ++ y → (v ≡ w) × (x ≡ y)
one_front One w x y h k some other e = absurd (some refl)
one_front v One x y h k some other e = absurd (other refl)
one_front (Two m) (Two n) x y h k some other e =
    let p = one_head m n (10 ∷ x) (10 ∷ y) (room_small m h) refl (room_small n k) refl (sym (feed_behind (head_text m) x) ∙ e ∙ feed_behind (head_text n) y) in
    (ap (λ z. Two z) p.0, (let q = p.1 in cc))
one_front (Three m) (Three n) x y h k some other e =
    let p = one_kept_head m n (10 ∷ x) (10 ∷ y) (room_small m h) refl (room_small n k) refl (sym (feed_behind (kept_head m) x) ∙ e ∙ feed_behind (kept_head n) y) in
    (ap (λ z. Three z) p.0, (let q = p.1 in cc))
one_front (Two m) (Three n) x y h k some other e = absurd (other_number m n (10 ∷ x) (10 ∷ y) (sym (feed_behind (head_text m) x) ∙ e ∙ feed_behind (kept_head n) y))
one_front (Three m) (Two n) x y h k some other e = absurd (other_number n m (10 ∷ y) (10 ∷ x) (sym (feed_behind (head_text n) y) ∙ sym e ∙ feed_behind (kept_head m) x))
