-- How far the loop that cuts has come.
use Rattle.std.proofs.Common.{◌≡◌, ℕ, suc, ◌+◌, ◌-◌, ◌<◌, ◌≤◌, Bool, true, false, List, [], ◌∷◌, ◌++◌, length, get_or, take, drop, refl, sym, ap, ◌∙◌, subst, append_assoc, arith, inl, inr}
use Rattle.std.proofs.lemmas.List.{append-nil, drop_more, drop-drop, get_or-drop, get_or-take, get_or_past}
use Rattle.std.proofs.Common.{length-drop, length-take, cond}
use Rattle.std.proofs.Math.ListN.{drop_of_length-le}
use Rattle.std.proofs.Math.Seq.{take-length}
use Rattle.std.proofs.Common.{below_more}
use Rattle.std.specs.List.{AllByRecursion}
use Rattle.std.proofs.lemmas.List.Sums.{prefix_len_passes, prefix_len_stops}
use Rattle.path_lex.specs.declared.token.Sign.{Sign}
use Rattle.path_lex.specs.declared.token.Class.{Class}
use Rattle.path_lex.specs.declared.token.Class.TheVariants as classes
use Rattle.std.proofs.lemmas.Bool.{cases_order}
use Rattle.std.proofs.lemmas.Bool.Decides.{nat_tests}
use Rattle.std.specs.Str.{IsAscii}
use Rattle.path_lex.specs.Bytes.{class_of, in_word, in_number, is_word_byte, is_number_byte, begins_none, InWord, IsBad, IsFirstBad}
use Rattle.std.specs.Prelude.{IsTrue, nat_eq}
use Rattle.path_lex.specs.Names.{IsWordText}
use Rattle.path_lex.specs.Spelling.{sign, word, number, Placed, placed, word_len, number_len, Spells, by_end, by_space, by_mark, by_word, by_number}

-- What the first byte says of the tokens.
pub end_only : {at : ℕ} {ts : List Placed} → Spells at [] ts → ts ≡ []
end_only by_end = refl

pub space_only : {at b : ℕ} {bs : List ℕ} {ts : List Placed} → class_of b ≡ classes.Space → Spells at (b ∷ bs) ts → Spells (at + 1) bs ts
space_only e (by_space f r) = r
space_only e (by_mark f r) = absurd (cc)
space_only e (by_word f r) = absurd (cc)
space_only e (by_number f r) = absurd (cc)

abbrev pub HasFirst : Placed → ℕ → List ℕ → List Placed → Type 0
HasFirst t at bs ts = (us : List Placed) × (ts ≡ t ∷ us) × Spells at bs us

same_sign : {s t : Sign} → classes.Sign s ≡ classes.Sign t → s ≡ t
same_sign e = cc

pub mark_only : {at b : ℕ} {bs : List ℕ} {ts : List Placed} {s : Sign} → class_of b ≡ classes.Sign s → Spells at (b ∷ bs) ts → HasFirst (placed (sign s) at) (at + 1) bs ts
mark_only e (by_space f r) = absurd (cc)
mark_only {at} e (by_mark {ts} {s} f r) = (ts, ap (λ (x : Sign). placed (sign x) at ∷ ts) (same_sign (sym f ∙ e)), r)
mark_only e (by_word f r) = absurd (cc)
mark_only e (by_number f r) = absurd (cc)

pub word_only : {at b : ℕ} {bs : List ℕ} {ts : List Placed} → class_of b ≡ classes.Letter → Spells at (b ∷ bs) ts → HasFirst (placed (word (b ∷ take (word_len bs) bs)) at) (at + 1 + word_len bs) (drop (word_len bs) bs) ts
word_only e (by_space f r) = absurd (cc)
word_only e (by_mark f r) = absurd (cc)
word_only e (by_word {ts} f r) = (ts, refl, r)
word_only e (by_number f r) = absurd (cc)

pub number_only : {at b : ℕ} {bs : List ℕ} {ts : List Placed} → class_of b ≡ classes.Digit → Spells at (b ∷ bs) ts → HasFirst (placed (number (b ∷ take (number_len bs) bs)) at) (at + 1 + number_len bs) (drop (number_len bs) bs) ts
number_only e (by_space f r) = absurd (cc)
number_only e (by_mark f r) = absurd (cc)
number_only e (by_word f r) = absurd (cc)
number_only e (by_number {ts} f r) = (ts, refl, r)

none_only : {at b : ℕ} {bs : List ℕ} {ts : List Placed} → begins_none (class_of b) ≡ true → Spells at (b ∷ bs) ts → ⊥
none_only e (by_space f r) = let h = rw f at e in cc
none_only e (by_mark f r) = let h = rw f at e in cc
none_only e (by_word f r) = let h = rw f at e in cc
none_only e (by_number f r) = let h = rw f at e in cc

-- The tokens so far, and any tokens of what is left, are those of the text, and it has no others.
pub record Reached (s : List ℕ) (done : List Placed) (at : ℕ) : Type 0 where
  pub forth : (ts : List Placed) → Spells at (drop at s) ts → Spells 0 s (done ++ ts)
  pub back : (us : List Placed) → Spells 0 s us → (ts : List Placed) × (us ≡ done ++ ts) × Spells at (drop at s) ts

pub starts : (s : List ℕ) → Reached s [] 0
starts s = record { forth = λ ts r. r; back = λ us r. (us, refl, r) }

-- what is left, as a byte and the bytes after it
front : (s : List ℕ) (at : ℕ) → at < length s → drop at s ≡ get_or s at 0 ∷ drop (at + 1) s
front s at h = drop_more s at 0 h

pub past_space : (s : List ℕ) (done : List Placed) (at : ℕ) → at < length s → class_of (get_or s at 0) ≡ classes.Space → Reached s done at → Reached s done (at + 1)
past_space s done at h e r = record {
  forth = λ ts q. r.forth ts (subst (λ x. Spells at x ts) (sym (front s at h)) (by_space e q));
  back = λ us q. let b = r.back us q in (b.0, b.1, space_only e (subst (λ x. Spells at x b.0) (front s at h) b.2));
}

past_token : (s : List ℕ) (done : List Placed) (at end : ℕ) (t : Placed) → ((ts : List Placed) → Spells end (drop end s) ts → Spells at (drop at s) (t ∷ ts)) → ((ts : List Placed) → Spells at (drop at s) ts → HasFirst t end (drop end s) ts)
    → Reached s done at → Reached s (done ++ t ∷ []) end
past_token s done at end t one only r = record {
  forth = λ ts q. subst (λ x. Spells 0 s x) (sym (append_assoc done (t ∷ []) ts)) (r.forth (t ∷ ts) (one ts q));
  back = λ us q.
      let b = r.back us q in
      let f = only b.0 b.2 in
      let e : us ≡ (done ++ t ∷ []) ++ f.0 = b.1 ∙ ap (λ x. done ++ x) f.1 ∙ sym (append_assoc done (t ∷ []) f.0) in
      (f.0, e, f.2);
}

pub past_mark : (s : List ℕ) (done : List Placed) (at : ℕ) (k : Sign) → at < length s → class_of (get_or s at 0) ≡ classes.Sign k → Reached s done at → Reached s (done ++ placed (sign k) at ∷ []) (at + 1)
past_mark s done at k h e r = past_token s done at (at + 1) (placed (sign k) at)
    (λ ts q. subst (λ x. Spells at x (placed (sign k) at ∷ ts)) (sym (front s at h)) (by_mark e q))
    (λ ts q. mark_only e (subst (λ x. Spells at x ts) (front s at h) q))
    r

-- the bytes after a token that has n bytes past its first
after : (s : List ℕ) (at n : ℕ) → drop n (drop (at + 1) s) ≡ drop (at + 1 + n) s
after s at n = drop-drop n (at + 1) s

-- such a token's bytes
text_of : (s : List ℕ) (at n : ℕ) → at < length s → get_or s at 0 ∷ take n (drop (at + 1) s) ≡ take (at + 1 + n - at) (drop at s)
text_of s at n h =
    let e : at + 1 + n - at ≡ suc n = omega arith in
    rw (e, front s at h) refl

pub past_word : (s : List ℕ) (done : List Placed) (at end : ℕ) (text : List ℕ) → at < length s → class_of (get_or s at 0) ≡ classes.Letter → end ≡ at + 1 + word_len (drop (at + 1) s) → text ≡ take (end - at) (drop at s)
    → Reached s done at → Reached s (done ++ placed (word text) at ∷ []) end
past_word s done at end text h e ends is r =
    let bs : List ℕ = drop (at + 1) s in
    let n : ℕ = word_len bs in
    let same : text ≡ get_or s at 0 ∷ take n bs = is ∙ ap (λ x. take (x - at) (drop at s)) ends ∙ sym (text_of s at n h) in
    subst (λ x. Reached s (done ++ placed (word x) at ∷ []) end) (sym same)
    (subst (λ x. Reached s (done ++ placed (word (get_or s at 0 ∷ take n bs)) at ∷ []) x) (sym ends)
    (past_token s done at (at + 1 + n) (placed (word (get_or s at 0 ∷ take n bs)) at)
    (λ ts q. subst (λ x. Spells at x (placed (word (get_or s at 0 ∷ take n bs)) at ∷ ts)) (sym (front s at h)) (by_word e (subst (λ x. Spells (at + 1 + n) x ts) (sym (after s at n)) q)))
    (λ ts q. subst (λ x. HasFirst (placed (word (get_or s at 0 ∷ take n bs)) at) (at + 1 + n) x ts) (after s at n) (word_only e (subst (λ x. Spells at x ts) (front s at h) q)))
    r))

pub past_number : (s : List ℕ) (done : List Placed) (at end : ℕ) (text : List ℕ) → at < length s → class_of (get_or s at 0) ≡ classes.Digit → end ≡ at + 1 + number_len (drop (at + 1) s) → text ≡ take (end - at) (drop at s)
    → Reached s done at → Reached s (done ++ placed (number text) at ∷ []) end
past_number s done at end text h e ends is r =
    let bs : List ℕ = drop (at + 1) s in
    let n : ℕ = number_len bs in
    let same : text ≡ get_or s at 0 ∷ take n bs = is ∙ ap (λ x. take (x - at) (drop at s)) ends ∙ sym (text_of s at n h) in
    subst (λ x. Reached s (done ++ placed (number x) at ∷ []) end) (sym same)
    (subst (λ x. Reached s (done ++ placed (number (get_or s at 0 ∷ take n bs)) at ∷ []) x) (sym ends)
    (past_token s done at (at + 1 + n) (placed (number (get_or s at 0 ∷ take n bs)) at)
    (λ ts q. subst (λ x. Spells at x (placed (number (get_or s at 0 ∷ take n bs)) at ∷ ts)) (sym (front s at h)) (by_number e (subst (λ x. Spells (at + 1 + n) x ts) (sym (after s at n)) q)))
    (λ ts q. subst (λ x. HasFirst (placed (number (get_or s at 0 ∷ take n bs)) at) (at + 1 + n) x ts) (after s at n) (number_only e (subst (λ x. Spells at x ts) (front s at h) q)))
    r))

pub is_stuck : (s : List ℕ) (done : List Placed) (at : ℕ) → at < length s → begins_none (class_of (get_or s at 0)) ≡ true → Reached s done at → (us : List Placed) → Spells 0 s us → ⊥
is_stuck s done at h e r us q = let b = r.back us q in none_only e (subst (λ x. Spells at x b.0) (front s at h) b.2)

-- no byte before this one is bad, and no word goes on here
pub record IsClean (s : List ℕ) (at : ℕ) : Type 0 where
  pub none : (k : ℕ) → k < at → IsBad s k → ⊥
  pub apart : at < length s → InWord s at → is_word_byte (get_or s at 0) ≡ true → ⊥

pub starts_clean : (s : List ℕ) → IsClean s 0
starts_clean s = record { none = λ k h b. absurd (omega arith); apart = λ h w e. absurd (omega (arith, w.before)) }

-- past a byte that stands in no word
pub clean_one : (s : List ℕ) (at : ℕ) → begins_none (class_of (get_or s at 0)) ≡ false → is_word_byte (get_or s at 0) ≡ false → IsClean s at → IsClean s (at + 1)
clean_one s at e f c = record {
  none = below_more (λ k. IsBad s k → ⊥) at c.none (λ b. let g = b.none in cc);
  apart = λ h w g.
      let apart_from : (k : ℕ) → k < at + 1 → class_of (get_or s k 0) ≡ classes.Letter → ((j : ℕ) → k < j → j < at + 1 → is_word_byte (get_or s j 0) ≡ true) → ⊥ =
      below_more (λ k. class_of (get_or s k 0) ≡ classes.Letter → ((j : ℕ) → k < j → j < at + 1 → is_word_byte (get_or s j 0) ≡ true) → ⊥) at
      (λ k lt l each. let i = each at lt (omega arith) in cc)
      (λ l each. let j = rw l at f in cc) in
      apart_from w.from w.before w.letter w.each;
}

in_word_only : (s : List ℕ) (at n : ℕ) → n ≡ word_len (drop (at + 1) s) → (k : ℕ) → at < k → k < at + 1 + n → is_word_byte (get_or s k 0) ≡ true
in_word_only s at n is k lt le =
    let e : at + 1 + (k - (at + 1)) ≡ k = omega arith in
    let p = prefix_len_passes is_word_byte (drop (at + 1) s) (k - (at + 1)) 0 (omega arith) in
    rw (get_or-drop (at + 1) s (k - (at + 1)) 0, e) at p

-- past a word
pub clean_word : (s : List ℕ) (at end : ℕ) → at < length s → class_of (get_or s at 0) ≡ classes.Letter → end ≡ at + 1 + word_len (drop (at + 1) s) → IsClean s at → IsClean s end
clean_word s at end h e ends c =
    let bs : List ℕ = drop (at + 1) s in
    let n : ℕ = word_len bs in
    record {
      none = λ k lt b. elim (cases_order k at) [
        | inl is ↦ let g = rw is at b.none in let i : begins_none classes.Letter ≡ true = rw e at g in cc
        | inr o ↦ elim o [
          | inl below ↦ c.none k below b
          | inr above ↦ b.outside (in_word_only s at n refl k above (omega arith)) (record { from = at; before = above; letter = e; each = λ j l m. in_word_only s at n refl j l (omega arith) })
        ]
      ];
      apart = λ lt w g.
          let stop = prefix_len_stops is_word_byte bs 0 (omega (arith, length-drop (at + 1) s)) in
          let i : get_or bs n 0 ≡ get_or s end 0 = get_or-drop (at + 1) s n 0 ∙ ap (λ x. get_or s x 0) (sym ends) in
          let j = rw i at stop in cc;
    }

in_number_only : (s : List ℕ) (at : ℕ) (k : ℕ) → at < k → k < at + 1 + number_len (drop (at + 1) s) → is_number_byte (get_or s k 0) ≡ true
in_number_only s at k lt le =
    let e : at + 1 + (k - (at + 1)) ≡ k = omega arith in
    let p = prefix_len_passes is_number_byte (drop (at + 1) s) (k - (at + 1)) 0 (omega arith) in
    rw (get_or-drop (at + 1) s (k - (at + 1)) 0, e) at p

digit_only : (c : Class) → in_number c ≡ true → c ≡ classes.Digit
digit_only classes.Digit e = refl
digit_only classes.Letter e = cc
digit_only classes.Underscore e = cc
digit_only classes.Space e = cc
digit_only (classes.Sign s) e = cc
digit_only classes.Other e = cc

pub clean_number : (s : List ℕ) (at end : ℕ) → at < length s → class_of (get_or s at 0) ≡ classes.Digit → end ≡ at + 1 + number_len (drop (at + 1) s) → IsClean s at → IsClean s end
clean_number s at end h e ends c = record {
  none = λ k lt b. elim (cases_order k at) [
    | inl is ↦ let g = rw is at b.none in let i : begins_none classes.Digit ≡ true = rw e at g in cc
    | inr o ↦ elim o [
      | inl below ↦ c.none k below b
      | inr above ↦ let d = digit_only _ (in_number_only s at k above (omega arith)) in let i : begins_none classes.Digit ≡ true = rw d at b.none in cc
    ]
  ];
  apart = λ lt w g. elim (cases_order w.from at) [
    | inl is ↦ let l = rw is at w.letter in cc
    | inr o ↦ elim o [
      | inl below ↦
          let d : is_word_byte (get_or s at 0) ≡ true = rw e refl in
          c.apart h (record { from = w.from; before = below; letter = w.letter; each = λ j l m. w.each j l (omega arith) }) d
      | inr above ↦ let d = digit_only _ (in_number_only s at w.from above (omega (arith, w.before))) in let l = w.letter in cc
    ]
  ];
}

pub is_first_bad : (s : List ℕ) (at : ℕ) → at < length s → begins_none (class_of (get_or s at 0)) ≡ true → IsClean s at → IsFirstBad s at
is_first_bad s at h e c = record { bad = record { within = h; none = e; outside = λ f w. c.apart h w f }; first = c.none }

pub all_of : (s : List ℕ) (done : List Placed) (at : ℕ) → length s ≤ at → Reached s done at → Spells 0 s done
all_of s done at h r = subst (λ ts. Spells 0 s ts) (append-nil done) (r.forth [] (subst (λ x. Spells at x []) (sym (drop_of_length-le s h)) by_end))

pub only_these : (s : List ℕ) (done : List Placed) (at : ℕ) → length s ≤ at → Reached s done at → (ts : List Placed) → Spells 0 s ts → ts ≡ done
only_these s done at h r us q =
    let b = r.back us q in
    let none : b.0 ≡ [] = end_only (subst (λ x. Spells at x b.0) (drop_of_length-le s h) b.2) in
    b.1 ∙ ap (λ x. done ++ x) none ∙ append-nil done

-- a slice up to the end is the bytes from there on
pub rest_whole : (s : List ℕ) (n : ℕ) → take (length s - n) (drop n s) ≡ drop n s
rest_whole s n = subst (λ k. take k (drop n s) ≡ drop n s) (length-drop n s) (take-length (drop n s))

pub none_bad : (s : List ℕ) (at : ℕ) → length s ≤ at → IsClean s at → (k : ℕ) → IsBad s k → ⊥
none_bad s at h c k b = c.none k (omega (arith, b.within)) b

pub one_first : (s : List ℕ) (i j : ℕ) → IsFirstBad s i → IsFirstBad s j → i ≡ j
one_first s i j a b = elim (cases_order i j) [
  | inl is ↦ is
  | inr o ↦ elim o [ inl lt ↦ absurd (b.first i lt a.bad) | inr lt ↦ absurd (a.first j lt b.bad) ]
]

byte_below : (b : ℕ) → is_word_byte b ≡ true → b < 128
unfolding class_of
byte_below b h = grind (arith, nat_tests)

letter_below : (b : ℕ) → class_of b ≡ classes.Letter → b < 128
letter_below b e = byte_below b (ap in_word e)

-- a word is made of bytes below 128
pub word_ascii : (s : List ℕ) (at n : ℕ) → at < length s → class_of (get_or s at 0) ≡ classes.Letter → n ≡ word_len (drop (at + 1) s) → IsAscii (take (at + 1 + n - at) (drop at s))
word_ascii s at n h e is i =
    let m : ℕ = at + 1 + n - at in
    elim (cases_order i m) [
      | inl same ↦ let past : get_or (take m (drop at s)) i 0 ≡ 0 = get_or_past (take m (drop at s)) i 0 (omega (arith, length-take {A = ℕ})) in omega arith
      | inr o ↦ elim o [
        | inl below ↦
            let here : get_or (take m (drop at s)) i 0 ≡ get_or s (at + i) 0 = get_or-take m (drop at s) i 0 below ∙ get_or-drop at s i 0 in
            elim (cases_order i 0) [
              | inl first ↦ let z : at + i ≡ at = omega arith in let l : get_or s (at + i) 0 < 128 = letter_below (get_or s (at + i) 0) (ap (λ k. class_of (get_or s k 0)) z ∙ e) in omega arith
              | inr p ↦ elim p [
                | inl less ↦ absurd (omega arith)
                | inr later ↦ let l : get_or s (at + i) 0 < 128 = byte_below (get_or s (at + i) 0) (in_word_only s at n is (at + i) (omega arith) (omega arith)) in omega arith
              ]
            ]
        | inr above ↦ let past : get_or (take m (drop at s)) i 0 ≡ 0 = get_or_past (take m (drop at s)) i 0 (omega (arith, length-take {A = ℕ})) in omega arith
      ]
    ]

more_of : (b : ℕ) (bs : List ℕ) (t : Bool) → is_word_byte b ≡ t → cond t (1 + word_len bs) 0 ≡ suc (length bs) → (is_word_byte b ≡ true) × (word_len bs ≡ length bs)
more_of b bs true f e = (f, omega arith)
more_of b bs false f e = absurd (omega arith)

-- if the word goes on to the end, each byte is a word byte
pub all_word : (bs : List ℕ) → word_len bs ≡ length bs → AllByRecursion (λ c. is_word_byte c ≡ true) bs
all_word [] e = tt
all_word (b ∷ bs) e = let p = more_of b bs (is_word_byte b) refl e in (p.0, all_word bs p.1)

pub word_all : (bs : List ℕ) → AllByRecursion (λ c. is_word_byte c ≡ true) bs → word_len bs ≡ length bs
word_all [] h = refl
word_all (b ∷ bs) h = let f = h.0 in rw f (omega (arith, word_all bs h.1))

same_count : (m n : ℕ) → IsTrue (nat_eq m n) → m ≡ n
same_count m n h = grind (arith, nat_tests)

counts_same : (m n : ℕ) → m ≡ n → IsTrue (nat_eq m n)
counts_same m n h = grind (arith, nat_tests)

pub is_word_text : (b : ℕ) (bs : List ℕ) (n : ℕ) → class_of b ≡ classes.Letter → n ≡ word_len bs → (IsTrue (nat_eq n (length bs)) → IsWordText (b ∷ bs)) × (IsWordText (b ∷ bs) → IsTrue (nat_eq n (length bs)))
is_word_text b bs n e is = (λ h. (e, all_word bs (sym is ∙ same_count n (length bs) h)), λ w. counts_same n (length bs) (is ∙ word_all bs w.1))
