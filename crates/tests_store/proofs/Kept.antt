-- What a crash may leave of a file in memory, call by call.
use Rattle.std.proofs.Common.{◌≡◌, ℕ, zero, suc, ◌-◌, ◌≤◌, ◌⊎◌, inl, inr, ⊎_elim, List, [], ◌∷◌, ◌++◌, length, take, drop, refl, sym, ap, ◌∙◌, subst, arith, append_assoc, length-append}
use Rattle.std.proofs.lemmas.List.{append-nil, length-take-le}
use Rattle.path_store.specs.Devices.{IsImage, behind_zeros, Torn, Cut, Follows, Only, Elapses}
use Rattle.tests_store.specs.declared.memory.State.{State}
use Rattle.tests_store.specs.Memory.{IsLeftOf, HadBeen}

image_whole : (w : List ℕ) → IsImage w w
image_whole [] = tt
image_whole (b ∷ w) = (inl refl, image_whole w)

-- an image of bytes behind others is an image of those, and behind it zeros up to them and an image of these
split_image : (w b t : List ℕ) → IsImage (w ++ b) t → (x : List ℕ) × (y : List ℕ) × (t ≡ x ++ y) × IsImage w x × IsImage (behind_zeros (length w - length x) b) y
split_image [] b t i = ([], t, refl, tt, i)
split_image (a ∷ w) b [] i = ([], [], refl, tt, tt)
split_image (a ∷ w) b (c ∷ t) i =
    let p = split_image w b t i.1 in
    let same : length w - length p.0 ≡ length (a ∷ w) - length (c ∷ p.0) = omega arith in
    (c ∷ p.0, p.1, ap (λ l. c ∷ l) p.2, (i.0, p.3), subst (λ n. IsImage (behind_zeros n b) p.1) same p.4)

pub appended : (kept fresh bytes : List ℕ) (size : ℕ) → size ≡ length (kept ++ fresh) → Follows (Torn size bytes) (IsLeftOf kept fresh) (IsLeftOf kept (fresh ++ bytes))
appended kept fresh bytes size is c left =
    let p = split_image fresh bytes left.0 left.2 in
    let gap : length fresh - length p.0 ≡ size - length (kept ++ p.0) = let m = length-append kept fresh in let n = length-append kept p.0 in omega (arith, is, m, n) in (
      kept ++ p.0,
      (p.0, refl, p.3),
      (p.1, left.1 ∙ ap (λ x. kept ++ x) p.2 ∙ sym (append_assoc kept p.0 p.1), subst (λ n. IsImage (behind_zeros n bytes) p.1) gap p.4),
    )

-- nothing that isn't on the disk
pub all_kept : (b c : List ℕ) → IsLeftOf b [] c → c ≡ b
all_kept b c left = left.1 ∙ ap (λ x. b ++ x) (nothing left.0 left.2) ∙ append-nil b
  where
    nothing : (t : List ℕ) → IsImage [] t → t ≡ []
    nothing [] i = refl
    nothing (x ∷ t) i = absurd i

pub whole_left : (kept fresh : List ℕ) → IsLeftOf kept fresh (kept ++ fresh)
whole_left kept fresh = (fresh, refl, image_whole fresh)

keeps : (past : List State) (s : State) (c : List ℕ) → HadBeen past c → HadBeen (past ++ s ∷ []) c
keeps [] s c had = absurd had
keeps (p ∷ past) s c (inl here) = inl here
keeps (p ∷ past) s c (inr there) = inr (keeps past s c there)

adds : (past : List State) (s : State) (c : List ℕ) → HadBeen (past ++ s ∷ []) c → HadBeen past c ⊎ IsLeftOf s.kept.items s.fresh.items c
adds [] s c (inl here) = inr here
adds [] s c (inr none) = absurd none
adds (p ∷ past) s c (inl here) = inl (inl here)
adds (p ∷ past) s c (inr there) = ⊎_elim (λ had. inl (inr had)) (λ new. inr new) (adds past s c there)

newest : (past : List State) (s : State) (c : List ℕ) → IsLeftOf s.kept.items s.fresh.items c → HadBeen (past ++ s ∷ []) c
newest [] s c is = inl is
newest (p ∷ past) s c is = inr (newest past s c is)

drop_push : (t : ℕ) (past : List State) (s : State) → t ≤ length past → drop t (past ++ s ∷ []) ≡ drop t past ++ s ∷ []
drop_push zero past s le = refl
drop_push (suc t) [] s le = absurd (omega (arith, le))
drop_push (suc t) (p ∷ past) s le = drop_push t past s (omega (arith, le))

-- what a crash since t might have left
abbrev Since : List State → List ℕ → List ℕ → ℕ → List ℕ → Type 0
Since past kept fresh t c = IsLeftOf kept fresh c ⊎ HadBeen (drop t past) c

pub elapses_push : (past : List State) (s : State) (later : List State) (kept fresh kept' fresh' : List ℕ) → s.kept.items ≡ kept → s.fresh.items ≡ fresh → later ≡ past ++ s ∷ [] → Elapses (length past) (length later) (Since past kept fresh) (Since later kept' fresh') (IsLeftOf kept' fresh')
elapses_push past s later kept fresh kept' fresh' is are same =
    subst (λ l. Elapses (length past) (length l) (Since past kept fresh) (Since l kept' fresh') (IsLeftOf kept' fresh')) (sym same)
    (record {
      later = let n = length-append past (s ∷ []) in omega (arith, n);
      nothing_else = λ t c le left. ⊎_elim (λ now. inr now) (λ had. inl (was t c (adds (drop t past) s c (subst (λ l. HadBeen l c) (drop_push t past s le) had)))) left;
      keeps = λ t c le left. inr (subst (λ l. HadBeen l c) (sym (drop_push t past s le)) (⊎_elim (λ now. newest (drop t past) s c (subst (λ x. IsLeftOf x s.fresh.items c) (sym is) (subst (λ x. IsLeftOf kept x c) (sym are) now))) (keeps (drop t past) s c) left));
    })
  where
    was : (t : ℕ) (c : List ℕ) → HadBeen (drop t past) c ⊎ IsLeftOf s.kept.items s.fresh.items c → Since past kept fresh t c
    was t c (inl had) = inr had
    was t c (inr new) = inl (subst (λ x. IsLeftOf x fresh c) is (subst (λ x. IsLeftOf s.kept.items x c) are new))

-- where nothing was done
pub none_torn : (size : ℕ) (bytes : List ℕ) (P : List ℕ → Type 0) → Follows (Torn size bytes) P P
none_torn size bytes P c left = (c, left, ([], sym (append-nil c), tt))

pub none_cut : (size : ℕ) (P : List ℕ → Type 0) → Follows (Cut size) P P
none_cut size P c left = (c, left, inl refl)

-- a file that is cut at once
pub cut_done : (kept fresh : List ℕ) (size : ℕ) → size ≤ length (kept ++ fresh) → Follows (Cut size) (IsLeftOf kept fresh) (IsLeftOf (take size (kept ++ fresh)) [])
cut_done kept fresh size le c left =
    let is : c ≡ take size (kept ++ fresh) = all_kept (take size (kept ++ fresh)) c left in
    let n : length c ≡ size = ap length is ∙ length-take-le size (kept ++ fresh) le in (
      kept ++ fresh,
      whole_left kept fresh,
      inr (omega (arith, n), ap (λ k. take k (kept ++ fresh)) n ∙ sym is),
    )

pub sync_done : (kept fresh c : List ℕ) → IsLeftOf (kept ++ fresh) [] c → IsLeftOf kept fresh c
sync_done kept fresh c left = subst (IsLeftOf kept fresh) (sym (all_kept (kept ++ fresh) c left)) (whole_left kept fresh)
