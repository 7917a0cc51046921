-- The substitution from the root downwards gives the terms that are read upwards.
use Rattle.std.proofs.Common.{◌≡◌, ◌⊎◌, ◌+◌, ℕ, List, [], ◌∷◌, ◌++◌, refl, sym, ap, ◌∙◌, subst, inl, inr}
use Rattle.std.proofs.lemmas.List.{append-nil}
use Rattle.path_model.specs.declared.ids.OpId.{OpId}
use Rattle.path_model.specs.Trees.{Tree, op, seq, alt, burst, Names, NoRepeats, NoBraces, NoNesting, WellFormed}
use Rattle.path_model.specs.Machine.{semicolons, braces, Above, LeftOf, RightOf, Within, above, Term, Plain, through, waits_on, signals, prologue_below, epilogue_below, prologue, epilogue}
use Rattle.path_model.specs.Downward.{within, substituted, EachRow, SubstitutionReadsUpwards}
use Rattle.path_model.proofs.Path.{flat_fits}
use Rattle.path_model.proofs.Upward.{path_left, path_right, path_one, path_other, path_in, Clear}
use Rattle.path_model.proofs.Finishes.{ClearBack}

each_append : (P : OpId × Term × Term → Type 0) (xs ys : List (OpId × Term × Term)) → EachRow P xs → EachRow P ys → EachRow P (xs ++ ys)
each_append P [] ys a b = b
each_append P (x ∷ xs) ys a b = (a.0, each_append P xs ys a.1 b)

each_map : (P Q : OpId × Term × Term → Type 0) (xs : List (OpId × Term × Term)) → ((x : OpId × Term × Term) → P x → Q x) → EachRow P xs → EachRow Q xs
each_map P Q [] f a = tt
each_map P Q (x ∷ xs) f a = (f x a.0, each_map P Q xs f a.1)

-- the row is of an operation of the tree, with its terms
abbrev pub Right : Tree → ℕ → ℕ → List Above → OpId × Term × Term → Type 0
Right s n m up x = Names s x.0 × (x.1 ≡ prologue_below (above s n m x.0 ++ up)) × (x.2 ≡ epilogue_below (above s n m x.0 ++ up))

pub rows_right : (s : Tree) → NoRepeats s → NoNesting s → (n m : ℕ) (up : List Above) → NoBraces s ⊎ Clear up → NoBraces s ⊎ ClearBack up → EachRow (Right s n m up) (substituted s n m (prologue_below up) (epilogue_below up))
rows_right (op b) nr nn n m up c d = ((refl, refl, refl), tt)
rows_right (seq s t) nr nn n m up c d = each_append (Right (seq s t) n m up) _ _ (each_map (Right s n m ups) (Right (seq s t) n m up) _ one (rows_right s nr.0 nn.0 n m ups c' (inr refl))) (each_map (Right t n' m' upt) (Right (seq s t) n m up) _ two (rows_right t nr.1 nn.1 n' m' upt (inr refl) d'))
  where
    ups : List Above
    ups = LeftOf (n + semicolons s) ∷ up

    upt : List Above
    upt = RightOf (n + semicolons s) ∷ up

    n' : ℕ
    n' = n + semicolons s + 1

    m' : ℕ
    m' = m + braces s

    c' : NoBraces s ⊎ Clear up
    c' = elim c [ inl f ↦ inl f.0 | inr g ↦ inr g ]

    d' : NoBraces t ⊎ ClearBack up
    d' = elim d [ inl f ↦ inl f.1 | inr g ↦ inr g ]

    one : (x : OpId × Term × Term) → Right s n m ups x → Right (seq s t) n m up x
    one x k = let e = path_left s t n m x.0 up k.0 in (inl k.0, k.1 ∙ sym (ap prologue_below e), k.2 ∙ sym (ap epilogue_below e))

    two : (x : OpId × Term × Term) → Right t n' m' upt x → Right (seq s t) n m up x
    two x k = let e = path_right s t n m x.0 up (λ y. nr.2 x.0 y k.0) in (inr k.0, k.1 ∙ sym (ap prologue_below e), k.2 ∙ sym (ap epilogue_below e))
rows_right (alt s t) nr nn n m up c d = each_append (Right (alt s t) n m up) _ _ (each_map (Right s n m up) (Right (alt s t) n m up) _ one (rows_right s nr.0 nn.0 n m up c' d')) (each_map (Right t n' m' up) (Right (alt s t) n m up) _ two (rows_right t nr.1 nn.1 n' m' up c'' d''))
  where
    n' : ℕ
    n' = n + semicolons s

    m' : ℕ
    m' = m + braces s

    c' : NoBraces s ⊎ Clear up
    c' = elim c [ inl f ↦ inl f.0 | inr g ↦ inr g ]

    c'' : NoBraces t ⊎ Clear up
    c'' = elim c [ inl f ↦ inl f.1 | inr g ↦ inr g ]

    d' : NoBraces s ⊎ ClearBack up
    d' = elim d [ inl f ↦ inl f.0 | inr g ↦ inr g ]

    d'' : NoBraces t ⊎ ClearBack up
    d'' = elim d [ inl f ↦ inl f.1 | inr g ↦ inr g ]

    one : (x : OpId × Term × Term) → Right s n m up x → Right (alt s t) n m up x
    one x k = let e = path_one s t n m x.0 up k.0 in (inl k.0, k.1 ∙ sym (ap prologue_below e), k.2 ∙ sym (ap epilogue_below e))

    two : (x : OpId × Term × Term) → Right t n' m' up x → Right (alt s t) n m up x
    two x k = let e = path_other s t n m x.0 up (λ y. nr.2 x.0 y k.0) in (inr k.0, k.1 ∙ sym (ap prologue_below e), k.2 ∙ sym (ap epilogue_below e))
rows_right (burst bd s) nr nn n m up (inl f) d = absurd f
rows_right (burst bd s) nr nn n m up (inr c) (inl f) = absurd f
rows_right (burst bd s) nr nn n m up (inr c) (inr d) = subst (λ L. EachRow (Right (burst bd s) n m up) (substituted s n (m + 1) L (within bd m (epilogue_below up)))) (sym (ap (within bd m) c)) (subst (λ R. EachRow (Right (burst bd s) n m up) (substituted s n (m + 1) (through bd m (waits_on up)) R)) (sym (ap (within bd m) d)) (rows (rows_right s nr (flat_fits s nn.0) n (m + 1) (Within bd m ∷ up) (inl nn.0) (inl nn.0))))
  where
    one : (x : OpId × Term × Term) → Right s n (m + 1) (Within bd m ∷ up) x → Right (burst bd s) n m up x
    one x k = let e = path_in bd s n m x.0 up in (k.0, k.1 ∙ sym (ap prologue_below e), k.2 ∙ sym (ap epilogue_below e))

    rows : EachRow (Right s n (m + 1) (Within bd m ∷ up)) (substituted s n (m + 1) (through bd m (waits_on up)) (through bd m (signals up))) → EachRow (Right (burst bd s) n m up) (substituted s n (m + 1) (through bd m (waits_on up)) (through bd m (signals up)))
    rows r = each_map (Right s n (m + 1) (Within bd m ∷ up)) (Right (burst bd s) n m up) _ one r

-- the substitution at the root
pub each_row_right : (s : Tree) → WellFormed s → EachRow (λ x. Names s x.0 × (x.1 ≡ prologue s x.0) × (x.2 ≡ epilogue s x.0)) (substituted s 1 0 (Plain 0) (Plain 0))
each_row_right s wf = each_map (Right s 1 0 []) _ _ (λ x k. (k.0, k.1 ∙ ap prologue_below (append-nil (above s 1 0 x.0)), k.2 ∙ ap epilogue_below (append-nil (above s 1 0 x.0)))) (rows_right s wf.names_once wf.not_nested 1 0 [] (inr refl) (inr refl))

-- without the names
pub substitution_reads_upwards : SubstitutionReadsUpwards
substitution_reads_upwards s wf = each_map _ _ _ (λ x k. (k.1, k.2)) (each_row_right s wf)
