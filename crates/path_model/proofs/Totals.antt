-- Sums over labels of what their events count.
use Rattle.std.proofs.Common.{◌≡◌, ◌+◌, ℕ, List, [], ◌∷◌, refl, sym, ◌∙◌, arith}
use Rattle.path_model.specs.declared.history.Event.{Event}
use Rattle.path_model.specs.Trees.{Tree, op, seq, alt, burst, NoBraces}
use Rattle.path_model.specs.Labellings.{events_of, carrying}
use Rattle.path_model.proofs.Counts.{entry, exit, ins, outs, inn, out}
use Rattle.path_model.proofs.Sums.{total, sum_over, labels_of, total_labels}

pub total_same : (f g : Event → ℕ) (w : List Event) → ((e : Event) → f e ≡ g e) → total f w ≡ total g w
total_same f g [] h = refl
total_same f g (e ∷ w) h = let a = h e in let b = total_same f g w h in omega (arith, a, b)

pub total_add : (f g h : Event → ℕ) (w : List Event) → ((e : Event) → h e ≡ f e + g e) → total h w ≡ total f w + total g w
total_add f g h [] e = refl
total_add f g h (d ∷ w) e = let a = e d in let b = total_add f g h w e in omega (arith, a, b)

pub ins_total : (s : Tree) (w : List Event) → ins s w ≡ total (λ e. entry s e) w
ins_total s [] = refl
ins_total s (e ∷ w) = let a = ins_total s w in omega (arith, a)

pub outs_total : (s : Tree) (w : List Event) → outs s w ≡ total (λ e. exit s e) w
outs_total s [] = refl
outs_total s (e ∷ w) = let a = outs_total s w in omega (arith, a)

pub inn_total : (s : Tree) → NoBraces s → (w : List Event) → inn s w ≡ total (λ e. entry s e) w
inn_total (op b) f w = ins_total (op b) w
inn_total (seq s t) f w = inn_total s f.0 w
inn_total (alt s t) f w = omega (arith, inn_total s f.0 w, inn_total t f.1 w, total_add (λ e. entry s e) (λ e. entry t e) (λ e. entry (alt s t) e) w (λ e. refl))
inn_total (burst bd s) f w = absurd f

pub out_total : (s : Tree) → NoBraces s → (w : List Event) → out s w ≡ total (λ e. exit s e) w
out_total (op b) f w = outs_total (op b) w
out_total (seq s t) f w = out_total t f.1 w
out_total (alt s t) f w = omega (arith, out_total s f.0 w, out_total t f.1 w, total_add (λ e. exit s e) (λ e. exit t e) (λ e. exit (alt s t) e) w (λ e. refl))
out_total (burst bd s) f w = absurd f

pub sum_ext : (g h : ℕ → ℕ) (ks : List ℕ) → ((k : ℕ) → g k ≡ h k) → sum_over g ks ≡ sum_over h ks
sum_ext g h [] e = refl
sum_ext g h (k ∷ ks) e = let a = e k in let b = sum_ext g h ks e in omega (arith, a, b)

pub inn_sum : (s : Tree) → NoBraces s → (ls : List (ℕ × Event)) → inn s (events_of ls) ≡ sum_over (λ k. inn s (carrying k ls)) (labels_of ls)
inn_sum s f ls = inn_total s f (events_of ls) ∙ total_labels (λ e. entry s e) ls ∙ sum_ext _ _ (labels_of ls) (λ k. sym (inn_total s f (carrying k ls)))

pub out_sum : (s : Tree) → NoBraces s → (ls : List (ℕ × Event)) → out s (events_of ls) ≡ sum_over (λ k. out s (carrying k ls)) (labels_of ls)
out_sum s f ls = out_total s f (events_of ls) ∙ total_labels (λ e. exit s e) ls ∙ sum_ext _ _ (labels_of ls) (λ k. sym (out_total s f (carrying k ls)))
