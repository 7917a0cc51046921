-- Of two lines that are as long, a crash while the one is written may leave the other.
use Rattle.std.proofs.Common.{◌≡◌, ◌≢◌, ℕ, ◌+◌, List, [], ◌∷◌, ◌++◌, length, refl, sym, ap, ◌∙◌, arith, length-append}
use Rattle.std.proofs.lemmas.List.{take_at, take_all, drop_all, append_cancel_left}
use Rattle.path_model.specs.declared.journal.Line.{Line}
use Rattle.path_store.specs.AnyBytes.{LeavesAny}

first_same : (x y : Line) → x ∷ [] ≡ y ∷ [] → x ≡ y
first_same x y e = cc

pub other_left : (read : List ℕ → List Line) (file this other : List ℕ) (ls : List Line) (line another : Line) → length this ≡ length other → read (file ++ this) ≡ ls ++ line ∷ [] → read (file ++ other) ≡ ls ++ another ∷ [] → line ≢ another
    → (left : List ℕ) × LeavesAny (length file) (length this) file left × (read left ≢ ls) × (read left ≢ ls ++ line ∷ [])
other_left read file this other ls line another same is found apart =
    let size = length-append file other in (
      file ++ other,
      record {
        before = take_at file other (length file) refl ∙ sym (take_all (length file) file (omega arith));
        after = drop_all (length file + length this) (file ++ other) (omega (arith, size, same)) ∙ sym (drop_all (length file + length this) file (omega arith));
        no_shorter = omega (arith, size);
        no_longer = omega (arith, size, same);
      },
      (λ e. (let n = ap length (sym found ∙ e) in let m = length-append ls (another ∷ []) in omega (arith, n, m))),
      (λ e. apart (sym (first_same another line (append_cancel_left ls (another ∷ []) (line ∷ []) (sym found ∙ e))))),
    )
