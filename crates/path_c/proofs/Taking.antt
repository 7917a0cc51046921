-- A function that takes its one argument whole.
use mathlib.Core.Path.{refl, sym, subst}
use mathlib.Core.List.{List, [], ◌∷◌}
use Prim.Native.Nat.{ℕ}
use seplogic.Ra.Ura.{Ura}
use mir.Syntax.{Fn}
use mir.Val.{Val}
use base.Logic.{SProp, ent}
use prog.Routine.{Callee}
use prog.Wp.{WpFn, Tables, Closed}
use types.Logic.{Logic}
use sound.WpLaws.{WpFn-mono}
use types.Kit.{⋆, ‵, ◌$◌, ◌∵◌, !, qed, by}
use denote.Triple.Clauses.{Clauses, Ended, closing}
use denote.Triple.Spec.{triple_of}
use denote.Triple.Statement.{Triple}
use denote.Triple.Table.{entered}
use denote.Triple.Walked.{AllGo, Stays, Walks, walk_Meets}
use Rattle.core.proofs.alloc.Calls.{Fits}
use Rattle.std_alloc.proofs.BoxSteps.Form.{D, B, word}
use Rattle.std_alloc.proofs.BoxSteps.Steps.{box_out, box_in}
use Rattle.path_c.proofs.AsBox.{E}

module _ {M : Type 1} {𝓤 : Ura M} (𝓛 : Logic 𝓤) where
  -- a walk through its body shows its contract
  pub met : (𝓣 : Tables 𝓤 𝓛.H) (T : Ended) (hs : Stays T.signature.params T.kept) → AllGo 𝓛 T.signature.lifetimes T.signature.params T.kept hs
      → (c : Clauses 𝓤 T) (name : Callee) (fn : Fn) → Closed 𝓤 𝓛.H 𝓣.C 𝓣.Λ name fn → Walks 𝓛 T hs (WpFn 𝓤 𝓛.H 𝓣.C 𝓣.Λ fn) c
      → Triple 𝓤 (𝓣.C name) (triple_of 𝓛 T.signature (closing 𝓛 T c))
  met 𝓣 T hs goes c name fn closed walk =
      entered 𝓤 𝓛.H (triple_of 𝓛 T.signature (closing 𝓛 T c)) 𝓣.C 𝓣.Λ name fn closed
      (walk_Meets 𝓛 T hs goes c (WpFn 𝓤 𝓛.H 𝓣.C 𝓣.Λ fn) (WpFn-mono 𝓤 𝓛.H 𝓛.laws 𝓣 fn) walk)

  -- what owns what a box owns is one word, that of the box
  pub as_word : (v : D E) (us : List Val) (G : List Val → SProp 𝓤)
      → ((hv : Val) (b o : ℕ) → Fits E.al hv → ent 𝓤 (⋆ 𝓛 (‵ ((B E).own_val v (word E hv b o ∷ [])) ∷ [])) (G (word E hv b o ∷ [])))
      → ent 𝓤 (⋆ 𝓛 (‵ ((B E).own_val v us) ∷ [])) (G us)
  as_word v us G k =
      qed 𝓛 (‵ ((B E).own_val v us) ∷ []) ∵ box_out E ! v us (λ b o hv e ws fa. box_in E ! v b o v.value e refl $
      by ! (subst (λ (xs : List Val). ent 𝓤 (⋆ 𝓛 (‵ ((B E).own_val v (word E hv b o ∷ [])) ∷ [])) (G xs)) (sym ws) (k hv b o fa)))
