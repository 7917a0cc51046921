-- `nothing` puts null beside the handle to memory, and owns nothing at it.
use mathlib.Core.Path.{refl, sym, subst}
use mathlib.Core.Bool.{false}
use mathlib.Core.List.{List, [], ◌∷◌, ◌++◌}
use lib.Dec.{lit<}
use seplogic.Ra.Ura.{Ura}
use mir.Val.{Val, vint, vstruct, vcons, vnil, has_ty}
use mir.Syntax.{w64}
use base.Logic.{SProp, ent, emp, id⊢}
use base.Fml.{ftrue, fsep}
use prog.Memory.{Memory}
use prog.Routine.{Routine}
use prog.Wp.{WpFn, Tables}
use types.Logic.{Logic}
use contract.Monad.{Fun}
use contract.Running.{tables, tables_of}
use types.Kit.{Item, ‵, raw, ◌⊛◌, ◌$◌, ◌∵◌, !, qed, by, move, drop, use1, join, split, fsplit, fjoin, fpack, feq_i, suffices, done}
use types.Part.{agg}
use types.Run.{no_more, and_then, lit, returns, enter}
use types.ByLocal.{alloc_all, pass_all, free_all, look_at, get, sets}
use denote.Exit.{yes}
use denote.RattleType.{RattleType, Valss}
use denote.Builtin.{RawPtr}
use denote.RawPtr.{null_ptr}
use denote.Signature.{plain}
use denote.Steps.{nothing}
use denote.Struct.Struct.{within}
use denote.Struct.Owning.{shape}
use denote.Triple.Walked.{says, Stays, Walks, stay_dropped, walk_of, ends_at, Goes-dropped}
use Rattle.std.specs.Prelude.{None}
use Rattle.std_alloc.proofs.ResultValues.{and_tt}
use Rattle.core.proofs.alloc.Calls.{α, handle_tells}
use Rattle.path_c.proofs.AsBox.{E}
use Rattle.path_c.proofs.Taking.{met}
use Rattle.path_c.specs.contracts.handle.Held as Held
use Rattle.path_c.specs.contracts.handle.Held.nothing as F
use Rattle.path_c.specs.contracts.handle.Held.nothing.Key.{name as #self}
use Rattle.path_c.proofs.handle.Held.nothing.Statement as stated
use Rattle.path_c.proofs.handle.Held.nothing.Code as code

abbrev Z : RattleType
Z = E.al.row

abbrev stayed : Stays (F.ended).signature.params (F.ended).kept
stayed = (stay_dropped (plain (λ _. Z)) yes, tt)

abbrev made : Z.Denot → Held.the_row.Denot
made a = record { at = null_ptr; alloc = a; full = false; service = record { account = record { declaration = record { resources = []; operations = []; paths = [] }; room = 0; opened = None; openings = []; earlier = []; journal = []; failures = [] }; keeps = false } }

abbrev word : Val → Val
word h = vstruct (vcons (vint w64 0) (vcons h vnil))

module _ {M : Type 1} {𝓤 : Ura M} (𝓛 : Logic 𝓤) (at_mem : Memory → SProp 𝓤) (run : Routine → Fun 𝓤) (𝓣 : Tables 𝓤 𝓛.H) where
  walk : Walks 𝓛 F.ended stayed (WpFn 𝓤 𝓛.H 𝓣.C 𝓣.Λ code.function) (F.clauses 𝓛 at_mem run)
  walk z =
      let Post = (walk_of 𝓛 F.ended stayed (F.clauses 𝓛 at_mem run)).post z in
      let a = z.0.3.0 in
      qed 𝓛 ((‵ ftrue ⊛ ‵ (fsep (Z.own_val a z.0.4.0) ftrue)) ∷ raw (emp 𝓤) ∷ []) ∵ split ! $ drop ! $ fsplit ! $
      handle_tells E.al ! a z.0.4.0 (λ h ws fa. move ! (1 ∷ 2 ∷ []) $ drop ! $ drop ! $
      let Γ : List (Item 𝓤) = ‵ (Z.own_val a (h ∷ [])) ∷ [] in
      by ! (subst (λ (us : List Val). ent 𝓤 (types.Kit.⋆ 𝓛 Γ) (WpFn 𝓤 𝓛.H 𝓣.C 𝓣.Λ code.function (us ++ []) Post)) (sym ws)
      (qed 𝓛 Γ ∵ enter ! 𝓣.C 𝓣.Λ code.function (h ∷ []) _ $ alloc_all ! (λ ls. pass_all ! refl (fa, tt) $
      sets ! (agg ! (and_then ! (lit ! tt) (and_then ! (get ! refl) (no_more !)))) refl (and_tt (has_ty (α E.al) h) fa.0, (record { fits = lit< tt }, (fa.1, tt))) $ returns ! (look_at ! 0 refl) $ free_all ! refl $
      nothing ! $ move ! (1 ∷ 0 ∷ []) $ fjoin ! $ feq_i ! (List Val) (vint w64 0 ∷ []) (vint w64 0 ∷ []) refl $ fjoin ! $ feq_i ! (List Val) (word h ∷ []) (word h ∷ []) refl $ fjoin ! $
      fpack ! (Valss (RawPtr ∷ Z ∷ [])) (within (shape Held.the_type) (null_ptr, (((a.memory.seal, tt), tt), tt)) (word h ∷ [])) (vint w64 0 ∷ [], (h ∷ [], tt)) $ nothing ! $ move ! (1 ∷ 0 ∷ []) $ fjoin ! $
      use1 𝓛 (‵ (Held.the_row.own_val (made a) (word h ∷ []))) (id⊢ 𝓤 _) $
      suffices ! _ (ends_at 𝓛 F.ended stayed (F.clauses 𝓛 at_mem run) z (word h) (made a) (tt, tt) (tt, tt)) $ says ! refl $
      nothing ! $ nothing ! $ fjoin ! $ join ! $ nothing ! $ join ! $ done !))))

pub nothing_spec : {M : Type 1} → stated.statement M
unfolding tables_of
nothing_spec 𝓤 𝓛 𝓜 𝓡 wired =
    let 𝓣 : Tables 𝓤 𝓛.H = tables_of 𝓤 𝓛.H 𝓜 (tables 𝓤 𝓛.H 𝓜 𝓡 𝓡.env) in
    met 𝓛 𝓣 F.ended stayed (Goes-dropped 𝓛 0 (plain (λ _. Z)) yes (λ κs x f. refl), tt) (F.clauses 𝓛 𝓜.mem 𝓡.returns) #self code.function (code.unfolded 𝓤 𝓛.H 𝓜 𝓡 wired) (walk 𝓛 𝓜.mem 𝓡.returns 𝓣)
