-- The fields of a `Memory`, units that are cut in two or lent as room for a type, and what `take` gave. Assumes `Logic`.
use Rattle.std.proofs.Common.{◌≡◌, ℕ, zero, suc, ◌+◌, ◌*◌, ◌^◌, ◌≤◌, ◌<◌, List, [], ◌∷◌, ◌++◌, IfSome, None, Some, refl, sym, ap, subst, ◌∙◌, arith, w64}
use seplogic.Ra.Ura.{Ura}
use mir.Syntax.{Ty}
use mir.Val.{Val, vcons, vnil, of_list}
use base.Logic.{SProp, ent, sep, wand, via, fst∗}
use prog.Memory.{size, capped}
use prog.Capped.{capped_is, capped_small}
use types.Logic.{Logic}
use types.Kit.{Item, Goal, Seq, Step, ‵, ◌$◌, move, drop, fsplit, fpick, feq_l}
use types.Match.{live}
use denote.RattleType.{RattleType}
use denote.Builtin.{usize}
use denote.Laws.{Is, Spells, shows}
use denote.Plain.{uint_vals, uint_Tells}
use denote.RawPtr.{Ptr, RawPtr, rawptr_vals, rawptr_Tells, room_for}
use denote.RawPtr.Room.{past, room_cut}
use denote.Steps.{only, owned, facts}
use denote.Struct.Struct.{Shape, Struct, Struct-Tells, Struct-Makes, machine}
use Rattle.core.proofs.slots.Carves.{carve}
use Rattle.core.specs.contracts.option.Option as option
use Rattle.page_arena.specs.Units.{a_unit, Units}
use Rattle.page_arena.specs.contracts.memory.Memory as memory

-- ---- the fields, a pointer and a word: what is owned of a struct does not read its name
abbrev pub Piece : RattleType
Piece = memory.the_row

abbrev shape : Shape
shape = record { name = []; args = []; types = []; fields = RawPtr ∷ usize ∷ [] }

abbrev spelled : Spells shape.fields
spelled = (rawptr_vals, (uint_vals w64, tt))

abbrev pub Pair : RattleType
Pair = Struct shape

abbrev pub piece_val : Ptr → ℕ → Val
piece_val p n = machine shape spelled (p, (n, tt))

pub spells : (p : Ptr) (n : ℕ) (vs : List Val) → Is Pair (p, (n, tt)) vs → (vs ≡ piece_val p n ∷ []) × (n < 2 ^ 64)
spells p n vs is = (Struct-Tells shape spelled (rawptr_Tells, (uint_Tells w64, tt)) (p, (n, tt)) vs is, is.1.1.1.0.1)

-- ---- units
far : (j o : ℕ) → o + j * 16 ≡ past a_unit j o
far zero o = omega arith
far (suc j) o = (let next : o + suc j * 16 ≡ o + 16 + j * 16 = omega arith in next) ∙ far j (o + 16)

module _ {M : Type 1} {𝓤 : Ura M} (𝓛 : Logic 𝓤) (b o : ℕ) where
  abbrev units : ℕ → ℕ → SProp 𝓤
  units k at = 𝓛.H.room (Units k) b at

  pub cut : (j k : ℕ) → ent 𝓤 (units (j + k) o) (sep 𝓤 (units j o) (units k (o + j * 16)))
  cut j k = subst (λ (at : ℕ). ent 𝓤 (units (j + k) o) (sep 𝓤 (units j o) (units k at))) (sym (far j o)) (room_cut 𝓛 a_unit j k b o)

  -- n bytes were asked for a τ; the way back to units is forgotten
  pub lend : (τ : Ty) (n k : ℕ) → capped (size τ) ≡ n → n < 2 ^ 63 → n ≤ k * 16 → ent 𝓤 (units k o) (𝓛.H.room τ b o)
  lend τ n k asked small fits =
      let short : size τ < 2 ^ 63 = capped_small (size τ) (omega arith) in
      let same : size τ ≡ n = sym (capped_is (size τ) (omega arith)) ∙ asked in
      via 𝓤 (sep 𝓤 (𝓛.H.room τ b o) (wand 𝓤 (𝓛.H.room τ b o) (units k o))) (carve 𝓛 (Units k) τ k b o refl refl (omega arith)) (fst∗ 𝓤 (𝓛.H.room τ b o) (wand 𝓤 (𝓛.H.room τ b o) (units k o)))

-- ---- steps of a walk
module _ {M : Type 1} {𝓤 : Ura M} {𝓛 : Logic 𝓤} {K : Type 0} {Γ : List (Item 𝓤)} {G : Goal 𝓤 𝓛.H} where
  -- fields are had for nothing
  pub fields : K → (p : Ptr) (n : ℕ) → n < 2 ^ 64 → Step K 𝓛 (‵ (Pair.own_val (p, (n, tt)) (piece_val p n ∷ [])) ∷ Γ) G Γ G
  fields t p n fits = owned t Pair (Is Pair) (Struct-Makes 𝓛 shape ((λ x vs. tt), ((λ x vs. (tt, tt)), tt))) (p, (n, tt)) (piece_val p n ∷ []) ((rawptr_vals p, (uint_vals w64 n, tt)), (refl, (refl, ((refl, fits), tt))))

  -- there is a piece, of which P holds, or none
  pub cases : K → (P : Piece.Denot → Type 0) (x : (option.the_row Piece).Denot) (v : Val) → IfSome x P → (v ≡ live 0 vnil → Seq K 𝓛 Γ G)
      → ((m : Piece.Denot) → P m → m.size < 2 ^ 64 → v ≡ live 1 (vcons (piece_val m.ptr m.size) vnil) → Seq K 𝓛 (‵ (room_for (Units m.units) m.ptr) ∷ Γ) G)
      → Seq K 𝓛 (‵ ((option.the_row Piece).own_val x (v ∷ [])) ∷ Γ) G
  cases t P None v told none piece =
      fpick t (λ us. fsplit t $ feq_l t (λ is. fpick t (λ vss. fsplit t $ feq_l t (λ at. drop t $ none (ap only is ∙ ap (λ (ws : List Val). live 0 (of_list ws)) at)))))
  cases t P (Some m) v told none piece =
      fpick t (λ us. fsplit t $ feq_l t (λ is. fpick t (λ vss. fsplit t $ feq_l t (λ at. fsplit t $ move t (1 ∷ []) $ drop t $ fsplit t $ facts t Pair (Is Pair) (shows 𝓛 Pair) (m.ptr, (m.size, tt)) vss.0 (λ told'.
      let spelt = spells m.ptr m.size vss.0 told' in
      piece m told spelt.1 (ap only is ∙ ap (λ (ws : List Val). live 1 (of_list ws)) (at ∙ ap (λ (ws : List Val). ws ++ []) spelt.0)))))))
