-- `allocate` hands out what `take` gave as room for the type that was asked. Assumes `Logic`.
use Rattle.std.proofs.Common.{◌≡◌, ℕ, ◌≤◌, ◌^◌, ◌<◌, true, false, List, [], ◌∷◌, ◌++◌, IfSome, Ok, Err, refl, ap, subst, ◌∙◌, lit<, w64}
use mir.Syntax.{Ty, Fn}
use mir.Val.{Val, vint, vptr, vcons, vnil}
use base.Logic.{SProp, ent, never, id⊢}
use base.Fml.{froom}
use prog.Memory.{size, align, capped}
use prog.Wp.{Env, Wp, WpFn, after_seq}
use contract.Monad.{fact}
use contract.Running.{tables}
use types.Kit.{‵, raw, ◌⊛◌, some, later, prop, at_ret, Post as Post_of, any_q, post, ◌$◌, ◌∵◌, !, qed, by, move, drop, use0, use1, split, join, pick, regoal, fsplit, fjoin, await}
use types.Part.{whole, sub, agg}
use types.Match.{live, vrt, in_variant}
use types.Run.{stop, fld, lit, of_opd, no_more, and_then, first, switches_on, exec, returns, enter}
use types.ByLocal.{alloc_all, pass_all, free_all, look_at, get, get_in, get_tag, sets, sets_last, lands_as, env}
use denote.RattleType.{RattleType, owns}
use denote.Builtin.{usize, RefOf}
use denote.RawPtr.{Ptr, block_ptr, in_a_block, room_for}
use denote.Signature.{Slot, plain, types_at}
use denote.Steps.{nothing, heard}
use denote.Triple.Call.{calls_from}
use denote.Triple.Clauses.{Lasts, lasts}
use denote.Triple.Entry.{alive}
use denote.Triple.Spec.{triple_of}
use denote.Triple.Walked.{Stays, stay_dropped, walk_of, Goes-dropped}
use Rattle.core.proofs.alloc.Calls.{Answer, answer_val, Answer-typed, Answer-Ok, Answer-err}
use Rattle.core.proofs.alloc.Shapes.{after, head, arm_body}
use Rattle.core.proofs.atomic.Steps.{fm}
use Rattle.std.proofs.raw_atomic.Walks.{proved_at, leaves}
use Rattle.page_arena.proofs.Pieces.{Piece, piece_val, lend, cases}
use Rattle.page_arena.proofs.arena.Arena.take.Met.{met as takes}
use Rattle.page_arena.specs.Units.{Units}
use Rattle.core.specs.contracts.option.Option as option
use Rattle.page_arena.specs.contracts.arena.Arena as arena
use Rattle.page_arena.specs.contracts.arena.Arena.take as callee
use Rattle.page_arena.specs.contracts.arena.Arena.take.Key as take_key
use Rattle.page_arena.specs.contracts.arena.ArenaAllocator.allocate.{ended, clauses}
use Rattle.page_arena.specs.contracts.arena.ArenaAllocator.allocate.Key.{name as #self}
use Rattle.page_arena.proofs.arena.ArenaAllocator.allocate.Statement.{statement}
use Rattle.page_arena.proofs.arena.ArenaAllocator.allocate.Code as code

-- what `take` gives
abbrev Answered : RattleType
Answered = option.the_row Piece

pub allocate_spec : {M : Type 1} → statement M
allocate_spec 𝓤 𝓛 𝓜 𝓡 wired =
    let c = clauses 𝓛 𝓜.mem 𝓡.returns in
    let fn : Fn = code.function in
    let words : Slot 1 = plain (λ _. usize) in
    let self : Slot 1 = RefOf (0 ∷ []) tt (plain (λ _. arena.the_row)) (λ _. tt) in
    let stays : Stays ended.signature.params ended.kept = (stay_dropped self ended.kept.0, (stay_dropped words ended.kept.1.0, (stay_dropped words ended.kept.1.1.0, tt))) in
    let C = (tables 𝓤 𝓛.H 𝓜 𝓡 𝓡.env).C in
    let Λ = (tables 𝓤 𝓛.H 𝓜 𝓡 𝓡.env).Λ in
    proved_at 𝓛 ended stays c 𝓜 𝓡 (Goes-dropped 𝓛 1 self ended.kept.0 (λ κs x f. refl), (Goes-dropped 𝓛 1 words ended.kept.1.0 (λ κs x f. refl), (Goes-dropped 𝓛 1 words ended.kept.1.1.0 (λ κs x f. refl), tt)))
    #self fn (code.unfolded 𝓤 𝓛.H 𝓜 𝓡 wired) (λ z are.
    let Post : Val → SProp 𝓤 = (walk_of 𝓛 ended stays c).post z in
    let a = z.0.3 in
    let vss = z.0.4 in
    let τ : Ty = z.1 in
    let n = a.1.0 in
    let al = a.1.1.0 in
    let k = triple_of 𝓛 callee.signature (callee.spec 𝓛 𝓜.mem 𝓡.returns) in
    let vs : List Val = vptr a.0.ref_ptr.0 a.0.ref_ptr.1 ∷ vint w64 n ∷ [] in
    let y : k.Ghost = ((z.0.0, z.0.1, z.0.2, (a.0, (n, tt)), (vss.0, (vss.1.0, tt))), tt) in
    let told : k.args y ≡ vs = λ i. are.0.0 i ++ (are.1.0.0 i ++ []) in
    let Asked : Type 0 = (capped (size τ) ≡ n) × (capped (align τ) ≡ al) in
    let Told : Piece.Denot → Type 0 = λ m. (n ≤ m.size) × (n < 2 ^ 63) in
    let me : Val = vptr a.0.ref_ptr.0 a.0.ref_ptr.1 in
    qed 𝓛 ((raw (alive 𝓛 ended.signature z.0.0 z.0.1) ⊛ ‵ (owns (types_at ended.signature.params z.0.0) a vss)) ∷ raw (fact 𝓤 Asked) ∷ []) ∵ move ! (1 ∷ []) $ heard ! Asked (λ asked. split ! $
    -- `take` is lent the arena and handed the size
    move ! (1 ∷ []) $ fsplit ! $ move ! (1 ∷ []) $ fsplit ! $ move ! (1 ∷ []) $ drop ! $ nothing ! $ move ! (1 ∷ 0 ∷ []) $ fjoin ! $ move ! (1 ∷ 0 ∷ []) $ fjoin ! $
    move ! (1 ∷ 0 ∷ []) $ join ! $ nothing ! $ move ! (1 ∷ 0 ∷ []) $ join ! $ use1 𝓛 (raw (k.pre y)) (id⊢ 𝓤 _) $
    regoal ! (λ (us : List Val). prop (WpFn 𝓤 𝓛.H C Λ fn us Post)) (λ i. are.0.0 i ++ (are.1.0.0 i ++ (are.1.1.0.0 i ++ []))) refl $
    enter ! C Λ fn (me ∷ vint w64 n ∷ vint w64 al ∷ []) Post $
    alloc_all ! (λ l. pass_all ! refl ((tt, tt), ((tt, record { fits = are.1.0.1 }), ((tt, record { fits = are.1.1.0.1 }), tt))) $ let En : Env 𝓤 𝓛.H = env fn.locals l in
    -- what runs behind an arm
    let end = post 𝓤 𝓛.H (at_ret En Post) in
    let behind : Post_of 𝓤 𝓛.H = any_q (after_seq 𝓤 𝓛.H (Wp 𝓤 𝓛.H C Λ En (after 2 fn.body) end) end) in
    calls_from ! (fm 𝓛 𝓜 𝓡) (raw (k.pre y)) vs (k.post y) (subst (λ (us : List Val). ent 𝓤 (k.pre y) (C take_key.name us (k.post y))) told (takes 𝓤 𝓛 𝓜 𝓡 (code.calls-page_arena::arena::Arena::take 𝓡.env wired) y))
    (and_then ! (get ! refl) (and_then ! (get ! refl) (no_more !))) (λ v.
    use1 𝓛 (later (some (λ (x : Answered.Denot). (raw (alive 𝓛 ended.signature z.0.0 z.0.1) ⊛ ‵ (Answered.own_val x (v ∷ []))) ⊛ some (λ (ls : Lasts callee.ended z.0.0 y.0.3). ‵ (lasts callee.ended z.0.0 y.0.3 ls) ⊛ raw (fact 𝓤 (IfSome x Told)))))) (id⊢ 𝓤 (k.post y v)) $
    await ! tt $ pick ! (λ x. split ! $ move ! (1 ∷ []) $ pick ! (λ _. split ! $ drop ! $ heard ! (IfSome x Told) (λ given. split ! $ move ! (1 ∷ []) $
    cases ! Told x v given
    (λ e. lands_as ! e refl (tt, (record { fits = lit< tt }, tt)) $
    first ! $ switches_on ! (get_tag ! (vrt ! refl (fld ! refl (stop !))) (whole !)) $ exec ! C Λ En (arm_body 1 (head (after 1 fn.body))) behind $
    sets ! (agg ! (no_more !)) refl (tt, tt) $
    sets_last ! (agg ! (and_then ! (lit ! tt) (and_then ! (get ! refl) (no_more !)))) refl (Answer-typed false 0 0) $
    exec ! C Λ En (after 2 fn.body) (at_ret En Post) $
    sets ! (of_opd ! (get ! refl)) refl (Answer-typed false 0 0) $ returns ! (look_at ! 0 refl) $ free_all ! refl $ nothing ! $
    use0 𝓛 (‵ (Answer.own_val (Err (record {})) (answer_val false 0 0 ∷ []))) (Answer-err 𝓛) $ nothing ! $ nothing ! $ fjoin ! $ nothing ! $ fjoin ! $ nothing ! $ fjoin ! $ move ! (3 ∷ 0 ∷ 1 ∷ 2 ∷ []) $
    by ! (leaves 𝓛 ended stays c z (answer_val false 0 0) (Err (record {})) (tt, (tt, (tt, tt))) (tt, (tt, (tt, tt)))))
    (λ m said fits e. in_a_block ! m.ptr (λ p. room_for (Units m.units) p) (id⊢ 𝓤 (never 𝓤)) (λ b o at. let p : Ptr = block_ptr b o in
    use1 𝓛 (‵ (froom τ b o)) (lend 𝓛 b o τ n m.units asked.0 said.1 (subst (λ (s : ℕ). n ≤ s) m.whole said.0)) $
    lands_as ! (e ∙ ap (λ (q : Ptr). live 1 (vcons (piece_val q m.size) vnil)) at) refl (tt, (record { fits = lit< tt }, ((tt, (record { fits = fits }, tt)), tt))) $
    first ! $ switches_on ! (get_tag ! (vrt ! refl (fld ! refl (stop !))) (whole !)) $ exec ! C Λ En (arm_body 0 (head (after 1 fn.body))) behind $
    sets ! (of_opd ! (get_in ! (vrt ! refl (fld ! refl (fld ! refl (stop !)))) (sub ! 0 refl (in_variant ! 1 0 refl refl (whole !))))) refl (tt, tt) $
    sets_last ! (agg ! (and_then ! (lit ! tt) (and_then ! (get ! refl) (no_more !)))) refl (Answer-typed true b o) $
    exec ! C Λ En (after 2 fn.body) (at_ret En Post) $
    sets ! (of_opd ! (get ! refl)) refl (Answer-typed true b o) $ returns ! (look_at ! 0 refl) $ free_all ! refl $
    nothing ! $ move ! (1 ∷ 0 ∷ []) $ fjoin ! $
    use0 𝓛 (‵ (Answer.own_val (Ok p) (answer_val true b o ∷ []))) (Answer-Ok 𝓛 b o) $ nothing ! $ nothing ! $ fjoin ! $ nothing ! $ fjoin ! $ nothing ! $ fjoin ! $ move ! (3 ∷ 0 ∷ 1 ∷ 2 ∷ []) $
    by ! (leaves 𝓛 ended stays c z (answer_val true b o) (Ok p) (tt, (tt, (tt, tt))) (tt, (tt, (tt, tt)))))))))))))
