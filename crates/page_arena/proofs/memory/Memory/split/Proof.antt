-- `split` moves a pointer, and cuts the room behind it. Assumes `Logic`.
use Rattle.std.proofs.Common.{◌≡◌, ℕ, ◌+◌, ◌-◌, ◌*◌, ◌/◌, ◌%◌, ◌≤◌, ◌^◌, ◌<◌, List, [], ◌∷◌, ◌++◌, None, Some, refl, ap, ◌∙◌, arith, lit<, nltb→le, w64}
use mir.Syntax.{Fn}
use mir.Val.{Val, vint, vptr, vcons, vnil}
use base.Logic.{SProp, emp, never, id⊢}
use prog.Wp.{Env, WpFn}
use contract.Monad.{fact, fact_i}
use contract.Running.{tables}
use types.Kit.{‵, raw, ◌⊛◌, prop, at_ret, ◌$◌, ◌∵◌, !, qed, by, move, drop, use0, use1, use2, split, rewrite, regoal, fsplit, fjoin}
use types.Part.{whole, sub, agg}
use types.Match.{live}
use types.Run.{stop, fld, lit, bin, of_opd, no_more, and_then, first, blocks, skips, branches, exec, returns, returns_within, enter}
use types.ByLocal.{alloc_all, pass_all, free_all, look_at, get, get_in, sets, sets_last, is, env}
use denote.RattleType.{RattleType, owns}
use denote.RawPtr.{Ptr, block_ptr, in_a_block, room_for}
use denote.Builtin.{usize}
use denote.Signature.{plain, types_at}
use denote.Steps.{nothing, heard}
use denote.Struct.Tuple.{Tuple}
use denote.Triple.Entry.{alive}
use denote.Triple.Walked.{Stays, stay_dropped, walk_of, Goes-dropped}
use Rattle.core.proofs.alloc.Calls.{Goes-blank}
use Rattle.core.proofs.alloc.Shapes.{after}
use Rattle.core.proofs.option.Made.{Some-of, none_of}
use Rattle.std_alloc.proofs.Pairs.{pair_of, pair_val}
use Rattle.std.proofs.raw_atomic.Walks.{proved_at, leaves}
use Rattle.page_arena.proofs.Pieces.{Piece, piece_val, spells, cut, fields}
use Rattle.page_arena.specs.Units.{Units}
use Rattle.core.specs.contracts.option.Option as option
use Rattle.page_arena.specs.contracts.memory.Memory.split.{ended, clauses}
use Rattle.page_arena.specs.contracts.memory.Memory.split.Key.{name as #self}
use Rattle.page_arena.proofs.memory.Memory.split.Statement.{statement}
use Rattle.page_arena.proofs.memory.Memory.split.Code as code

abbrev Front : RattleType
Front = option.the_row Piece

abbrev Out : RattleType
Out = Tuple (Front ∷ Piece ∷ [])

pub split_spec : {M : Type 1} → statement M
split_spec 𝓤 𝓛 𝓜 𝓡 wired =
    let c = clauses 𝓛 𝓜.mem 𝓡.returns in
    let fn : Fn = code.function in
    let stays : Stays ended.signature.params ended.kept = (stay_dropped (plain (λ _. Piece)) ended.kept.0, (stay_dropped (plain (λ _. usize)) ended.kept.1.0, tt)) in
    let C = (tables 𝓤 𝓛.H 𝓜 𝓡 𝓡.env).C in
    let Λ = (tables 𝓤 𝓛.H 𝓜 𝓡 𝓡.env).Λ in
    proved_at 𝓛 ended stays c 𝓜 𝓡 (Goes-blank 𝓛 0 (plain (λ _. Piece)) ended.kept.0 (λ κs x f. tt), (Goes-dropped 𝓛 0 (plain (λ _. usize)) ended.kept.1.0 (λ κs x f. refl), tt)) #self fn (code.unfolded 𝓤 𝓛.H 𝓜 𝓡 wired) (λ z are.
    let Post : Val → SProp 𝓤 = (walk_of 𝓛 ended stays c).post z in
    let x : Piece.Denot = z.0.3.0 in
    let n = x.size in
    let w = z.0.3.1.0 in
    let told = spells x.ptr n z.0.4.0 are.0.0 in
    let fits : n < 2 ^ 64 = told.1 in
    let fits' : w < 2 ^ 64 = are.1.0.1 in
    qed 𝓛 ((raw (alive 𝓛 ended.signature z.0.0 z.0.1) ⊛ ‵ (owns (types_at ended.signature.params z.0.0) z.0.3 z.0.4)) ∷ raw (fact 𝓤 (w % 16 ≡ 0)) ∷ []) ∵ move ! (1 ∷ []) $ heard ! (w % 16 ≡ 0) (λ even. split ! $ move ! (1 ∷ []) $
    fsplit ! $ fsplit ! $ drop ! $ move ! (1 ∷ []) $ drop ! $ in_a_block ! x.ptr (λ p. room_for (Units x.units) p) (id⊢ 𝓤 (never 𝓤)) (λ b o at.
    -- [the room; the tokens]
    let here : Ptr = block_ptr b o in
    regoal ! (λ (us : List Val). prop (WpFn 𝓤 𝓛.H C Λ fn us Post)) (λ i. (told.0 ∙ ap (λ (p : Ptr). piece_val p n ∷ []) at) i ++ (are.1.0.0 i ++ [])) refl $
    enter ! C Λ fn (piece_val here n ∷ vint w64 w ∷ []) Post $
    alloc_all ! (λ l. pass_all ! refl ((tt, (tt, (record { fits = fits }, tt))), ((tt, record { fits = fits' }), tt)) $ let En : Env 𝓤 𝓛.H = env fn.locals l in
    sets ! (of_opd ! (get_in ! (fld ! refl (stop !)) (sub ! 0 refl (whole !)))) refl (tt, tt) $
    sets ! (of_opd ! (get_in ! (fld ! refl (stop !)) (sub ! 1 refl (whole !)))) refl (tt, record { fits = fits }) $
    sets ! (bin ! (get ! refl) (get ! refl) tt) refl (tt, tt) $
    first ! $ branches ! (get ! refl)
    (λ less. sets ! (agg ! (and_then ! (lit ! tt) (no_more !))) refl (tt, (record { fits = lit< tt }, tt)) $
    sets ! (agg ! (and_then ! (get ! refl) (and_then ! (get ! refl) (no_more !)))) refl (tt, (tt, (record { fits = fits }, tt))) $
    sets ! (agg ! (and_then ! (get ! refl) (and_then ! (get ! refl) (no_more !)))) refl (tt, ((record { fits = lit< tt }, tt), ((tt, (record { fits = fits }, tt)), tt))) $
    returns_within ! Post refl (look_at ! 0 refl) $ free_all ! refl $
    let y : Piece.Denot = record { ptr = here; size = n; units = x.units; whole = x.whole } in
    let v : Val = pair_val (live 0 vnil) (piece_val here n) in
    fields ! here n fits $ fjoin ! $
    use0 𝓛 (‵ (Front.own_val None (live 0 vnil ∷ []))) (none_of 𝓛 Piece) $ use2 𝓛 (‵ (Out.own_val (None, y) (v ∷ []))) (pair_of 𝓛 Front Piece None y (live 0 vnil) (piece_val here n)) $
    use0 𝓛 (raw (fact 𝓤 (Unit {0}))) (fact_i 𝓤 (Unit {0}) (emp 𝓤) tt) $ nothing ! $ nothing ! $ fjoin ! $ nothing ! $ fjoin ! $ move ! (3 ∷ 0 ∷ 2 ∷ 1 ∷ []) $
    by ! (leaves 𝓛 ended stays c z v (None, y) (tt, (tt, tt)) (tt, (tt, tt))))
    (λ more. let enough : w ≤ n = nltb→le n w more in
    let j = w / 16 in
    let k = x.units - j in
    let far : Ptr = block_ptr b (o + j * 16) in
    skips ! $ exec ! C Λ En (after 4 fn.body) (at_ret En Post) $
    let moved : vptr b (w + o) ≡ vptr b (o + j * 16) = ap (vptr b) (omega arith) in
    first ! $ blocks ! $ sets_last ! (is ! (bin ! (get ! refl) (get ! refl) tt) moved) refl (tt, tt) $
    exec ! C Λ En (after 5 fn.body) (at_ret En Post) $
    sets ! (of_opd ! (get ! refl)) refl (tt, tt) $
    sets ! (agg ! (and_then ! (get ! refl) (and_then ! (get ! refl) (no_more !)))) refl (tt, (tt, (record { fits = fits' }, tt))) $
    sets ! (agg ! (and_then ! (lit ! tt) (and_then ! (get ! refl) (no_more !)))) refl (tt, (record { fits = lit< tt }, ((tt, (record { fits = fits' }, tt)), tt))) $
    sets ! (bin ! (get ! refl) (get ! refl) enough) refl (tt, record { fits = omega arith }) $
    sets ! (agg ! (and_then ! (get ! refl) (and_then ! (get ! refl) (no_more !)))) refl (tt, (tt, (record { fits = omega arith }, tt))) $
    sets ! (agg ! (and_then ! (get ! refl) (and_then ! (get ! refl) (no_more !)))) refl (tt, ((record { fits = lit< tt }, ((tt, (record { fits = fits' }, tt)), tt)), ((tt, (record { fits = omega arith }, tt)), tt))) $
    returns ! (look_at ! 0 refl) $ free_all ! refl $
    let m = n - w in
    let whole : n ≡ x.units * 16 = x.whole in
    let parts : x.units ≡ j + k = omega arith in
    let u : Piece.Denot = record { ptr = here; size = w; units = j; whole = omega arith } in
    let y : Piece.Denot = record { ptr = far; size = m; units = k; whole = omega arith } in
    let s : Val = live 1 (vcons (piece_val here w) vnil) in
    let v : Val = pair_val s (piece_val far m) in
    rewrite ! 0 (λ (i : ℕ). ‵ (room_for (Units i) here)) parts refl $
    use1 𝓛 (‵ (room_for (Units j) here) ⊛ ‵ (room_for (Units k) far)) (cut 𝓛 b o j k) $ split ! $
    fields ! here w fits' $ fjoin ! $
    use1 𝓛 (‵ (Front.own_val (Some u) (s ∷ []))) (Some-of 𝓛 Piece u (piece_val here w)) $ move ! (1 ∷ []) $
    fields ! far m (omega arith) $ fjoin ! $ move ! (1 ∷ []) $
    use2 𝓛 (‵ (Out.own_val (Some u, y) (v ∷ []))) (pair_of 𝓛 Front Piece (Some u) y s (piece_val far m)) $
    use0 𝓛 (raw (fact 𝓤 (w ≡ w))) (fact_i 𝓤 (w ≡ w) (emp 𝓤) refl) $ nothing ! $ nothing ! $ fjoin ! $ nothing ! $ fjoin ! $ move ! (3 ∷ 0 ∷ 2 ∷ 1 ∷ []) $
    by ! (leaves 𝓛 ended stays c z v (Some u, y) (tt, (tt, tt)) (tt, (tt, tt))))))))
