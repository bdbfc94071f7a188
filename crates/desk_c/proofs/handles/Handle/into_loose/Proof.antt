-- `into_loose` has the box of the handle back.
use types.Kit.{join}
use types.Run.{lit}
use Rattle.std.proofs.Common.{lit<, ◌≡◌, List, [], ◌∷◌, ◌++◌, refl, sym, subst, Some, None}
use mir.Val.{Val, vptr, vcons, vnil}
use types.Match.{live}
use denote.Param.{layout}
use Rattle.std.specs.Prelude.{IfSome, IfNone}
use Rattle.core.proofs.alloc.Shapes.{after}
use Rattle.core.proofs.atomic.Steps.{Ptr-Good}
use Rattle.core.proofs.cell.Inside.{Good}
use Rattle.core.proofs.option.Made.{Some-of, none_of}
use Rattle.std_alloc.proofs.ResultValues.{and_tt}
use base.Logic.{SProp, ent, emp, id⊢}
use prog.Wp.{WpFn}
use types.Kit.{drop, at_ret, use1, ‵, raw, ◌⊛◌, ◌$◌, ◌∵◌, !, qed, by, move, keep, split, fsplit, fjoin, suffices, use0}
use types.Run.{bin, first, branches, exec, stop, fld, of_opd, no_more, and_then, returns, enter}
use types.ByLocal.{sets_last, env, alloc_all, pass_all, free_all, look_at, get, get_in, sets}
use types.Part.{agg, sub, whole}
use contract.Monad.{fact, fact_i}
use contract.Running.{tables}
use denote.Exit.{yes}
use denote.RattleType.{RattleType, owns}
use denote.Signature.{types_at, type_at, plain}
use denote.RawPtr.{tests_null, block_ptr, null_ptr, ptr_val}
use denote.Steps.{nothing}
use denote.Triple.Entry.{alive}
use denote.Triple.Walked.{Stays, stay_dropped, walk_of}
use Rattle.core.proofs.alloc.Calls.{Goes-blank, handle_tells}
use Rattle.std.proofs.raw_atomic.Walks.{proved_at, leaves}
use Rattle.std.specs.contracts.impls.GlobalAllocator.TheImpl.{ghosts}
use Rattle.desk_c.proofs.Values.{both, al, Loose, loose_good, loose_in}
use Rattle.desk_c.proofs.HandleSteps.{S, Z, LZ, Hd, lone_val, handle_either}
use Rattle.desk_c.specs.contracts.handles.Handle.into_loose.{ended, clauses}
use Rattle.desk_c.specs.contracts.handles.Handle.into_loose.Key.{name as #self}
use Rattle.desk_c.proofs.handles.Handle.into_loose.Statement.{statement}
use Rattle.desk_c.proofs.handles.Handle.into_loose.Code as code

pub into_loose_spec : {M : Type 1} → statement M
into_loose_spec 𝓤 𝓛 𝓜 𝓡 wired =
    let H = 𝓛.H in let 𝓣 = tables 𝓤 H 𝓜 𝓡 𝓡.env in let En = ended in let c = clauses 𝓛 𝓜.mem 𝓡.returns in let fn = code.function in
    let Lr : RattleType = Loose S Z LZ ghosts in let hs : Stays En.signature.params En.kept = (stay_dropped (plain (λ _. Hd)) yes, (stay_dropped (plain (λ _. Z)) yes, tt)) in
    proved_at 𝓛 En hs c 𝓜 𝓡 (Goes-blank 𝓛 0 (plain (λ _. Hd)) yes (λ κs x f. tt), (Goes-blank 𝓛 0 (plain (λ _. Z)) yes (λ κs x f. tt), tt)) #self fn (code.unfolded 𝓤 H 𝓜 𝓡 wired) (λ z are.
    let Post : Val → SProp 𝓤 = (walk_of 𝓛 En hs c).post z in let Run : List Val → SProp 𝓤 = λ ws. WpFn 𝓤 H 𝓣.C 𝓣.Λ fn ws Post in let d = z.0.3.0 in let a = z.0.3.1.0 in let Out : RattleType = type_at En.signature.result z.0.0 in
    let FS : Out.Denot → Type 0 = λ r. IfSome r (λ l. d.held ≡ Some l.value) in let FN : Out.Denot → Type 0 = λ r. IfNone r (d.held ≡ None) in
    qed 𝓛 ((raw (alive 𝓛 En.signature z.0.0 z.0.1) ⊛ ‵ (owns (types_at En.signature.params z.0.0) z.0.3 z.0.4)) ∷ raw ((c z.0.0 z.0.3).requires z.1) ∷ []) ∵
    move ! (1 ∷ []) $ drop ! $ split ! $ move ! (1 ∷ []) $ fsplit ! $ move ! (1 ∷ []) $ fsplit ! $ handle_tells (al S Z LZ ghosts) ! a z.0.4.1.0 (λ h wh fits. move ! (2 ∷ []) $
    handle_either ! d z.0.4.0
    (λ is ws. let u : Val = lone_val (ptr_val null_ptr) in
    suffices ! (Run (u ∷ h ∷ [])) (subst (λ (us : List Val). ent 𝓤 (Run (u ∷ h ∷ [])) (Run us)) (sym (λ i. ws i ++ (wh i ++ []))) (id⊢ 𝓤 (Run (u ∷ h ∷ [])))) $
    enter ! 𝓣.C 𝓣.Λ fn (u ∷ h ∷ []) Post $ alloc_all ! (λ l. pass_all ! refl ((tt, (record { fits = lit< tt }, tt)), (fits, tt)) $ let Ev = env fn.locals l in
    sets ! (of_opd ! (get_in ! (fld ! refl (stop !)) (sub ! 0 refl (whole !)))) refl (Ptr-Good null_ptr) $ sets ! (bin ! (get ! refl) (lit ! tt) tt) refl (tt, tt) $ first ! $ branches ! (get ! refl)
    (λ _. sets_last ! (agg ! (and_then ! (lit ! tt) (no_more !))) refl (tt, (record { fits = lit< tt }, tt)) $ exec ! 𝓣.C 𝓣.Λ Ev (after 3 fn.body) (at_ret Ev Post) $ sets ! (of_opd ! (get ! refl)) refl (tt, (record { fits = lit< tt }, tt)) $
    use0 𝓛 (‵ (Out.own_val None (live 0 vnil ∷ []))) (none_of 𝓛 Lr) $ use0 𝓛 (raw (fact 𝓤 (FN None))) (fact_i 𝓤 (FN None) (emp 𝓤) is) $ use0 𝓛 (raw (fact 𝓤 (FS None))) (fact_i 𝓤 (FS None) (emp 𝓤) tt) $ join ! $
    nothing ! $ nothing ! $ fjoin ! $ nothing ! $ fjoin ! $
    returns ! (look_at ! 0 refl) $ free_all ! refl $ keep ! (5 ∷ 0 ∷ 2 ∷ 1 ∷ []) $ by ! (leaves 𝓛 En hs c z (live 0 vnil) None (tt, (tt, tt)) (tt, (tt, tt)))) (λ wrong. absurd wrong)))
    (λ b o x is ws can. let u : Val = lone_val (vptr b o) in let w : Val = both (vptr b o) h in let typed = loose_good S Z LZ ghosts b o h fits in let v₁ : Val = live 1 (vcons w vnil) in let r : Lr.Denot = record { at = block_ptr b o; alloc = a; value = x } in
    let good : Good (layout Out) v₁ = (and_tt _ typed.0, (record { fits = lit< tt }, (typed.1, tt))) in
    suffices ! (Run (u ∷ h ∷ [])) (subst (λ (us : List Val). ent 𝓤 (Run (u ∷ h ∷ [])) (Run us)) (sym (λ i. ws i ++ (wh i ++ []))) (id⊢ 𝓤 (Run (u ∷ h ∷ [])))) $
    enter ! 𝓣.C 𝓣.Λ fn (u ∷ h ∷ []) Post $ alloc_all ! (λ l. pass_all ! refl ((tt, (tt, tt)), (fits, tt)) $ let Ev = env fn.locals l in
    sets ! (of_opd ! (get_in ! (fld ! refl (stop !)) (sub ! 0 refl (whole !)))) refl (tt, tt) $ sets ! (bin ! (get ! refl) (lit ! tt) (tests_null (block_ptr b o) can)) refl (tt, tt) $ first ! $ branches ! (get ! refl) (λ wrong. absurd wrong)
    (λ _. sets ! (of_opd ! (get ! refl)) refl (tt, tt) $ sets ! (agg ! (and_then ! (get ! refl) (and_then ! (get ! refl) (no_more !)))) refl typed $ sets_last ! (agg ! (and_then ! (lit ! tt) (and_then ! (get ! refl) (no_more !)))) refl good $
    exec ! 𝓣.C 𝓣.Λ Ev (after 3 fn.body) (at_ret Ev Post) $ sets ! (of_opd ! (get ! refl)) refl good $ loose_in S Z LZ ghosts ! b o h a x $
    use1 𝓛 (‵ (Out.own_val (Some r) (v₁ ∷ []))) (Some-of 𝓛 Lr r w) $ use0 𝓛 (raw (fact 𝓤 (FN (Some r)))) (fact_i 𝓤 (FN (Some r)) (emp 𝓤) tt) $ use0 𝓛 (raw (fact 𝓤 (FS (Some r)))) (fact_i 𝓤 (FS (Some r)) (emp 𝓤) is) $ join ! $
    nothing ! $ nothing ! $ fjoin ! $ nothing ! $ fjoin ! $
    returns ! (look_at ! 0 refl) $ free_all ! refl $ keep ! (4 ∷ 0 ∷ 2 ∷ 1 ∷ []) $ by ! (leaves 𝓛 En hs c z v₁ (Some r) (tt, (tt, tt)) (tt, (tt, tt))))))))
