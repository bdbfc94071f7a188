-- The machine values of a `Handle`. Assumes `Logic`.
use Rattle.std.proofs.Common.{arith, ◌≡◌, ℕ, List, [], ◌∷◌, ◌++◌, refl, subst, Option, Some, None}
use seplogic.Ra.Ura.{Ura}
use mir.Raw.{raw as bare}
use mir.Val.{Val, vptr, vstruct, vcons, vnil, of_list}
use base.Logic.{ent, via, snd∗, guard, guard_i}
use base.Fraction.{full_share}
use contract.Monad.{fact_use}
use Rattle.std.proofs.GlobalToken.{dealloc_token-Testable}
use types.Logic.{Logic, sem}
use types.Kit.{Item, Goal, Seq, Step, step, ‵, ◌$◌, drop, fsplit, fjoin, fpick, fpack, feq_i, feq_l, use1, given, learn}
use denote.RattleType.{RattleType, Valss}
use denote.Builtin.{RawPtr}
use denote.Memory.{lone}
use denote.RawPtr.{Ptr, block_ptr, null_ptr, ptr_val, lies_at, Testable}
use denote.Steps.{nothing}
use denote.Param.Laws.{Laws}
use denote.Struct.Struct.{within}
use denote.Struct.Owning.{shape}
use Rattle.std.specs.Box.Ownership.{box_owns}
use Rattle.std.specs.contracts.alloc.Global as heap
use Rattle.std.proofs.alloc.Global.TheLaws as heap_laws
use Rattle.std.specs.contracts.impls.GlobalAllocator.TheImpl.{ghosts}
use Rattle.desk_c.specs.Owned.{owned_at, the_heap}
use Rattle.desk_c.specs.contracts.states.State as state
use Rattle.desk_c.specs.contracts.handles.Handle as handle

abbrev pub S : RattleType
S = state.the_row

abbrev pub Z : RattleType
Z = heap.the_row

abbrev pub LZ : Laws Z
LZ = heap_laws.the_row_laws

abbrev pub Hd : RattleType
Hd = handle.the_row

abbrev pub lone_val : Val → Val
lone_val v = vstruct (vcons v vnil)

tested : {M : Type 1} {𝓤 : Ura M} (𝓛 : Logic 𝓤) (p : Ptr) (x : S.Denot)
    → ent 𝓤 (sem 𝓛 (box_owns (ghosts.dealloc_token the_heap) S p x)) (guard 𝓤 (Testable p) (sem 𝓛 (box_owns (ghosts.dealloc_token the_heap) S p x)))
tested {𝓤 = 𝓤} 𝓛 p x = let B = sem 𝓛 (box_owns (ghosts.dealloc_token the_heap) S p x) in
    fact_use 𝓤 (Testable p) (via 𝓤 _ (snd∗ 𝓤 (sem 𝓛 (lies_at S full_share p x)) (sem 𝓛 (ghosts.dealloc_token the_heap (bare (lone S.mir)) p))) (dealloc_token-Testable 𝓛 the_heap (bare (lone S.mir)) p)) (guard_i 𝓤 (Testable p) B)

module _ {M : Type 1} {𝓤 : Ura M} {𝓛 : Logic 𝓤} {K : Type 0} {Γ : List (Item 𝓤)} {G : Goal 𝓤 𝓛.H} where
  owned_either : K → (p : Ptr) (m : Option S.Denot) → (p ≡ null_ptr → m ≡ None → Seq K 𝓛 Γ G)
      → ((b o : ℕ) (x : S.Denot) → p ≡ block_ptr b o → m ≡ Some x → Testable (block_ptr b o) → Seq K 𝓛 (‵ (box_owns (ghosts.dealloc_token the_heap) S (block_ptr b o) x) ∷ Γ) G)
      → Seq K 𝓛 (‵ (owned_at S p m) ∷ Γ) G
  owned_either t null_ptr None none one = drop t $ none refl refl
  owned_either t null_ptr (Some x) none one = feq_l t (λ e. absurd (omega (arith, e)))
  owned_either t (block_ptr b o) None none one = feq_l t (λ e. absurd (omega (arith, e)))
  owned_either t (block_ptr b o) (Some x) none one =
      use1 𝓛 (given (Testable (block_ptr b o)) (‵ (box_owns (ghosts.dealloc_token the_heap) S (block_ptr b o) x))) (tested 𝓛 (block_ptr b o) x) $ learn t (λ e. one b o x refl refl e)

  -- a handle has nothing, or its state's box
  pub handle_either : K → (d : Hd.Denot) (vs : List Val) → (d.held ≡ None → vs ≡ lone_val (ptr_val null_ptr) ∷ [] → Seq K 𝓛 Γ G)
      → ((b o : ℕ) (x : S.Denot) → d.held ≡ Some x → vs ≡ lone_val (vptr b o) ∷ [] → Testable (block_ptr b o) → Seq K 𝓛 (‵ (box_owns (ghosts.dealloc_token the_heap) S (block_ptr b o) x) ∷ Γ) G)
      → Seq K 𝓛 (‵ (Hd.own_val d vs) ∷ Γ) G
  handle_either t d vs none one =
      fsplit t $ fpick t (λ vss. fsplit t $ feq_l t (λ ev. fsplit t $ feq_l t (λ ep. drop t $
      owned_either t d.at d.held
      (λ e h. none h (subst (λ (p : Ptr). vs ≡ vstruct (of_list (ptr_val p ∷ [])) ∷ []) e (subst (λ (ps : List Val). vs ≡ vstruct (of_list (ps ++ [])) ∷ []) ep ev)))
      (λ b o x e h can. one b o x h (subst (λ (p : Ptr). vs ≡ vstruct (of_list (ptr_val p ∷ [])) ∷ []) e (subst (λ (ps : List Val). vs ≡ vstruct (of_list (ps ++ [])) ∷ []) ep ev)) can))))

  -- and back
  pub handle_in : K → (b o : ℕ) (a : Z.Denot) (x : S.Denot)
      → Step K 𝓛 (‵ (Hd.own_val (record { at = block_ptr b o; held = Some x }) (lone_val (vptr b o) ∷ [])) ∷ Γ) G (‵ (box_owns (ghosts.dealloc_token a) S (block_ptr b o) x) ∷ Γ) G
  handle_in t b o a x = step (λ s. let v : Val = lone_val (vptr b o) in
      nothing t $ feq_i t (List Val) (vptr b o ∷ []) (vptr b o ∷ []) refl $ fjoin t $ feq_i t (List Val) (v ∷ []) (v ∷ []) refl $ fjoin t $
      fpack t (Valss (RawPtr ∷ [])) (within (shape handle.the_type) (block_ptr b o, tt) (v ∷ [])) (vptr b o ∷ [], tt) $ fjoin t $ s)

  -- a handle that has none
  pub closed_in : K → Step K 𝓛 (‵ (Hd.own_val (record { at = null_ptr; held = None }) (lone_val (ptr_val null_ptr) ∷ [])) ∷ Γ) G Γ G
  closed_in t = step (λ s. let v : Val = lone_val (ptr_val null_ptr) in
      nothing t $ nothing t $ feq_i t (List Val) (ptr_val null_ptr ∷ []) (ptr_val null_ptr ∷ []) refl $ fjoin t $ feq_i t (List Val) (v ∷ []) (v ∷ []) refl $ fjoin t $
      fpack t (Valss (RawPtr ∷ [])) (within (shape handle.the_type) (null_ptr, tt) (v ∷ [])) (ptr_val null_ptr ∷ [], tt) $ fjoin t $ s)
