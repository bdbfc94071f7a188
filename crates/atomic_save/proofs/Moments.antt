-- Time goes on at files in memory.
use Rattle.std.proofs.Common.{◌≡◌, ◌⊎◌, inl, inr, ⊎_elim, ℕ, zero, suc, ◌≤◌, List, [], ◌∷◌, ◌++◌, length, drop, refl, sym, subst, arith, length-append, ap, Some, None, Option, Vec, ◌∙◌}
use Rattle.std.specs.declared.alloc.Global.{Global}
use Rattle.atomic_save.specs.Outcomes.{Content, Elapses, Replaced}
use Rattle.atomic_save.specs.Memory.{content_of, contents_of, IsAmong, MayBeLeft, MayBeLeftSince}

among_front : (xs ys : List Content) (c : Content) → IsAmong xs c → IsAmong (xs ++ ys) c
among_front [] ys c among = absurd among
among_front (x ∷ xs) ys c (inl here) = inl here
among_front (x ∷ xs) ys c (inr there) = inr (among_front xs ys c there)

among_back : (xs ys : List Content) (c : Content) → IsAmong ys c → IsAmong (xs ++ ys) c
among_back [] ys c among = among
among_back (x ∷ xs) ys c among = inr (among_back xs ys c among)

among_either : (xs ys : List Content) (c : Content) → IsAmong (xs ++ ys) c → IsAmong xs c ⊎ IsAmong ys c
among_either [] ys c among = inr among
among_either (x ∷ xs) ys c (inl here) = inl (inl here)
among_either (x ∷ xs) ys c (inr there) = ⊎_elim (λ it. inl (inr it)) (λ it. inr it) (among_either xs ys c there)

drop_front : (t : ℕ) (xs ys : List Content) → t ≤ length xs → drop t (xs ++ ys) ≡ drop t xs ++ ys
drop_front zero xs ys le = refl
drop_front (suc t) [] ys le = absurd (omega arith)
drop_front (suc t) (x ∷ xs) ys le = drop_front t xs ys (omega arith)

-- nothing happens
pub elapses_still : (now : Content) (unsettled past : List Content)
    → Elapses (length past) (length past) (MayBeLeftSince now unsettled past) (MayBeLeftSince now unsettled past) (MayBeLeft now unsettled)
elapses_still now unsettled past = record { later = omega arith; nothing_else = λ t c le left. inl left; keeps = λ t c le left. left }

-- another content is there, and what could be left before still can
elapses_replaced : (old now : Content) (unsettled more past : List Content) → IsAmong more old
    → Elapses (length past) (length past) (MayBeLeftSince old unsettled past) (MayBeLeftSince now (unsettled ++ more) past) (MayBeLeft now (unsettled ++ more))
elapses_replaced old now unsettled more past kept = record {
  later = omega arith;
  nothing_else = λ t c le left. ⊎_elim (λ it. inr it) (λ it. inl (inr it)) left;
  keeps = λ t c le left. ⊎_elim (λ it. inl (⊎_elim (λ is. inr (among_back unsettled more c (was c is))) (λ among. inr (among_front unsettled more c among)) it)) (λ it. inr it) left;
}
  where
    was : (c : Content) → c ≡ old → IsAmong more c
    was c is = let P : Content → Type 0 = λ it. IsAmong more it in subst P (sym is) kept

-- what was unsettled is past
elapses_settled : (now : Content) (unsettled past : List Content)
    → Elapses (length past) (length (past ++ unsettled)) (MayBeLeftSince now unsettled past) (MayBeLeftSince now [] (past ++ unsettled)) (MayBeLeft now [])
elapses_settled now unsettled past = record {
  later = omega (arith, length-append past unsettled);
  nothing_else = λ t c le left. ⊎_elim (λ it. inr it) (λ among. inl (came t c le among)) left;
  keeps = λ t c le left. ⊎_elim (λ it. ⊎_elim (λ is. inl (inl is)) (λ among. inr (goes t c le (among_back (drop t past) unsettled c among))) it) (λ among. inr (goes t c le (among_front (drop t past) unsettled c among))) left;
}
  where
    came : (t : ℕ) (c : Content) → t ≤ length past → IsAmong (drop t (past ++ unsettled)) c → MayBeLeftSince now unsettled past t c
    came t c le among = let P : List Content → Type 0 = λ it. IsAmong it c in
        ⊎_elim (λ it. inr it) (λ it. inl (inr it)) (among_either (drop t past) unsettled c (subst P (drop_front t past unsettled le) among))

    goes : (t : ℕ) (c : Content) → t ≤ length past → IsAmong (drop t past ++ unsettled) c → IsAmong (drop t (past ++ unsettled)) c
    goes t c le among = let P : List Content → Type 0 = λ it. IsAmong it c in subst P (sym (drop_front t past unsettled le)) among

contents_of-append : (xs ys : List (Option (Vec ℕ Global))) → contents_of (xs ++ ys) ≡ contents_of xs ++ contents_of ys
contents_of-append [] ys = refl
contents_of-append (x ∷ xs) ys = ap (λ l. content_of x ∷ l) (contents_of-append xs ys)

-- a rename: what could be left before still can
pub replaces : (old now kept : Content) (unsettled later more : List (Option (Vec ℕ Global))) (past : List Content)
    → later ≡ unsettled ++ more → contents_of more ≡ old ∷ kept ∷ []
    → Elapses (length past) (length past) (MayBeLeftSince old (contents_of unsettled) past) (MayBeLeftSince now (contents_of later) past) (MayBeLeft now (contents_of later))
replaces old now kept unsettled later more past is ends =
    let P : List Content → Type 0 = λ it. Elapses (length past) (length past) (MayBeLeftSince old (contents_of unsettled) past) (MayBeLeftSince now it past) (MayBeLeft now it) in
    let Q : List Content → Type 0 = λ it. IsAmong it old in
    subst P (sym (ap contents_of is ∙ contents_of-append unsettled more))
    (elapses_replaced old now (contents_of unsettled) (contents_of more) past (subst Q (sym ends) (inl refl)))

-- a rename: nothing can be left but what could be before, and what the temporary file may be
pub replaced_by : (old : Content) (bytes synced : List ℕ) (unsettled later more : List (Option (Vec ℕ Global)))
    → later ≡ unsettled ++ more → contents_of more ≡ old ∷ Some synced ∷ []
    → Replaced (MayBeLeft old (contents_of unsettled)) (λ c. (c ≡ Some bytes) ⊎ (c ≡ Some synced)) (MayBeLeft (Some bytes) (contents_of later))
replaced_by old bytes synced unsettled later more is ends c (inl here) = inr (inl here)
replaced_by old bytes synced unsettled later more is ends c (inr among) =
    let P : List Content → Type 0 = λ it. IsAmong it c in
    ⊎_elim (λ it. inl (inr it)) (λ it. of_two (subst P ends it)) (among_either (contents_of unsettled) (contents_of more) c (subst P (ap contents_of is ∙ contents_of-append unsettled more) among))
  where
    of_two : IsAmong (old ∷ Some synced ∷ []) c → MayBeLeft old (contents_of unsettled) c ⊎ ((c ≡ Some bytes) ⊎ (c ≡ Some synced))
    of_two (inl was) = inl (inl was)
    of_two (inr (inl kept)) = inr (inr kept)
    of_two (inr (inr none)) = absurd none

-- a sync of the folder: what was unsettled is past
pub settles : (now : Content) (unsettled past later none : List (Option (Vec ℕ Global))) → later ≡ past ++ unsettled → none ≡ []
    → Elapses (length (contents_of past)) (length (contents_of later)) (MayBeLeftSince now (contents_of unsettled) (contents_of past))
    (MayBeLeftSince now (contents_of none) (contents_of later)) (MayBeLeft now (contents_of none))
settles now unsettled past later none is empty =
    let P : List Content → Type 0 = λ it. Elapses (length (contents_of past)) (length it) (MayBeLeftSince now (contents_of unsettled) (contents_of past)) (MayBeLeftSince now (contents_of none) it) (MayBeLeft now (contents_of none)) in
    let Q : List (Option (Vec ℕ Global)) → Type 0 = λ it. Elapses (length (contents_of past)) (length (contents_of past ++ contents_of unsettled)) (MayBeLeftSince now (contents_of unsettled) (contents_of past)) (MayBeLeftSince now (contents_of it) (contents_of past ++ contents_of unsettled)) (MayBeLeft now (contents_of it)) in
    subst P (sym (ap contents_of is ∙ contents_of-append past unsettled)) (subst Q (sym empty) (elapses_settled now (contents_of unsettled) (contents_of past)))
