-- Beginnings of lists, and the entries of one planner.
use Rattle.std.specs.Prelude.{All}
use Rattle.std.proofs.Common.{◌≡◌, ◌≢◌, ◌⊎◌, inl, inr, ⊎_elim, ℕ, eqb, Bool, true, false, true≢false, List, [], ◌∷◌, ◌++◌, length, drop, take, refl, sym, ap, subst, ◌∙◌, arith, append_assoc, length-append, eq-eqb, ne_eqb}
use Rattle.std.proofs.lemmas.List.{append-nil}
use Rattle.std.proofs.lemmas.List.Elements.{All-nil, All-cons, All-take}
use Rattle.std.proofs.Math.Seq.{take-append_seam, drop-append_seam}
use mathlib.Core.List.{IsPrefix}
use Rattle.desk_commits.specs.Entries.{Entry}
use Rattle.desk_shared.specs.Passes.{own_if, own_of}
use Rattle.desk_shared.specs.Turns.{longer}

pub prefix_self : {A : Type 0} (xs : List A) → IsPrefix xs xs
prefix_self xs = ([], append-nil xs)

pub prefix_more : {A : Type 0} (xs ys zs : List A) → IsPrefix xs ys → IsPrefix xs (ys ++ zs)
prefix_more xs ys zs p = (p.0 ++ zs, sym (append_assoc xs p.0 zs) ∙ ap (λ w. w ++ zs) p.1)

own_if-append : (b : Bool) (e : Entry) (xs ys : List Entry) → own_if b e (xs ++ ys) ≡ own_if b e xs ++ ys
own_if-append true e xs ys = refl
own_if-append false e xs ys = refl

pub own_of-append : (p : ℕ) (xs ys : List Entry) → own_of p (xs ++ ys) ≡ own_of p xs ++ own_of p ys
own_of-append p [] ys = refl
own_of-append p (x ∷ xs) ys = ap (own_if (eqb x.planner p) x) (own_of-append p xs ys) ∙ own_if-append (eqb x.planner p) x (own_of p xs) (own_of p ys)

pub own_of-mine : (p : ℕ) (xs : List Entry) (e : Entry) → e.planner ≡ p → own_of p (xs ++ e ∷ []) ≡ own_of p xs ++ e ∷ []
own_of-mine p xs e is = own_of-append p xs (e ∷ []) ∙ ap (λ (b : Bool). own_of p xs ++ own_if b e []) (eq-eqb e.planner p is)

pub own_of-other : (p : ℕ) (xs : List Entry) (e : Entry) → e.planner ≢ p → own_of p (xs ++ e ∷ []) ≡ own_of p xs
own_of-other p xs e isnt = own_of-append p xs (e ∷ []) ∙ (ap (λ (b : Bool). own_of p xs ++ own_if b e []) (ne_eqb e.planner p isnt) ∙ append-nil (own_of p xs))

-- of two beginnings of one list the longer begins it, and goes on from both
pub prefix_longer : {A : Type 0} (xs ys zs : List A) → IsPrefix xs zs → IsPrefix ys zs → IsPrefix xs (longer xs ys) × IsPrefix ys (longer xs ys) × IsPrefix (longer xs ys) zs
prefix_longer [] ys zs p q = ((ys, refl), prefix_self ys, q)
prefix_longer (x ∷ xs) [] zs p q = (prefix_self (x ∷ xs), (x ∷ xs, refl), p)
prefix_longer (x ∷ xs) (y ∷ ys) [] p q = absurd (cc (p.1))
prefix_longer (x ∷ xs) (y ∷ ys) (z ∷ zs) p q =
    let heads : x ≡ y = cc (p.1, q.1) in
    let first : x ≡ z = cc (p.1) in
    let rest = prefix_longer xs ys zs (p.0, cc (p.1)) (q.0, cc (q.1)) in
    ((rest.0.0, cc (rest.0.1)), (rest.1.0, cc (heads, rest.1.1)), (rest.2.0, cc (first, rest.2.1)))

-- of two beginnings of one list the longer is one of them
pub longer_is : {A : Type 0} (xs ys zs : List A) → IsPrefix xs zs → IsPrefix ys zs → (longer xs ys ≡ xs) ⊎ (longer xs ys ≡ ys)
longer_is [] ys zs p q = inr refl
longer_is (x ∷ xs) [] zs p q = inl refl
longer_is (x ∷ xs) (y ∷ ys) [] p q = absurd (cc (p.1))
longer_is (x ∷ xs) (y ∷ ys) (z ∷ zs) p q =
    let heads : x ≡ y = cc (p.1, q.1) in
    ⊎_elim (λ (e : longer xs ys ≡ xs). inl (ap (λ l. x ∷ l) e)) (λ (e : longer xs ys ≡ ys). inr (λ i. heads i ∷ e i)) (longer_is xs ys zs (p.0, cc (p.1)) (q.0, cc (q.1)))

-- what follows the beginning of a list
pub after_prefix : {A : Type 0} (xs ys : List A) (h : IsPrefix xs ys) → drop (length xs) ys ≡ h.0
after_prefix xs ys h = ap (drop (length xs)) (sym h.1) ∙ drop-append_seam xs h.0

pub All-prefix : {A : Type 0} (P : A → Type 0) (xs ys : List A) → IsPrefix xs ys → All P ys → All P xs
All-prefix P xs ys h all = subst (All P) (ap (take (length xs)) (sym h.1) ∙ take-append_seam xs h.0) (All-take P (length xs) ys all)

nil_of : {A : Type 0} (xs : List A) → length xs ≡ 0 → xs ≡ []
nil_of [] e = refl
nil_of (x ∷ xs) e = absurd (omega arith)

own_parts : (p : ℕ) (xs ys : List Entry) (h : IsPrefix xs ys) → own_of p ys ≡ own_of p xs ++ own_of p h.0
own_parts p xs ys h = ap (own_of p) (sym h.1) ∙ own_of-append p xs h.0

-- where the list has no more entries of the planner than its beginning, none follows
pub own_rest : (p : ℕ) (xs ys : List Entry) (h : IsPrefix xs ys) → own_of p ys ≡ own_of p xs → own_of p h.0 ≡ []
own_rest p xs ys h e =
    let parts = ap (λ (l : List Entry). length l) (own_parts p xs ys h) ∙ length-append (own_of p xs) (own_of p h.0) in
    let same = ap (λ (l : List Entry). length l) e in
    nil_of (own_of p h.0) (omega arith)

own_if_none : (b : Bool) (x : Entry) (xs : List Entry) → own_if b x xs ≡ [] → (b ≡ false) × (xs ≡ [])
own_if_none true x xs e = absurd (cc e)
own_if_none false x xs e = (refl, e)

-- where the planner has none of the entries, each is of another
pub none_own : (p : ℕ) (xs : List Entry) → own_of p xs ≡ [] → All (λ (x : Entry). x.planner ≢ p) xs
none_own p [] e = All-nil (λ (x : Entry). x.planner ≢ p)
none_own p (x ∷ xs) e =
    let none = own_if_none (eqb x.planner p) x (own_of p xs) e in
    All-cons (λ (x : Entry). x.planner ≢ p) x xs (λ is. true≢false (sym (eq-eqb x.planner p is) ∙ none.0)) (none_own p xs none.1)

pub own_none : (p : ℕ) (xs ys : List Entry) → IsPrefix xs ys → own_of p ys ≡ [] → own_of p xs ≡ []
own_none p xs ys h e =
    let parts = ap (λ (l : List Entry). length l) (own_parts p xs ys h) ∙ length-append (own_of p xs) (own_of p h.0) in
    let none = ap (λ (l : List Entry). length l) e in
    nil_of (own_of p xs) (omega arith)

pub own_between : (p : ℕ) (a b c : List Entry) → IsPrefix a b → IsPrefix b c → own_of p c ≡ own_of p a → own_of p b ≡ own_of p a
own_between p a b c ab bc e =
    let first = ap (λ (l : List Entry). length l) (own_parts p a b ab) ∙ length-append (own_of p a) (own_of p ab.0) in
    let second = ap (λ (l : List Entry). length l) (own_parts p b c bc) ∙ length-append (own_of p b) (own_of p bc.0) in
    let same = ap (λ (l : List Entry). length l) e in
    let none : own_of p ab.0 ≡ [] = nil_of (own_of p ab.0) (omega arith) in
    own_parts p a b ab ∙ (ap (λ (l : List Entry). own_of p a ++ l) none ∙ append-nil (own_of p a))
