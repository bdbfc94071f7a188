-- The texts of files, one after the other, and why one isn't read.
use Rattle.std.specs.Prelude.{Any}
use Rattle.std.specs.Borrow.{Bor}
use Rattle.std.specs.Global.{Global}
use Rattle.std.proofs.Common.{ℕ, ◌+◌, ◌<◌, List, [], ◌∷◌, ◌++◌, length, take, get_or, Vec, Option, sym, subst}
use Rattle.std.proofs.lemmas.List.{get_or_default, take_more}
use Rattle.std.proofs.lemmas.Slice.Zip.{all_zipped_more}
use Rattle.solver_check.specs.declared.faults.Fault.{Fault}
use Rattle.desk_io.specs.Texts.{AreTold, IsTold, IsUnread}

-- one more file was read
pub one_more_told : (holds : List ℕ → Option (List ℕ)) (files : List (Bor (List ℕ))) (i : ℕ) (all : List (Vec ℕ Global)) (bytes : Vec ℕ Global) (d : Bor (List ℕ)) → i < length files → AreTold holds (take i files) all → IsTold (holds (get_or files i d).now) bytes.items → AreTold holds (take (i + 1) files) (all ++ bytes ∷ [])
one_more_told holds files i all bytes d inside told read =
    subst (λ (t : List (Bor (List ℕ))). AreTold holds t (all ++ bytes ∷ [])) (sym (take_more files i d inside))
    (all_zipped_more (λ (f : Bor (List ℕ)) (b : Vec ℕ Global). IsTold (holds f.now) b.items) (take i files) all (get_or files i d) bytes told read)

-- the file at that place isn't read
pub unread_at : (files : List (Bor (List ℕ))) (i : ℕ) (fault : Fault) (d : Bor (List ℕ)) → i < length files → IsUnread (get_or files i d).now fault → Any (λ (f : Bor (List ℕ)). IsUnread f.now fault) files
unread_at files i fault d inside why = (i, get_or files i d, inside, get_or_default files i (get_or files i d) d inside, why)
