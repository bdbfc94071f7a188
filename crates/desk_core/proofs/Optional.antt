-- What holds of the value of a result that is kept if there is one.
use Rattle.std.proofs.Common.{◌≡◌, ap, subst, Result, Ok, Err, Some, IfOk, Bool, true, false}
use Rattle.std.specs.Option.{unwrap_or, is_some}
use Rattle.std.specs.Result.{result_ok}

pub of_ok : {T E : Type 0} (r : Result T E) (P : T → Type 0) (x : T) → result_ok r ≡ Some x → IfOk r P → P x
of_ok (Ok v) P x e h = subst P (ap (λ o. unwrap_or o v) e) h
of_ok (Err w) P x e h = let wrong : false ≡ true = ap is_some e in absurd (cc)
