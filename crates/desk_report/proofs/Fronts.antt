-- Laws of what a sink took: of a text in two parts, and of a text that stopped in the middle.
use Rattle.std.proofs.Common.{◌≡◌, ℕ, List, [], ◌++◌, refl, ap, ◌∙◌, sym, append_assoc, append-nil, take, drop, take-append-drop}
use Rattle.std.specs.Prelude.{Option, Result, Ok, Err, OnOk, OnErr}
use Rattle.std.specs.Io.KnownBytes.{Appends}
use Rattle.std.proofs.KnownBytes.{Appends-trans, Appends-nil}
use Rattle.std.proofs.lemmas.Result.{on_ok_weaker, on_err_weaker}
use Rattle.desk_report.specs.Bytes.{AppendsFront}

-- a prefix of the text is a prefix of a longer one
pub front-more : (a b : Option (List ℕ)) (text more : List ℕ) → AppendsFront a b text → AppendsFront a b (text ++ more)
front-more a b text more h = record {
  sent = h.sent;
  unsent = h.unsent ++ more;
  split = ap (λ l. l ++ more) h.split ∙ append_assoc h.sent h.unsent more;
  appends = h.appends;
}

-- a text, and then a prefix of the next
pub front-after : (a b c : Option (List ℕ)) (done text : List ℕ) → Appends a b done → AppendsFront b c text → AppendsFront a c (done ++ text)
front-after a b c done text d h = record {
  sent = done ++ h.sent;
  unsent = h.unsent;
  split = ap (λ l. done ++ l) h.split ∙ sym (append_assoc done h.sent h.unsent);
  appends = Appends-trans a b c done h.sent d h.appends;
}

-- a whole text is a prefix of a longer one
pub front-done : (a b : Option (List ℕ)) (done more : List ℕ) → Appends a b done → AppendsFront a b (done ++ more)
front-done a b done more d = record { sent = done; unsent = more; split = refl; appends = d }

-- so many bytes of the text, and then none
pub front-stop : (a b c : Option (List ℕ)) (text : List ℕ) (n : ℕ) → Appends a b (take n text) → Appends b c [] → AppendsFront a c text
front-stop a b c text n d e = record {
  sent = take n text ++ [];
  unsent = drop n text;
  split = sym (ap (λ l. l ++ drop n text) (append-nil (take n text)) ∙ take-append-drop n text);
  appends = Appends-trans a b c (take n text) [] d e;
}

-- nothing is a prefix of each text
pub front-none : (a : Option (List ℕ)) (text : List ℕ) → AppendsFront a a text
front-none a text = record { sent = []; unsent = text; split = refl; appends = Appends-nil a }

-- what holds, holds where there is an error
pub err-of : {T E P : Type 0} (r : Result T E) → P → OnErr r P
err-of (Ok value) h = tt
err-of (Err fault) h = h

-- a text, and then the last call's text
pub ok-after : {T E : Type 0} (r : Result T E) (a b c : Option (List ℕ)) (done text : List ℕ) → Appends a b done → OnOk r (Appends b c text) → OnOk r (Appends a c (done ++ text))
ok-after r a b c done text d h = on_ok_weaker r (Appends-trans a b c done text d) h

-- a text, and then a prefix of the last call's text
pub err-after : {T E : Type 0} (r : Result T E) (a b c : Option (List ℕ)) (done text : List ℕ) → Appends a b done → OnErr r (AppendsFront b c text) → OnErr r (AppendsFront a c (done ++ text))
err-after r a b c done text d h = on_err_weaker r (front-after a b c done text d) h

pub ruleset fronts = (front-more, front-after, front-done, front-none, front-stop, err-of, ok-after, err-after, Appends-trans, append_assoc)
