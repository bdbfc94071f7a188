-- Laws of what a sink took: texts one behind the other, and some text; and of whether a call of it has failed.
use Rattle.std.proofs.Common.{◌≡◌, ◌∙◌, ◌||◌, ℕ, Bool, false, List, [], ◌++◌, append_assoc}
use Rattle.std.proofs.Math.Bool.{or-false}
use Rattle.std.specs.Prelude.{Option, Result, OnOk}
use Rattle.std.specs.Io.KnownBytes.{Appends}
use Rattle.std.proofs.KnownBytes.{Appends-trans, Appends-nil}
use Rattle.std.proofs.lemmas.Result.{on_ok_weaker}
use Rattle.desk_report.proofs.Fronts.{ok-after}
use Rattle.desk_pictures.specs.Growth.{Grows, GrowsAround}

-- what is appended is some text
pub grows-of : (a b : Option (List ℕ)) (text : List ℕ) → Appends a b text → Grows a b
grows-of a b text h = record { text = text; appends = h }

pub grows-none : (a : Option (List ℕ)) → Grows a a
grows-none a = record { text = []; appends = Appends-nil a }

pub grows-more : (a b c : Option (List ℕ)) → Grows a b → Grows b c → Grows a c
grows-more a b c g h = record { text = g.text ++ h.text; appends = Appends-trans a b c g.text h.text g.appends h.appends }

-- the same, where the last call was well
pub ok-grows : {T E : Type 0} (r : Result T E) (a b : Option (List ℕ)) (text : List ℕ) → OnOk r (Appends a b text) → OnOk r (Grows a b)
ok-grows r a b text h = on_ok_weaker r (grows-of a b text) h

pub ok-grows-more : {T E : Type 0} (r : Result T E) (a b c : Option (List ℕ)) → Grows a b → OnOk r (Grows b c) → OnOk r (Grows a c)
ok-grows-more r a b c g h = on_ok_weaker r (grows-more a b c g) h

-- some text, that text, and again some text
pub grows-around : (a b c d : Option (List ℕ)) (text : List ℕ) → Grows a b → Appends b c text → Grows c d → GrowsAround a d text
grows-around a b c d text g h k = record {
  before = g.text;
  behind = k.text;
  appends = Appends-trans a c d (g.text ++ text) k.text (Appends-trans a b c g.text text g.appends h) k.appends;
}

pub ok-grows-around : {T E : Type 0} (r : Result T E) (a b c d : Option (List ℕ)) (text : List ℕ) → Grows a b → Appends b c text → OnOk r (Grows c d) → OnOk r (GrowsAround a d text)
ok-grows-around r a b c d text g h k = on_ok_weaker r (grows-around a b c d text g h) k

-- no call has failed, and one more hasn't
pub sound-on : (a b c : Bool) → b ≡ a → c ≡ (b || false) → c ≡ a
sound-on a b c h k = k ∙ or-false b ∙ h

pub ruleset growths = (grows-of, grows-none, grows-more, ok-grows, ok-grows-more)

pub ruleset texts = (ok-after, Appends-trans, append_assoc)

pub ruleset around = (ok-grows-around, grows-around)
