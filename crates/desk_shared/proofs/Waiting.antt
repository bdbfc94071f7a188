-- A pass that is told one front after another.
use Rattle.std.proofs.Common.{◌≡◌, ℕ, ◌≤◌, refl, sym, ap, subst, ◌∙◌, arith}
use Rattle.desk_shared.specs.Passes.{PassState}
use Rattle.desk_shared.specs.Calls.{IsFront, with_floor}

-- the pass of before, with a floor that is no less
pub record IsRaised (old new : PassState) : Type 0 where
  pub is : new ≡ with_floor old new.floor
  pub floor : old.floor ≤ new.floor

pub raised_first : (pass : PassState) → IsRaised pass pass
raised_first pass = record { is = refl; floor = omega arith }

front_of : (old : PassState) (floor front : ℕ) (new : PassState) → old.floor ≤ floor → IsFront (with_floor old floor) front new → IsFront old front new
front_of old floor front new less told = record {
  new_floor = told.new_floor;
  no_less = omega (arith, less, told.no_less);
  found = told.found;
  goes_on = record {
    seen = told.goes_on.seen;
    floor = omega (arith, less, told.goes_on.floor);
    legal = told.goes_on.legal;
    within = told.goes_on.within;
    own = told.goes_on.own;
    numbered = told.goes_on.numbered;
    others = told.goes_on.others;
    past = told.goes_on.past;
  };
  told = told.told;
}

-- the last of several fronts is a front
pub front_again : (old mid new : PassState) (front : ℕ) → IsRaised old mid → IsFront mid front new → IsFront old front new
front_again old mid new front raised told = front_of old mid.floor front new raised.floor (subst (λ (p : PassState). IsFront p front new) raised.is told)

pub raised_again : (old mid new : PassState) (front : ℕ) → IsRaised old mid → IsFront mid front new → IsRaised old new
raised_again old mid new front raised told =
    let last = front_again old mid new front raised told in
    let at : new.floor ≡ front = ap (λ (p : PassState). p.floor) last.new_floor in
    record { is = last.new_floor ∙ ap (with_floor old) (sym at); floor = omega (arith, at, last.no_less) }
