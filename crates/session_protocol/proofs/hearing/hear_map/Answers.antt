use Rattle.std.proofs.Common.{rules, arith, ◌≡◌, ◌+◌, ◌++◌, [], ◌∷◌, false, nat_eq, length, append-nil, inr, refl, ap, ◌∙◌, ℕ}
use Rattle.std.proofs.KnownBytes.{Consumes-trans}
use Rattle.session_protocol.proofs.MapLines.{told-byte, hears-whole, stops-over}
use Rattle.session_protocol.proofs.Reading.{one-more, then-failed, takes-kept, takes-end, takes-fewer, takes-more, takes-once}
use Rattle.session_protocol.proofs.hearing.hear_map.Goals as goal

pub returns-in-Err-clause-stopped : goal.returns-in-Err-clause-stopped
returns-in-Err-clause-stopped g c =
    (c.map.text.items, record { taken = Consumes-trans _ _ _ _ [] c.map.invariant.taken c.in-Err.ensures.bytes; unfinished = omega arith }, c.map.invariant.within)

pub returns-in-Ok-None-clause-heard : goal.returns-in-Ok-None-clause-heard
returns-in-Ok-None-clause-heard g c =
    let took = rw c.in-Ok-None.field-0-is at c.in-Ok-None.ensures.bytes in
    record {
      taken = rw append-nil at (Consumes-trans _ _ _ c.map.text.items [] c.map.invariant.taken took);
      within = c.map.invariant.within;
      whole = inr (omega arith, c.in-Ok-None.ensures.end c.in-Ok-None.field-0-is);
    }

pub returns-then-len-most-clause-stopped : goal.returns-then-len-most-clause-stopped
returns-then-len-most-clause-stopped g c =
    let took = rw c.in-Ok-Some.field-0-is at c.in-Ok-Some.ensures.bytes in
    (c.map.text.items, c.in-Ok-Some.byte, stops-over _ _ _ c.map.text.items c.in-Ok-Some.byte c.map.lines c.map.wanted c.map.invariant.taken took c.map.invariant.told c.map.invariant.unfinished, omega arith)

pub returns-in-Err-push-clause-stopped : goal.returns-in-Err-push-clause-stopped
returns-in-Err-push-clause-stopped g c =
    let took = rw c.in-Ok-Some.field-0-is at c.in-Ok-Some.ensures.bytes in
    (c.map.text.items, c.in-Ok-Some.byte, stops-over _ _ _ c.map.text.items c.in-Ok-Some.byte c.map.lines c.map.wanted c.map.invariant.taken took c.map.invariant.told c.map.invariant.unfinished, omega arith)

pub returns-then-lines-wanted-clause-heard : goal.returns-then-lines-wanted-clause-heard
returns-then-lines-wanted-clause-heard g c =
    let took = rw c.in-Ok-Some.field-0-is at c.in-Ok-Some.ensures.bytes in
    let feed : c.in-Ok-Some.byte ≡ 10 = search rules in
    let text : c.as_slice.result.now ≡ c.map.text.items ++ 10 ∷ [] = c.as_slice.ensures.value ∙ c.in-Ok.ensures.items ∙ ap (λ (b : ℕ). c.map.text.items ++ b ∷ []) feed in
    let told = rw text at (c.wanted_of-wanted.ensures c.map.text.items c.map.lines text refl c.map.invariant.told c.map.invariant.unfinished) in
    rw c.in-Ok.ensures.items (hears-whole _ _ _ c.args.most c.map.text.items c.in-Ok-Some.byte (c.map.lines + 1) c.wanted_of-wanted.result c.map.invariant.taken took feed (omega arith) told.0 told.1 c.if-lines-wanted.true)

pub map-preserved-else-lines-wanted : goal.map-preserved-else-lines-wanted
map-preserved-else-lines-wanted g c =
    let gave = rw c.in-Ok-Some.field-0-is at c.in-Ok-Some.ensures.gives in
    let feed : c.in-Ok-Some.byte ≡ 10 = search rules in
    let text : c.as_slice.result.now ≡ c.map.text.items ++ 10 ∷ [] = c.as_slice.ensures.value ∙ c.in-Ok.ensures.items ∙ ap (λ (b : ℕ). c.map.text.items ++ b ∷ []) feed in
    record {
      taken = rw c.in-Ok.ensures.items (Consumes-trans _ _ _ _ _ c.map.invariant.taken (rw c.in-Ok-Some.field-0-is at c.in-Ok-Some.ensures.bytes));
      within = omega arith;
      told = rw c.as_slice.ensures.value at (c.wanted_of-wanted.ensures c.map.text.items c.map.lines text refl c.map.invariant.told c.map.invariant.unfinished).0;
      unfinished = c.if-lines-wanted.false;
      well = one-more _ _ _ _ _ c.map.invariant.well c.in-Ok-Some.ensures.gives;
      took = rw c.in-Ok.ensures.items (takes-kept _ _ _ _ c.map.text.items c.in-Ok-Some.byte c.map.invariant.took gave);
      sound = search rules;
    }

pub map-preserved : goal.map-preserved
map-preserved g c =
    let gave = rw c.in-Ok-Some.field-0-is at c.in-Ok-Some.ensures.gives in
    let took = rw c.in-Ok-Some.field-0-is at c.in-Ok-Some.ensures.bytes in
    let other : nat_eq c.in-Ok-Some.byte 10 ≡ false = search rules in
    record {
      taken = rw c.in-Ok.ensures.items (Consumes-trans _ _ _ _ _ c.map.invariant.taken took);
      within = omega arith;
      told = rw c.in-Ok.ensures.items (told-byte c.map.text.items c.in-Ok-Some.byte c.map.lines c.map.wanted c.map.invariant.told other);
      unfinished = c.map.invariant.unfinished;
      well = one-more _ _ _ _ _ c.map.invariant.well c.in-Ok-Some.ensures.gives;
      took = rw c.in-Ok.ensures.items (takes-kept _ _ _ _ c.map.text.items c.in-Ok-Some.byte c.map.invariant.took gave);
      sound = search rules;
    }

-- No read is made after one that failed.
pub returns-in-Err-clause-reads : goal.returns-in-Err-clause-reads
returns-in-Err-clause-reads g c = then-failed _ _ _ _ _ c.map.invariant.well c.in-Err.ensures.gives

pub returns-in-Ok-None-clause-reads : goal.returns-in-Ok-None-clause-reads
returns-in-Ok-None-clause-reads g c = one-more _ _ _ _ _ c.map.invariant.well c.in-Ok-None.ensures.gives

pub returns-in-Err-push-clause-reads : goal.returns-in-Err-push-clause-reads
returns-in-Err-push-clause-reads g c = one-more _ _ _ _ _ c.map.invariant.well c.in-Ok-Some.ensures.gives

pub returns-then-len-most-clause-reads : goal.returns-then-len-most-clause-reads
returns-then-len-most-clause-reads g c = one-more _ _ _ _ _ c.map.invariant.well c.in-Ok-Some.ensures.gives

pub returns-then-lines-wanted-clause-reads : goal.returns-then-lines-wanted-clause-reads
returns-then-lines-wanted-clause-reads g c = one-more _ _ _ _ _ c.map.invariant.well c.in-Ok-Some.ensures.gives

-- No more bytes are taken than the bound and one.
pub returns-in-Err-clause-bounded : goal.returns-in-Err-clause-bounded
returns-in-Err-clause-bounded g c = takes-more _ _ 1 _ _ _ _ c.map.invariant.took (takes-once _ _ _ _ c.in-Err.ensures.gives) (omega arith)

pub returns-in-Ok-None-clause-took : goal.returns-in-Ok-None-clause-took
returns-in-Ok-None-clause-took g c =
    let gave = rw c.in-Ok-None.field-0-is at c.in-Ok-None.ensures.gives in
    takes-fewer _ (length c.map.text.items) _ _ _ (takes-end _ _ _ _ _ c.map.invariant.took gave) (omega arith)

pub returns-in-Ok-None-clause-bounded : goal.returns-in-Ok-None-clause-bounded
returns-in-Ok-None-clause-bounded g c = takes-more _ _ 1 _ _ _ _ c.map.invariant.took (takes-once _ _ _ _ c.in-Ok-None.ensures.gives) (omega arith)

pub returns-in-Err-push-clause-bounded : goal.returns-in-Err-push-clause-bounded
returns-in-Err-push-clause-bounded g c = takes-more _ _ 1 _ _ _ _ c.map.invariant.took (takes-once _ _ _ _ c.in-Ok-Some.ensures.gives) (omega arith)

pub returns-then-len-most-clause-bounded : goal.returns-then-len-most-clause-bounded
returns-then-len-most-clause-bounded g c = takes-more _ _ 1 _ _ _ _ c.map.invariant.took (takes-once _ _ _ _ c.in-Ok-Some.ensures.gives) (omega arith)

pub returns-then-lines-wanted-clause-took : goal.returns-then-lines-wanted-clause-took
returns-then-lines-wanted-clause-took g c =
    let gave = rw c.in-Ok-Some.field-0-is at c.in-Ok-Some.ensures.gives in
    rw c.in-Ok.ensures.items (takes-kept _ _ _ _ c.map.text.items c.in-Ok-Some.byte c.map.invariant.took gave)

pub returns-then-lines-wanted-clause-bounded : goal.returns-then-lines-wanted-clause-bounded
returns-then-lines-wanted-clause-bounded g c = takes-more _ _ 1 _ _ _ _ c.map.invariant.took (takes-once _ _ _ _ c.in-Ok-Some.ensures.gives) (omega arith)
