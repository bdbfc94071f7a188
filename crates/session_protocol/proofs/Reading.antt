-- How the reads of a session go on, one after the other.
use Rattle.std.proofs.Common.{arith, length-append, ◌≡◌, ℕ, ◌+◌, ◌≤◌, List, [], ◌∷◌, ◌++◌, length, map, true, false, refl, subst}
use Rattle.std.proofs.lemmas.List.{map-append}
use Rattle.std.specs.Prelude.{Option, Some, None, Result, Ok, Err, Bool, is_err}
use Rattle.desk_report.specs.Bytes.{Giving, bytes_got}
use Rattle.desk_report.specs.declared.bytes.source.ReadFailed.{ReadFailed}
use Rattle.session_protocol.specs.Reads.{NoneFailed, LastFailed, ReadsUntil, Calls, bytes_among, TakesAtMost, ReadsWithin}

module _ {S : Type 0} (gives : Giving S) where
  calls-on : (old mid new : S) (first later : List (Result (Option ℕ) ReadFailed)) → Calls gives old first mid → Calls gives mid later new → Calls gives old (first ++ later) new
  calls-on old mid new [] later same calls = subst (λ (at : S). Calls gives at later new) same calls
  calls-on old mid new (got ∷ first) later (next, given, more) calls = (next, given, calls-on next mid new first later more calls)

  pub and-then : (old mid new : S) → NoneFailed gives old mid → NoneFailed gives mid new → NoneFailed gives old new
  and-then old mid new first later = record {
    given = first.given ++ later.given;
    reads = rw (map-append {B = Result (Option ℕ) ReadFailed} Ok first.given later.given) (calls-on old mid new (map Ok first.given) (map Ok later.given) first.reads later.reads);
  }

  pub reads-once : (old new : S) (byte : Option ℕ) → gives old (Ok byte) new → NoneFailed gives old new
  reads-once old new byte given = record { given = byte ∷ []; reads = (new, given, refl) }

  pub one-more : (old mid new : S) (byte : Option ℕ) → NoneFailed gives old mid → gives mid (Ok byte) new → NoneFailed gives old new
  one-more old mid new byte well given = and-then old mid new well (reads-once mid new byte given)

  pub then-failed : (old mid new : S) (why : ReadFailed) → NoneFailed gives old mid → gives mid (Err why) new → LastFailed gives old new
  then-failed old mid new why well failed = record { before = mid; well = well; why = why; failed = failed }

  -- well so far, and then as told
  pub until-then : (failed : Bool) (old mid new : S) → NoneFailed gives old mid → ReadsUntil gives mid new failed → ReadsUntil gives old new failed
  until-then false old mid new well later = and-then old mid new well later
  until-then true old mid new well later = record {
    before = later.before;
    well = and-then old mid later.before well later.well;
    why = later.why;
    failed = later.failed;
  }

among-both : (first later : List (Result (Option ℕ) ReadFailed)) → bytes_among (first ++ later) ≡ bytes_among first + bytes_among later
among-both [] later = omega arith
among-both (got ∷ first) later = omega (arith, among-both first later)

module _ {S : Type 0} (gives : Giving S) where
  pub takes-more : (many more most : ℕ) (old mid new : S) → TakesAtMost gives many old mid → TakesAtMost gives more mid new → many + more ≤ most → TakesAtMost gives most old new
  takes-more many more most old mid new first later within = record {
    given = first.given ++ later.given;
    calls = calls-on gives old mid new first.given later.given first.calls later.calls;
    few = omega (arith, among-both first.given later.given, first.few, later.few);
  }

  takes-one : (old new : S) (got : Result (Option ℕ) ReadFailed) → gives old got new → TakesAtMost gives (length (bytes_got got)) old new
  takes-one old new got given = record { given = got ∷ []; calls = (new, given, refl); few = omega arith }

  -- one more byte came, and was kept
  pub takes-kept : (old mid new : S) (text : List ℕ) (byte : ℕ) → TakesAtMost gives (length text) old mid → gives mid (Ok (Some byte)) new → TakesAtMost gives (length (text ++ byte ∷ [])) old new
  takes-kept old mid new text byte first given = takes-more (length text) 1 (length (text ++ byte ∷ [])) old mid new first (takes-one mid new (Ok (Some byte)) given) (rw (length-append text (byte ∷ [])) (omega arith))

  -- the end came
  pub takes-end : (many : ℕ) (old mid new : S) → TakesAtMost gives many old mid → gives mid (Ok None) new → TakesAtMost gives many old new
  takes-end many old mid new first given = takes-more many 0 many old mid new first (takes-one mid new (Ok None) given) (omega arith)

  -- a greater bound
  pub takes-fewer : (many most : ℕ) (old new : S) → TakesAtMost gives many old new → many ≤ most → TakesAtMost gives most old new
  takes-fewer many most old new first within = record { given = first.given; calls = first.calls; few = omega (arith, first.few) }

  -- one call gives a byte at most
  pub takes-once : (old new : S) (got : Result (Option ℕ) ReadFailed) → gives old got new → TakesAtMost gives 1 old new
  takes-once old new (Ok (Some byte)) given = takes-one old new (Ok (Some byte)) given
  takes-once old new (Ok None) given = takes-fewer 0 1 old new (takes-one old new (Ok None) given) (omega arith)
  takes-once old new (Err why) given = takes-fewer 0 1 old new (takes-one old new (Err why) given) (omega arith)

  -- one read, whatever it gave
  pub read-once : (old new : S) (got : Result (Option ℕ) ReadFailed) → gives old got new → ReadsWithin gives 1 old new (is_err got)
  read-once old new (Ok byte) given = record { reads = reads-once gives old new byte given; bounded = takes-once old new (Ok byte) given }
  read-once old new (Err why) given = record { reads = record { before = old; well = record { given = []; reads = refl }; why = why; failed = given }; bounded = takes-once old new (Err why) given }

  -- well so far, and then as told
  pub reads-on : (failed : Bool) (many more most : ℕ) (old mid new : S) → ReadsWithin gives many old mid false → ReadsWithin gives more mid new failed → many + more ≤ most → ReadsWithin gives most old new failed
  reads-on failed many more most old mid new first later within = record {
    reads = until-then gives failed old mid new first.reads later.reads;
    bounded = takes-more many more most old mid new first.bounded later.bounded within;
  }
