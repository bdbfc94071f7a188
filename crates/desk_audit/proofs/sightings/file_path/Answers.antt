use Rattle.std.proofs.Common.{◌<◌, refl, arith}
use Rattle.desk_audit.specs.Filing.{HasFiled}
use Rattle.desk_audit.specs.Index.{IsOf}
use Rattle.desk_audit.proofs.Paths.{seen_more}
use Rattle.desk_audit.proofs.sightings.file_path.Goals as goal

pub loop-time-init : goal.loop-time-init
loop-time-init c = record {
  moments_filed = c.requires.moments;
  passes_filed = c.requires.passes;
  keeps_moments = λ cell number pass h. h;
  keeps_passes = λ cell number pass h. h;
  has = record { seen = λ t cell lt. absurd (omega (arith, lt)); passed = λ t cell lt. absurd (omega (arith, lt)) };
}

pub loop-time-preserved : goal.loop-time-preserved
loop-time-preserved c =
    let before = c.loop-time.invariant in
    let filed = c.in_ok-file_place.ensures in
    record {
      moments_filed = filed.moments_filed;
      passes_filed = filed.passes_filed;
      keeps_moments = λ cell number pass h. filed.keeps_moments cell number pass (before.keeps_moments cell number pass h);
      keeps_passes = λ cell number pass h. filed.keeps_passes cell number pass (before.keeps_passes cell number pass h);
      has = record {
        seen = λ t cell lt there of. seen_more c.loop-time.moments c.file_place.new.moments c.args.agent c.loop-time.time c.args.plan.now (λ t. t) (λ t _. IsOf c.args.share t) filed.keeps_moments before.has.seen
            (λ cell there of. filed.has.seen c.loop-time.time cell refl there of) t cell lt there of;
        passed = λ t cell lt there of late rest. seen_more c.loop-time.passes c.file_place.new.passes c.args.agent c.loop-time.time c.args.plan.now (λ _. 0)
            (λ t cell. IsOf c.args.share t × (c.args.first_rest < t) × HasFiled c.args.rests.now cell 0) filed.keeps_passes
            (λ t cell lt there due. before.has.passed t cell lt there due.0 due.1 due.2) (λ cell there due. filed.has.passed c.loop-time.time cell refl there due.0 due.1 due.2) t cell lt there (of, late, rest);
      };
    }

pub returns : goal.returns
returns c =
    let filed = c.loop-time.invariant in
    record {
      moments_filed = filed.moments_filed;
      passes_filed = filed.passes_filed;
      keeps_moments = filed.keeps_moments;
      keeps_passes = filed.keeps_passes;
      has = record {
        seen = λ t cell early there of. filed.has.seen t cell (omega (arith, early)) there of;
        passed = λ t cell early there of late rest. filed.has.passed t cell (omega (arith, early)) there of late rest;
      };
    }
