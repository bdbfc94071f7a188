use Rattle.std.proofs.Common.{◌≡◌, ℕ, Some, refl, sym, subst, ◌∙◌, inl, inr, arith}
use Rattle.std.specs.List.{slice_get}
use Rattle.std.proofs.lemmas.Bool.{cases_lt}
use Rattle.std.proofs.lemmas.Option.{same_Some, slice_get_read, slice_get_within}
use Rattle.desk_audit.specs.Filing.{Files}
use Rattle.desk_audit.specs.declared.sightings.Sightings.{Sightings}
use Rattle.desk_audit.proofs.shares.passes_in.Goals as goal

pub add_others-requires : goal.add_others-requires
add_others-requires c =
    (c.requires c.loop-share.share-index c.share-item.result (slice_get_read c.args.index.now _ c.loop-share.share-index c.share-item.result refl c.loop-share-test.true c.share-item.is)).2

pub loop-share-preserved : goal.loop-share-preserved
loop-share-preserved c k share pass lt at files apart =
    let i = c.loop-share.share-index in
    let item : Sightings = c.share-item.result in
    elim (cases_lt k i) [
      | inl lower ↦ c.in_ok-add_others.ensures.keeps pass (c.loop-share.invariant k share pass lower at files apart)
      | inr higher ↦
          let here : k ≡ i = omega arith in
          let there = slice_get_read c.args.index.now _ i item refl c.loop-share-test.true c.share-item.is in
          let is : item ≡ share = same_Some item share (sym there ∙ subst (λ (n : ℕ). slice_get c.args.index.now n ≡ Some share) here at) in
          c.in_ok-add_others.ensures.has pass (subst (λ (s : Sightings). Files s.passes c.args.cell 0 pass) (sym is) files) apart
    ]

pub returns : goal.returns
returns c k share pass at files apart = c.loop-share.invariant k share pass (omega (arith, slice_get_within c.args.index.now k share at)) at files apart
