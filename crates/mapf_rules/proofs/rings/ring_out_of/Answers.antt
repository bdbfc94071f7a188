use Rattle.mapf_rules.proofs.rings.ring_out_of.Goals as goal

pub returns-in_default-clause-only : goal.returns-in_default-clause-only
returns-in_default-clause-only g c fleet ring tells found =
    let there = c.in_default.ensures.found fleet found.member tells (record { moves = found.out; only = λ other out. found.round.alone found.member other c.args.cell found.of found.out.from out }) in
    cc
