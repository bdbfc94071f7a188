use Rattle.std.proofs.Common.{◌≡◌, ◌≢◌, inl, inr, Some, codes, true, false, sym}
use Rattle.std.proofs.lemmas.Result.{IfOk-weaker}
use Rattle.clap.specs.Matches.{found_of, one_text}
use Rattle.desk_cli.specs.Asked.{Asks, AsksFor}
use Rattle.desk_cli.proofs.asking.words_of.Goals as goal

pub returns-in-Some : goal.returns-in-Some
returns-in-Some c =
    let other : one_text (found_of c.args.matches.now) (codes "version") ≢ Some (codes "true") =
    λ is. let set : c.get_flag.result ≡ true = c.get_flag.ensures.value is in let unset : c.get_flag.result ≡ false = c.if-get_flag.false in absurd (cc) in
    IfOk-weaker c.named_words.result (AsksFor c.in-Some.name.now (found_of c.in-Some.inner.now)) (Asks c.args.matches.now)
    (λ words asks. inr (
      other,
      inl (record {
        name = c.in-Some.name.now;
        inner = found_of c.in-Some.inner.now;
        named = sym c.in-Some.ensures.name;
        rows = sym c.in-Some.ensures.rows;
        asks = asks;
      }),
    ))
    c.named_words.ensures
