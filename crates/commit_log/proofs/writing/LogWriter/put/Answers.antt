use Rattle.std.proofs.Common.{arith, ◌∙◌, ◌<◌, ◌^◌, ℕ, List, Option, sym, ap, subst, Some}
use Rattle.std.specs.Io.KnownBytes.{Appends}
use Rattle.commit_log.specs.Text.{check_of}
use Rattle.commit_log.specs.Crashes.{AppendsSome}
use Rattle.commit_log.proofs.Growing.{put-sealed, counts-more, appends-some, put-leaves, some-all}
use Rattle.commit_log.proofs.writing.LogWriter.put.Goals as goal

pub returns-in_err-append-clause-any_moment : goal.returns-in_err-append-clause-any_moment
returns-in_err-append-clause-any_moment g c head entries left counts is leaves =
    let check_is = c.check_of-check.ensures ∙ ap (check_of c.args.self.now.check) c.as_slice.ensures.value in
    let bytes_is = c.as_slice-2.ensures.value ∙ c.in_ok-bytes.ensures in
    let some = subst (λ (t : List ℕ). AppendsSome (g.L.Log.text c.args.self.now.log) (g.L.Log.text c.append.new.self) t) bytes_is c.in_err-append.ensures.some in
    let small : c.in-Some.number < 2 ^ 64 = omega (arith, c.in-Some.ensures) in
    put-leaves _ _ _ _ head entries c.args.entry.items left _ _ _ _ c.requires.entry small counts c.in-Some.ensures.1 check_is is c.append.ensures.kept some leaves

pub returns-clause-added : goal.returns-clause-added
returns-clause-added g c head entries counts is =
    let check_is = c.check_of-check.ensures ∙ ap (check_of c.args.self.now.check) c.as_slice.ensures.value in
    let bytes_is = c.as_slice-2.ensures.value ∙ c.in_ok-bytes.ensures in
    let done = subst (λ (t : List ℕ). Appends (g.L.Log.text c.args.self.now.log) (g.L.Log.text c.append.new.self) t) bytes_is c.in_ok-append.ensures.done in
    appends-some _ _ _ _ is done ∙ ap (λ (t : List ℕ). let o : Option (List ℕ) = Some t in o) (sym (put-sealed head entries c.args.entry.items _ _ _ _ counts c.in-Some.ensures.1 check_is))

pub returns-clause-counted : goal.returns-clause-counted
returns-clause-counted g c head entries counts =
    let check_is = c.check_of-check.ensures ∙ ap (check_of c.args.self.now.check) c.as_slice.ensures.value in
    counts-more head entries c.args.entry.items _ _ _ _ counts c.in-Some.ensures.1 check_is

pub returns-clause-any_moment : goal.returns-clause-any_moment
returns-clause-any_moment g c head entries left counts is leaves =
    let check_is = c.check_of-check.ensures ∙ ap (check_of c.args.self.now.check) c.as_slice.ensures.value in
    let bytes_is = c.as_slice-2.ensures.value ∙ c.in_ok-bytes.ensures in
    let some = subst (λ (t : List ℕ). AppendsSome (g.L.Log.text c.args.self.now.log) (g.L.Log.text c.append.new.self) t) bytes_is (some-all _ _ _ c.in_ok-append.ensures.done) in
    let small : c.in-Some.number < 2 ^ 64 = omega (arith, c.in-Some.ensures) in
    put-leaves _ _ _ _ head entries c.args.entry.items left _ _ _ _ c.requires.entry small counts c.in-Some.ensures.1 check_is is c.append.ensures.kept some leaves
