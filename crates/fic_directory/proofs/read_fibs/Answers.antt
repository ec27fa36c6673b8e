-- By the two lengths.
use Rattle.std.proofs.lemmas.Option.{MatchOption-at_some}
use Rattle.fic_directory.proofs.Answers.{refused, accepted}
use Rattle.fic_directory.proofs.read_fibs.Goals as goal

pub returns-then-subs-lt64 : goal.returns-then-subs-lt64
returns-then-subs-lt64 c = refused c.args.fibs.now _ c.then-subs-lt64.either

pub returns : goal.returns
returns c =
    let subs = MatchOption-at_some _ _ _ c.unwrap-subs.ensures c.first_chunk_mut.ensures.cases in
    let services = MatchOption-at_some _ _ _ c.unwrap-services.ensures c.first_chunk_mut-2.ensures.cases in
    accepted c.args.fibs.now _ _ _ c.read_all.result _ c.if-subs-lt64.false c.if-services-lt256.false subs.same services.same c.read_all.ensures
