-- By the two lengths.
use Rattle.std.proofs.Common.{arith, rules}
use Rattle.std.proofs.lemmas.Grind.{common_steps}
use Rattle.fic_directory_places.specs.Promises.{directory_refusal}
use Rattle.fic_directory_places.proofs.Refusals.{zeroed}
use Rattle.fic_directory_places.proofs.empty.Goals as goal

pub returns-then-subs-lt64 : goal.returns-then-subs-lt64
unfolding directory_refusal
returns-then-subs-lt64 c = record { answer = grind (arith, common_steps); numbers = grind (arith, common_steps) }

pub returns : goal.returns
unfolding directory_refusal
returns c =
    record {
      answer = grind (arith, common_steps);
      numbers = zeroed _ _ _ c.if-subs-lt64.false c.if-services-lt256.false (c.fill.ensures.after (search rules)) (c.fill-2.ensures.after (search rules));
    }
