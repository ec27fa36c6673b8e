use Rattle.std.proofs.Common.{ℕ, Bor, rules, ◌∙◌}
use Rattle.fic_directory_places.proofs.Looked.{looked_up, sub_found}
use Rattle.fic_directory_places.proofs.sub_channel.Goals as goal

pub returns : goal.returns
returns c = sub_found _ _ c.copied.result _ c.if-subs-lt64.false (c.copied.ensures ∙ (search rules) ∙ looked_up (λ (x : Bor ℕ). x.now) _ _ c.get.result c.get.ensures.lookup) (search rules)
