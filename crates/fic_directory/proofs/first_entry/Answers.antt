-- By where the FIG ends.
use Rattle.std.proofs.Common.{ℕ, ◌≡◌, ◌%◌, get_or, arith, ap, ◌∙◌}
use Rattle.std.proofs.lemmas.List.{get_or_default}
use Rattle.std.proofs.lemmas.Bool.Decides.{nat_tests}
use Rattle.fic_directory.proofs.Services.{no_head, split_off}
use Rattle.fic_directory.proofs.first_entry.Goals as goal

pub returns-in_err-get : goal.returns-in_err-get
returns-in_err-get c = no_head c.args.wide c.args.rest.now c.sid_bytes-head.result _ c.sid_bytes-head.ensures (grind (arith, nat_tests, c.in_err-get.ensures)) c.from_residual.ensures

pub returns : goal.returns
returns c =
    let head = c.sid_bytes-head.result in
    let byte = c.in_ok-get.ensures.lookup in
    let is : c.from-components.result ≡ get_or c.args.rest.now head 0 % 16 = c.from-components.ensures ∙ ap (λ (n : ℕ). n % 16) (byte.1 ∙ get_or_default c.args.rest.now head _ 0 byte.3.0) in
    split_off c.args.wide c.args.rest.now head c.from-components.result _ c.sid_bytes-head.ensures byte.3.0 is c.split_at_checked.ensures.cases
