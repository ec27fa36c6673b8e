use Rattle.std.proofs.Common.{◌≡◌, ◌∙◌, ap, ℕ, ◌/◌, length, take, arith}
use lib.ListN.{length-take}
use Rattle.std.specs.Simd.{first_chunks}
use Rattle.fic_directory_places.proofs.places_in.Goals as goal

pub returns-clause-long : goal.returns-clause-long
returns-clause-long c =
    let first = take 256 c.args.services.now in
    let many : length first / 4 ≡ 64 = omega (arith, length-take 256 c.args.services.now) in
    (omega arith, c.as_chunks.ensures.front ∙ ap (λ (n : ℕ). first_chunks 4 n first) many)
