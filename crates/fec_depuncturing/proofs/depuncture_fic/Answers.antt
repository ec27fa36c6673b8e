-- The params are those of the FIC's profile.
use Rattle.std.proofs.Common.{◌≡◌, refl, ap, length, rules}
use borrow.Author.Tests.{le-ltb}
use Rattle.spec_en300401.proofs.Puncturing.{fic_usable, fic-length}
use Rattle.fec_profiles.specs.Rows.{index, sections_of}
use Rattle.std.specs.Slice.Iter.{iter_rest}
use Rattle.refusal.specs.Outcome.{check}
use Rattle.fec_depuncturing.proofs.Depunctures.{fill_given}
use Rattle.fec_depuncturing.proofs.depuncture_fic.Goals as goal

pub returns : goal.returns
unfolding sections_of index
returns c =
    let h = c.if-out-lt3096.false in
    let all : iter_rest c.iter.result ≡ c.args.soft.now = search rules in
    fill_given (ap (check 8) (le-ltb (length c.args.out.now) 3096 h)) refl fic_usable fic-length h (rw all at c.fill_profile.ensures)
